-- `rows::bytes_at` meets its contract: what is left to store gives the whole. Assumes nothing.
use mathlib.Core.Path.{◌∙◌, sym}
use native.Mathlib.Omega.{arith}
use lib.ListN.{drop, length-drop, length-take, take}
use lib.Seq.{get_or-drop, get_or-take, length-take-le}
use Rattle.model.specs.Words.{bytes}
use Rattle.rows.proofs.Bytes.{bytes_end, bytes_start, bytes_step}
use Rattle.rows.specs.Blocks.{target_words}
use Rattle.rows.proofs.bytes_at.Goals as goal

pub loop-k-init : goal.loop-k-init
loop-k-init c =
    let w = c.args.words.now in
    let at = c.args.at in
    bytes_start (take target_words (drop at w)) (length-take-le target_words (drop at w) (omega (arith, length-drop at w)))

pub loop-k-preserved : goal.loop-k-preserved
loop-k-preserved c =
    let w = c.args.words.now in
    let at = c.args.at in
    let k = c.loop-k.k in
    bytes_step (take target_words (drop at w)) c.loop-k.out (bytes (take target_words (drop at w))) k
    (omega (arith, length-take-le target_words (drop at w) (omega (arith, length-drop at w))))
    (sym (get_or-take target_words (drop at w) k 0 c.loop-k-test.true ∙ get_or-drop at w k 0)) (omega arith)
    (c.copy_from_slice.ensures.after ∙ c.to_be_bytes.ensures) c.loop-k.invariant

pub returns : goal.returns
returns c =
    let w = c.args.words.now in
    let at = c.args.at in
    bytes_end (take target_words (drop at w)) c.loop-k.out (bytes (take target_words (drop at w))) c.loop-k.k
    (omega (arith, length-take target_words (drop at w))) c.loop-k.invariant
