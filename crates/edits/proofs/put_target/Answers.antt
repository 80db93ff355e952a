-- `edits::put_target` meets its contract: what is left to store gives the whole. Assumes nothing.
use native.Mathlib.Omega.{arith}
use Rattle.edits.proofs.Written.{target_word_is}
use Rattle.laws.proofs.Loops.{store_done, store_onward, store_start}
use Rattle.laws.proofs.Pieces.{filled_length, words_length}
use Rattle.model.specs.Lists.{filled}
use Rattle.model.specs.Words.{words}
use Rattle.model.specs.Paths.{longest_target}
use Rattle.rows.specs.Blocks.{target_words}
use Rattle.edits.proofs.put_target.Goals as goal

pub loop-k-init : goal.loop-k-init
loop-k-init c = store_start c.args.at (words (filled longest_target c.args.target.now)) c.args.nodes.now

pub loop-k-preserved : goal.loop-k-preserved
loop-k-preserved c =
    let target = c.args.target.now in
    store_onward c.args.at (words (filled longest_target target)) c.loop-k.nodes
    c.loop-k.k 0 (omega (arith, words_length target_words (filled longest_target target) (filled_length longest_target target)))
    (target_word_is target c.loop-k.k c.loop-k-test.true c.four_bytes.ensures) c.loop-k.invariant

pub returns : goal.returns
returns c =
    let target = c.args.target.now in
    store_done c.args.at (words (filled longest_target target)) c.loop-k.nodes c.loop-k.k
    (omega (arith, words_length target_words (filled longest_target target) (filled_length longest_target target))) c.loop-k.invariant
