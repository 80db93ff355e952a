-- `shape::all_zeros` meets its contract: words joined bit by bit are 0 where all of them are. Assumes nothing.
use mathlib.Core.Path.{◌≡◌, ap, ◌∙◌}
use Prim.Native.Nat.{◌+◌, ◌-◌}
use native.Mathlib.Omega.{arith}
use borrow.Author.Tests.{tests}
use lib.Bits.{bit_or}
use lib.Dec.{eqb}
use lib.ListN.{take, drop}
use Rattle.std.proofs.Common.{rules}
use Rattle.std.proofs.lemmas.Iterator.{YieldsList-from_slice}
use Rattle.std.proofs.lemmas.Iterator.Consumers.{fold_from_yields_List}
use Rattle.rows.specs.Blocks.{target_words}
use Rattle.shape.proofs.NodeShapes.{joined_zeros}
use Rattle.shape.proofs.all_zeros.Goals as goal

pub returns : goal.returns
returns c =
    let room = take target_words (drop c.args.at c.args.words.now) in
    let wide : c.args.at + target_words - c.args.at ≡ target_words = omega arith in
    let words = YieldsList-from_slice room (c.iter.ensures.rest ∙ ap (λ n. take n (drop c.args.at c.args.words.now)) wide) in
    ap (λ n. eqb n 0) (fold_from_yields_List _ bit_or 0 _ c.fold.ensures.ran words (λ a x b q k. search (rules, tests))) ∙ joined_zeros room
