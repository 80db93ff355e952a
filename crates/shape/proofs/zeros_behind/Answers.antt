-- `shape::zeros_behind` meets its contract: byte after byte. Assumes nothing.
use mathlib.Core.Path.{◌∙◌}
use borrow.Author.Tests.{tests}
use lib.Dec.{eqb}
use native.Mathlib.Omega.{arith}
use lib.ListN.{drop, length-drop}
use lib.Seq.{take_all}
use Rattle.std.proofs.Common.{rules}
use Rattle.std.proofs.lemmas.Iterator.{YieldsList-from_slice}
use Rattle.std.proofs.lemmas.Iterator.Search.{all_from_yields_List}
use Rattle.shape.specs.Shaped.{zeros}
use Rattle.shape.proofs.RowByRow.{all_same}
use Rattle.shape.proofs.zeros_behind.Goals as goal

pub returns : goal.returns
unfolding zeros
returns c =
    let behind = drop c.args.size c.args.target.now in
    let long = length-drop c.args.size c.args.target.now in
    let whole = c.iter.ensures.rest ∙ take_all _ behind (omega arith) in
    all_from_yields_List (λ x. eqb x 0) _ _ _ c.all.ensures.ran (YieldsList-from_slice behind whole) (λ x b q k. search (rules, tests)) ∙ all_same (λ x. eqb x 0) behind
