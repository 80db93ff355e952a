-- `plans::is_planned` meets its contract: some row of the plan is of the hold. Assumes nothing.
use mathlib.Core.Path.{◌∙◌}
use borrow.Author.Rules.{rules}
use borrow.Author.Tests.{tests}
use Rattle.std.proofs.lemmas.Iterator.{YieldsList-from_slice}
use Rattle.std.proofs.lemmas.Iterator.Search.{any_from_yields_List}
use Rattle.plans.proofs.Planning.{any_same}
use Rattle.plans.specs.Plans.{planned_holds, same_rows}
use Rattle.plans.proofs.is_planned.Goals as goal

pub returns : goal.returns
unfolding planned_holds
returns c =
    let hold = c.args.hold in let rows = c.args.plan.now in
    any_from_yields_List (same_rows hold) _ _ c.any.result c.any.ensures.ran (YieldsList-from_slice rows (cc)) (λ x b q h. search (rules, tests))
    ∙ any_same hold c.requires.1 rows c.requires.0.fine
