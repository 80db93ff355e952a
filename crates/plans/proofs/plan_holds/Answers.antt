-- `plans::plan_holds` meets its contract: the elements, then the end entry. Assumes nothing.
use native.Mathlib.Omega.{arith}
use Rattle.model.specs.Tables.{end_role}
use Rattle.model.specs.Words.{unpack}
use Rattle.plans.proofs.Planning.{elements_few, end_used, plan_with_end, plan_without_end, wanted_fine}
use Rattle.holds.proofs.Ways.{end_named, entry_end, no_entry_end}
use Rattle.plans.proofs.plan_holds.Goals as goal

pub wish-requires : goal.wish-requires
wish-requires c =
    let process = c.args.process in let walk = c.args.walk in let named = c.requires.1.0 in
    let few = elements_few process walk.count walk.elements in
    let fine = wanted_fine process end_role _ c.hold_row.ensures (omega arith) (omega arith) (end_named walk named c.in-Entry.is)
    (end_used walk c.requires.1.1 c.in-Entry.is) in
    (c.requires.0, (c.plan_elements-plan.ensures.planned, (omega (arith, c.plan_elements-plan.ensures.few, few, named.few), fine)))

pub returns-in_default : goal.returns-in_default
returns-in_default c =
    let walk = c.args.walk in
    plan_without_end (unpack c.args.words.now).holds c.args.process walk c.plan_elements-plan.ensures (no_entry_end walk c.in_default.not-Entry)

pub returns-in-Entry : goal.returns-in-Entry
returns-in-Entry c =
    let walk = c.args.walk in
    plan_with_end (unpack c.args.words.now).holds c.args.process walk c.plan_elements-plan.ensures (entry_end walk c.in-Entry.is)
    c.hold_row.ensures c.wish.ensures
