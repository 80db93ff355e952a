-- `plans::lacks_room` meets its contract: nothing is lacking for no hold, and else the free rows are fewer than the plan's. Assumes nothing.
use mathlib.Core.Path.{ap, sym, ◌∙◌}
use mathlib.Core.Bool.{not}
use borrow.Author.Tests.{eqb-true}
use lib.ListN.{length}
use Rattle.model.specs.Words.{unpack}
use Rattle.plans.proofs.Planning.{room_for_none, room_is}
use Rattle.plans.proofs.lacks_room.Goals as goal

pub returns-then-not-is_empty : goal.returns-then-not-is_empty
returns-then-not-is_empty c =
    rw c.as_slice-lacking.ensures (room_is c.args.plan.now (unpack c.args.words.now) c.free_hold_rows.ensures)

pub returns-else-not-is_empty : goal.returns-else-not-is_empty
returns-else-not-is_empty c =
    let lacking = c.as_slice-lacking.result.now in
    let none = eqb-true (length lacking) 0 (sym c.is_empty.ensures ∙ c.if-not-is_empty.false) in
    ap not c.if-not-is_empty.false ∙ room_for_none c.args.plan.now (unpack c.args.words.now) (sym (ap length c.as_slice-lacking.ensures) ∙ none)
