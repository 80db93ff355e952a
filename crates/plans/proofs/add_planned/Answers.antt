-- `plans::add_planned` meets its contract: the rows left to add give what all of them give. Assumes nothing.
use mathlib.Core.Path.{sym, subst}
use Rattle.laws.proofs.Each.{Each, each_at}
use Rattle.plans.proofs.Planning.{add_begin, add_end, add_on, blank_fine}
use Rattle.plans.specs.Plans.{Fine, blank_row, planned_holds}
use Rattle.plans.proofs.add_planned.Goals as goal

pub loop-row-init : goal.loop-row-init
loop-row-init c = add_begin c.as_slice-row-items.result.now c.requires.0

pub add_hold-requires : goal.add_hold-requires
add_hold-requires c =
    (c.loop-row.invariant.stands, each_at (subst (Each Fine) (sym c.as_slice-row-items.ensures) c.requires.1.fine) blank_fine c.loop-row.row-index)

pub loop-row-preserved : goal.loop-row-preserved
loop-row-preserved c = add_on c.as_slice-row-items.result.now c.loop-row.row-index blank_row c.loop-row-test.true c.loop-row.invariant c.add_hold.ensures

pub returns : goal.returns
unfolding planned_holds
returns c =
    rw (← c.as_slice-row-items.ensures)
    (add_end c.as_slice-row-items.result.now c.loop-row.row-index c.loop-row-test.false c.loop-row.invariant)
