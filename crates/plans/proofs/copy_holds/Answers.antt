-- `plans::copy_holds` meets its contract: the rows left to copy give what all of them give. Assumes nothing.
use native.Mathlib.Omega.{arith}
use Rattle.plans.proofs.Copying.{copy_begin, copy_end, copy_on}
use Rattle.plans.proofs.copy_holds.Goals as goal

pub loop-row-init : goal.loop-row-init
loop-row-init c = copy_begin c.args.parent c.args.child c.requires.0

pub copy_row-requires : goal.copy_row-requires
copy_row-requires c = (c.loop-row.invariant.stands, (omega arith, c.requires.1.0))

pub loop-row-preserved : goal.loop-row-preserved
loop-row-preserved c =
    copy_on c.args.parent c.args.child c.requires.1.0 c.requires.1.1 c.loop-row.row (omega arith) c.loop-row.invariant c.copy_row.ensures

pub returns : goal.returns
returns c = copy_end c.args.parent c.args.child c.loop-row.row (omega arith) c.loop-row.invariant
