-- `processes::drop_process` meets its contract: the rows left to drop give what the whole drop gives. Assumes nothing.
use native.Mathlib.Omega.{arith}
use Rattle.processes.proofs.Rows.{process_begin, process_end, process_on}
use Rattle.processes.proofs.drop_process.Goals as goal

pub loop-row-init : goal.loop-row-init
loop-row-init c = process_begin c.args.process c.requires

pub loop-row-preserved : goal.loop-row-preserved
loop-row-preserved c = process_on c.args.process c.loop-row.row (omega arith) c.loop-row.invariant c.drop_if_process.ensures

pub returns : goal.returns
returns c = process_end c.args.process c.loop-row.row c.loop-row-test.false c.loop-row.invariant
