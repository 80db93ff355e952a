-- `processes::enter::enter` meets its contract: 5, 6, and then the process is listed. Assumes nothing.
use mathlib.Core.Path.{refl}
use Rattle.model.specs.Calls.{enter}
use Rattle.rows.proofs.Meeting.{grants, passes, refuses}
use Rattle.processes.proofs.enter.enter.Goals as goal

pub returns-then-is_listed : goal.returns-then-is_listed
unfolding enter
returns-then-is_listed c = refuses _ _ _ c.is_listed.ensures c.if-is_listed.true

pub returns-then-lacks_process_row : goal.returns-then-lacks_process_row
unfolding enter
returns-then-lacks_process_row c = passes _ _ _ c.is_listed.ensures c.if-is_listed.false (refuses _ _ _ c.lacks_process_row.ensures c.if-lacks_process_row.true)

pub returns : goal.returns
unfolding enter
returns c =
    passes _ _ _ c.is_listed.ensures c.if-is_listed.false
    (passes _ _ _ c.lacks_process_row.ensures c.if-lacks_process_row.false (grants refl c.add_process.ensures))
