-- `processes::exec::exec` meets its contract: 4, and then the holds are dropped. Assumes nothing.
use mathlib.Core.Path.{refl}
use Rattle.model.specs.Calls.{exec}
use Rattle.rows.proofs.Meeting.{grants, passes, refuses}
use Rattle.processes.proofs.exec.exec.Goals as goal

pub returns-then-is_unlisted : goal.returns-then-is_unlisted
unfolding exec
returns-then-is_unlisted c = refuses _ _ _ c.is_unlisted.ensures c.if-is_unlisted.true

pub returns : goal.returns
unfolding exec
returns c = passes _ _ _ c.is_unlisted.ensures c.if-is_unlisted.false (grants refl c.drop_of_process.ensures)
