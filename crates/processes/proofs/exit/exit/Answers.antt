-- `processes::exit::exit` meets its contract: 4, and then the holds are dropped and the process. Assumes nothing.
use mathlib.Core.Path.{refl}
use Rattle.model.specs.Calls.{drop_process, exit}
use Rattle.model.specs.Tables.{with_processes}
use Rattle.rows.proofs.Meeting.{grants, passes, refuses, then_becomes}
use Rattle.processes.proofs.exit.exit.Goals as goal

pub returns-then-is_unlisted : goal.returns-then-is_unlisted
unfolding exit
returns-then-is_unlisted c = refuses _ _ _ c.is_unlisted.ensures c.if-is_unlisted.true

pub returns : goal.returns
unfolding exit
returns c =
    passes _ _ _ c.is_unlisted.ensures c.if-is_unlisted.false (grants refl (then_becomes
    (λ t. with_processes t (drop_process c.args.process t.processes)) c.drop_of_process.ensures c.drop_process.ensures))
