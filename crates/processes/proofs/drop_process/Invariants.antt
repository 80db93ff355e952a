-- `processes::drop_process` meets its contract: the rows left to drop give what the whole drop gives. Assumes nothing.
use Rattle.model.specs.Calls.{drop_process}
use Rattle.model.specs.Words.{unpack}
use Rattle.model.specs.Tables.{with_processes}
use Rattle.processes.proofs.Rows.{dropping_process}
use Rattle.holds.proofs.Towards.{Towards}
use Rattle.processes.proofs.drop_process.Given as goal

abbrev pub invariant-loop-row : goal.invariant-loop-row
invariant-loop-row l =
    Towards (dropping_process l.process) (with_processes (unpack l.initial.words) (drop_process l.process (unpack l.initial.words).processes)) l.row l.words
