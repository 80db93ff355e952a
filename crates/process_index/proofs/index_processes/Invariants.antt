-- `process_index::index_processes` meets its contract: each used row is looked for among the rows before it, and then chained. Assumes nothing.
use Rattle.process_index.proofs.Processes.{Building}
use Rattle.process_index.proofs.index_processes.Given as goal

abbrev pub invariant-loop-row : goal.invariant-loop-row
invariant-loop-row l = Building l.words l.index l.row
