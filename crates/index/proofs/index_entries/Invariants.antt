-- `index::index_entries` meets its contract: each used row is looked for among the rows before it, and then chained. Assumes nothing.
use Rattle.index.proofs.Entries.{Building}
use Rattle.index.proofs.index_entries.Given as goal

abbrev pub invariant-loop-row : goal.invariant-loop-row
invariant-loop-row l = Building l.words l.index l.row
