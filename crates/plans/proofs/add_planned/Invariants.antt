-- `plans::add_planned` meets its contract: the rows left to add give what all of them give. Assumes nothing.
use Rattle.plans.proofs.Planning.{LeftToAdd}
use Rattle.plans.proofs.add_planned.Given as goal

abbrev pub invariant-loop-row : goal.invariant-loop-row
invariant-loop-row l = LeftToAdd l.row-items l.initial.words l.row-index l.words
