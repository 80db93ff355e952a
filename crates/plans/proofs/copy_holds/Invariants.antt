-- `plans::copy_holds` meets its contract: the rows left to copy give what all of them give. Assumes nothing.
use Rattle.plans.proofs.Copying.{LeftToCopy}
use Rattle.plans.proofs.copy_holds.Given as goal

abbrev pub invariant-loop-row : goal.invariant-loop-row
invariant-loop-row l = LeftToCopy l.parent l.child l.initial.words l.row l.words
