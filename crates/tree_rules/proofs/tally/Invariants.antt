-- `tree_rules::tally` meets its contract: each entry is counted for the node that it leads to. Assumes nothing.
use Rattle.tree_rules.proofs.Nodes.{Counting}
use Rattle.tree_rules.proofs.tally.Given as goal

abbrev pub invariant-loop-row : goal.invariant-loop-row
invariant-loop-row l = Counting l.words l.counts l.row
