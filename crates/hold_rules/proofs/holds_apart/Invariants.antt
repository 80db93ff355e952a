-- `hold_rules::holds_apart` meets its contract: each used row is looked for among the rows before it, and then chained. Assumes nothing.
use Rattle.hold_rules.proofs.Holds.{Comparing}
use Rattle.hold_rules.proofs.holds_apart.Given as goal

abbrev pub invariant-loop-row : goal.invariant-loop-row
invariant-loop-row l = Comparing l.words l.holds l.row-counter
