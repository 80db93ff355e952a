-- `hold_rules::used_hold_rows` meets its contract: rows are passed from the last on while they are free. Assumes nothing.
use Rattle.hold_rules.proofs.Used.{FreeFrom}
use Rattle.hold_rules.proofs.used_hold_rows.Given as goal

abbrev pub invariant-loop-row : goal.invariant-loop-row
invariant-loop-row l = FreeFrom l.words l.row
