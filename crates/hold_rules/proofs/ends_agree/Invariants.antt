-- `hold_rules::ends_agree` meets its contract: each end hold is compared with the last before it on its place, and then chained. Assumes nothing.
use Rattle.hold_rules.proofs.Ends.{Agreeing}
use Rattle.hold_rules.proofs.ends_agree.Given as goal

abbrev pub invariant-loop-row : goal.invariant-loop-row
invariant-loop-row l = Agreeing l.words l.ends l.row
