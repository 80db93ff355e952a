-- In `verdicts::list_all` the unread bytes are within the buffer.
use Rattle.std.proofs.Common.{◌≤◌, length}
use Rattle.verdicts.proofs.list_all.Given as goal

abbrev pub invariant-loop : goal.invariant-loop
invariant-loop l = l.standing.unread ≤ length l.bytes
