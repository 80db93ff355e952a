-- `records::copy_to` meets its contract: the first i bytes are copied, and nothing else has changed. Assumes nothing.
use mathlib.Core.Path.{◌≡◌}
use lib.Seq.{paste}
use Rattle.records.proofs.copy_to.Given as goal

abbrev pub invariant-loop-i : goal.invariant-loop-i
invariant-loop-i l = l.destination ≡ paste l.initial.destination l.at l.source l.i
