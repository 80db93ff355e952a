-- What was done and what the rest gives are together what the whole gives; each line takes a byte or more, so fewer are left.
use Rattle.std.proofs.Common.{length, ◌-◌}
use Rattle.runs.specs.Tested.{Tested}
use Rattle.listing.proofs.PartRuns.{Onward}
use Rattle.listing.proofs.parts.list_part.Given as goal

abbrev pub invariant-loop-taken : goal.invariant-loop-taken
invariant-loop-taken l =
    Onward l.initial.words l.bytes l.last l.initial.place l.initial.out l.words l.out l.from l.at l.place × Tested l.words l.index l.is_sound

abbrev pub decreases-loop-taken : goal.decreases-loop-taken
decreases-loop-taken l = length l.bytes - l.from
