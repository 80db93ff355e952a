-- Walking names, resolving one and following a link are one cycle of calls: each call leaves fewer links to follow, or stands earlier in the cycle;
-- names go by a loop, in which the bytes left fall. Assumes nothing.
use Prim.Native.Nat.{◌+◌, ◌*◌, ◌-◌}
use lib.ListN.{length}
use Rattle.walk.proofs.Steps.{Walking}
use Rattle.walk.proofs.+follow_link_resolve_walk_names.Given as goal

abbrev pub decreases-follow_link : goal.decreases-follow_link
decreases-follow_link l = 3 * (8 - l.trail.count)

abbrev pub decreases-resolve : goal.decreases-resolve
decreases-resolve l = 3 * (8 - l.trail.count) + 1

abbrev pub decreases-walk_names : goal.decreases-walk_names
decreases-walk_names l = 3 * (8 - l.from.count) + 2

abbrev pub invariant-walk_names-loop-start : goal.invariant-walk_names-loop-start
invariant-walk_names-loop-start l = Walking l.words l.index l.path l.follow_last l.fn.from l.at l.trail

abbrev pub decreases-walk_names-loop-start : goal.decreases-walk_names-loop-start
decreases-walk_names-loop-start l = length l.path - l.at
