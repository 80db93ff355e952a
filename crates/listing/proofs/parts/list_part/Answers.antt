-- What was done and what the rest gives are together what the whole gives, line after line, and at each return.
use Rattle.std.proofs.Common.{arith}
use Rattle.listing.proofs.PartRuns.{onward_first, stops_over, stops_more, stops_full, last_room, stops_last, line_taken, line_room, line_place, line_less, goes_on}
use Rattle.listing.proofs.parts.list_part.Goals as goal

pub loop-taken-init : goal.loop-taken-init
loop-taken-init c = (
  onward_first _ _ _ _ _ (omega (arith, c.ranges.place.fits)),
  record { right = c.sound_and_index-is_sound.ensures.0; indexed = c.sound_and_index-is_sound.ensures.1 },
)

pub overflow_add-from : goal.overflow_add-from
overflow_add-from c =
    let there = line_taken c.loop-taken.invariant.0 c.next_line.ensures.0 c.in-Line.is in
    record { fits = omega (arith, there, c.well_formed) }

pub overflow_add-at : goal.overflow_add-at
overflow_add-at c =
    let there = line_room c.loop-taken.invariant.0 c.next_line.ensures.0 c.in-Line.is in
    record { fits = omega (arith, there, c.loop-taken.invariant.0.out_long, c.well_formed) }

pub overflow_add-place : goal.overflow_add-place
overflow_add-place c = record { fits = omega (arith, line_place c.loop-taken.invariant.0 c.next_line.ensures.0 c.in-Line.is) }

pub loop-taken-smaller : goal.loop-taken-smaller
loop-taken-smaller c = line_less c.loop-taken.invariant.0 c.next_line.ensures.0 c.in-Line.is

pub loop-taken-preserved : goal.loop-taken-preserved
loop-taken-preserved c = (
  goes_on c.loop-taken.invariant.0 c.next_line.ensures.0 c.in-Line.is c.next_line.auto.words c.next_line.auto.out,
  c.next_line.ensures.1,
)

pub overflow_add-length : goal.overflow_add-length
overflow_add-length c =
    let room = last_room c.loop-taken.invariant.0 c.next_line.ensures.0 c.in-Last.is c.next_line.auto.out in
    record { fits = omega (arith, room, c.loop-taken.invariant.0.out_long, c.well_formed) }

pub returns-in-Last : goal.returns-in-Last
returns-in-Last c = stops_last c.loop-taken.invariant.0 c.next_line.ensures.0 c.in-Last.is c.next_line.auto.out

pub returns-in-Over : goal.returns-in-Over
returns-in-Over c = stops_over c.loop-taken.invariant.0 c.next_line.ensures.0 c.in-Over.is

pub returns-in-More : goal.returns-in-More
returns-in-More c = stops_more c.loop-taken.invariant.0 c.next_line.ensures.0 c.in-More.is

pub returns-in-Full : goal.returns-in-Full
returns-in-Full c = stops_full c.loop-taken.invariant.0 c.next_line.ensures.0 c.in-Full.is
