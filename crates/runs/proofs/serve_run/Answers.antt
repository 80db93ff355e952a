-- `runs::serve_run` meets its contract: what was done and what is left give what the whole run gives. Assumes nothing.
use mathlib.Core.Path.{◌≡◌}
use native.Mathlib.Omega.{arith}
use lib.ListN.{length}
use Rattle.std.proofs.lemmas.List.{set-get_or}
use Rattle.runs.proofs.Onward.{goes_on, going_starts, next_within, stops_full, stops_short}
use Rattle.model.specs.Answers.{answer_slot}
use Rattle.runs.proofs.serve_run.Goals as goal

pub loop-served-init : goal.loop-served-init
loop-served-init c = going_starts (record { right = c.sound_and_index-is_sound.ensures.0; indexed = c.sound_and_index-is_sound.ensures.1 })

pub slice_bounds-bytes-count : goal.slice_bounds-bytes-count
slice_bounds-bytes-count c = omega (arith, c.loop-served.invariant.inside)

pub serve_whole-requires : goal.serve_whole-requires
serve_whole-requires c = c.loop-served.invariant.tested

-- no whole record is left
pub returns-in_default : goal.returns-in_default
returns-in_default c =
    let same = set-get_or c.loop-served.answers c.loop-served.served 0 in
    rw same (stops_short c.loop-served.invariant c.in_default.ensures.0.0 c.in_default.ensures.0.1)

pub overflow_add-taken : goal.overflow_add-taken
overflow_add-taken c =
    let inside = next_within c.loop-served.invariant c.in-Some.ensures.0.0 c.in-Some.ensures.0.1 in
    omega arith

-- a whole record was left, and was served into its slot:
-- what is done and what is left still give the whole
pub loop-served-preserved : goal.loop-served-preserved
unfolding answer_slot
loop-served-preserved c =
    let going = c.loop-served.invariant in
    let whole = c.in-Some.ensures in
    goes_on going whole.0.0 whole.0.1 (omega (arith, going.slots_long)) whole.1 c.serve_whole.auto.words c.told_answer.ensures

pub returns : goal.returns
returns c =
    let going = c.loop-served.invariant in
    let all : length c.loop-served.answers ≡ c.loop-served.served = omega (arith, going.slots_long) in
    rw all (stops_full going (omega arith))
