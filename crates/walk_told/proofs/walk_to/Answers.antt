-- `walk_told::walk_to` meets its contract: 1, 3, and what the walk comes to. Assumes nothing.
use mathlib.Core.Path.{refl, sym, ◌∙◌}
use Rattle.laws.proofs.Words.{sound_has_sound_rows}
use Rattle.walk_told.proofs.Reached.{unsound_arrives, invalid_arrives, walk_arrives, walk_roomy}
use mathlib.Core.Path.{ap}
use mathlib.Core.Bool.{not}
use Rattle.walk_told.proofs.walk_to.Goals as goal

pub returns-then-not-sound_and_index : goal.returns-then-not-sound_and_index
returns-then-not-sound_and_index c =
    unsound_arrives c.args.words.now c.args.path.now c.args.follow_last c.sound_and_index.ensures.0
    (ap not c.if-not-sound_and_index.true)

pub returns-then-not-valid_path : goal.returns-then-not-valid_path
returns-then-not-valid_path c =
    invalid_arrives c.args.words.now c.args.path.now c.args.follow_last c.sound_and_index.ensures.0
    (ap not c.if-not-sound_and_index.false) c.valid_path.ensures (ap not c.if-not-valid_path.true)

pub walk-walked-requires : goal.walk-walked-requires
walk-walked-requires c =
    let found-sound = c.if-not-sound_and_index.false in
    let rows = sound_has_sound_rows c.args.words.now (sym c.sound_and_index.ensures.0 ∙ found-sound) in
    record { indexed = c.sound_and_index.ensures.1 found-sound; sound = rows; valid = sym c.valid_path.ensures ∙ c.if-not-valid_path.false }

pub put_goal-requires : goal.put_goal-requires
put_goal-requires c =
    let roomy =
    walk_roomy c.args.words.now c.args.path.now c.args.follow_last
    (sym c.sound_and_index.ensures.0 ∙ c.if-not-sound_and_index.false) c.walk-walked.ensures in
    (refl, (roomy.few, roomy.room))

pub returns : goal.returns
returns c =
    walk_arrives c.args.words.now c.args.path.now c.args.follow_last c.sound_and_index.ensures.0
    (ap not c.if-not-sound_and_index.false) c.valid_path.ensures (ap not c.if-not-valid_path.false) c.walk-walked.ensures c.put_goal.ensures
    c.arrival_at.ensures
