-- `walk_told::put_goal` meets its contract: the count, the end entry and the elements reach from the first word to the last. Assumes nothing.
use mathlib.Core.Path.{◌∙◌, ap}
use lib.ListN.{length, set}
use lib.Seq.{sets}
use Rattle.goals.specs.declared.Place.{Place}
use Rattle.walk_told.specs.Arrivals.{place_words, goal_words}
use Rattle.walk_told.proofs.Stored.{goal_stored}
use Rattle.walk_told.proofs.put_goal.Goals as goal

pub returns : goal.returns
unfolding goal_words
returns c =
    goal_stored c.args.goal.now c.args.walk.count _ c.args.walk.elements (ap length c.requires.0) c.requires.1.1
    (c.put_place.ensures ∙ ap (λ (q : Place). sets (set c.args.goal.now 0 c.args.walk.count) 1 (place_words q)) c.end_place.ensures)
    c.put_elements.ensures
