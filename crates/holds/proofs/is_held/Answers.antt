-- `holds::is_held` meets its contract: the hold is on the place, and another user's. Assumes nothing.
use mathlib.Core.Path.{sym, ◌∙◌}
use Rattle.goals.specs.Goals.{PlaceNamed, place_at}
use Rattle.laws.proofs.Bools.{passed, stopped}
use Rattle.holds.specs.Asks.{holds_on}
use Rattle.holds.proofs.is_held.Goals as goal

pub hold_is_on-requires : goal.hold_is_on-requires
unfolding PlaceNamed
hold_is_on-requires c = c.requires

pub returns-then-hold_is_on : goal.returns-then-hold_is_on
unfolding holds_on place_at
returns-then-hold_is_on c = passed (sym c.hold_is_on.ensures ∙ c.if-hold_is_on.true) c.is_of_another.ensures

pub returns-else-hold_is_on : goal.returns-else-hold_is_on
unfolding holds_on place_at
returns-else-hold_is_on c = c.if-hold_is_on.false ∙ stopped _ (sym c.hold_is_on.ensures ∙ c.if-hold_is_on.false)
