-- The blank place, as the derived `default` makes it: each of its numbers is 0. Assumes nothing.
use mathlib.Core.Path.{◌≡◌}
use Rattle.goals.specs.declared.Place.{Place}
use Rattle.goals.specs.Goals.{blank}

pub blank_made : {q : Place} → (q.directory ≡ 0) × ((q.name.first ≡ 0) × ((q.name.second ≡ 0) × ((q.name.third ≡ 0) × (q.name.fourth ≡ 0)))) → q ≡ blank
unfolding blank
blank_made h =
    λ i. record { directory = h.0 i; name = record { first = h.1.0 i; second = h.1.1.0 i; third = h.1.1.1.0 i; fourth = h.1.1.1.1 i } }
