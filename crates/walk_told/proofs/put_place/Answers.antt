-- `walk_told::put_place` meets its contract: five words in a row. Assumes nothing.
use mathlib.Core.Path.{◌∙◌}
use native.Mathlib.Omega.{arith}
use Rattle.walk_told.specs.Arrivals.{place_words}
use Rattle.walk_told.proofs.Stored.{place_stored}
use Rattle.walk_told.proofs.put_place.Goals as goal

pub returns : goal.returns
unfolding place_words
returns c = place_stored c.args.goal.now c.args.at c.args.place _ c.told-goal c.requires (omega arith) (c.copy_from_slice.ensures.after ∙ rw c.from.ensures)
