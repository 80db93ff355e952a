-- `walk_told::put_elements` meets its contract: what is left to store gives the whole. Assumes nothing.
use mathlib.Core.Path.{◌≡◌}
use Prim.Native.Nat.{◌+◌, ◌*◌}
use lib.ListN.{drop}
use lib.Seq.{sets}
use Rattle.model.specs.Lists.{joined}
use Rattle.walk_told.specs.Arrivals.{place_size, elements_at, place_words}
use Rattle.walk_told.proofs.put_elements.Given as goal

abbrev pub invariant-loop-i : goal.invariant-loop-i
invariant-loop-i l =
    sets l.goal (elements_at + l.i * place_size) (joined place_words (drop l.i l.element-items)) ≡ sets l.initial.goal elements_at (joined place_words l.element-items)
