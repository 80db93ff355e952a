-- The tests of creation and removal: those that two others make up, and those that ask where a walk stopped. Assumes nothing.
use mathlib.Core.Path.{◌≡◌, refl, sym, ◌∙◌}
use mathlib.Core.Bool.{Bool, true, false, ◌||◌}
use mathlib.Core.Option.{none, some}
use Prim.Native.Nat.{ℕ}
use Rattle.model.specs.Tables.{Place}
use Rattle.model.specs.Walk.{Goal}
use Rattle.model.specs.Calls.{at_root}
use Rattle.goals.specs.declared.Place as goal_place
use Rattle.goals.specs.declared.Stop.{Stop}
use Rattle.goals.specs.declared.Stop.TheVariants.{Refused, Root, Entry}
use Rattle.goals.specs.declared.Walk.{Walk}
use Rattle.goals.specs.Goals.{end_at, goal_of}

module _ (y : Bool) {x a : Bool} (e : a ≡ x) where
  pub first_applies : a ≡ true → true ≡ (x || y)
  first_applies t = let k : x ≡ true = sym e ∙ t in rw k refl

  pub second_decides : a ≡ false → {b : Bool} → b ≡ y → b ≡ (x || y)
  second_decides t q = let k : x ≡ false = sym e ∙ t in rw k q

-- a walk that stopped at no entry has no end
pub no_end : (w : Walk) → ((q : goal_place.Place) (n : ℕ) → w.stop ≡ Entry q n → ⊥) → (goal_of w).end ≡ none
unfolding goal_of end_at
no_end w nowhere = go w.stop nowhere
  where
    go : (s : Stop) → ((q : goal_place.Place) (n : ℕ) → s ≡ Entry q n → ⊥) → end_at s ≡ none
    go (Refused n) f = refl
    go Root f = refl
    go (Entry q n) f = absurd (f q n refl)

pub root_is : (g : Goal) → g.end ≡ none → true ≡ at_root g
unfolding at_root
root_is g e = sym (simp (e, at_root))

pub root_not : (g : Goal) {q : Place} → g.end ≡ some q → false ≡ at_root g
unfolding at_root
root_not g e = sym (simp (e, at_root))
