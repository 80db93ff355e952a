-- A call that looks is told seen, or goes on to hold, by one test. Assumes nothing.
use mathlib.Core.Path.{◌≡◌, sym, ◌∙◌}
use mathlib.Core.Bool.{Bool, true, false, not, ◌&&◌}
use Prim.Native.Nat.{ℕ}
use Rattle.model.specs.Tables.{Tables}
use Rattle.model.specs.Walk.{Goal}
use Rattle.model.specs.Holds.{root, end_held}
use Rattle.model.specs.Calls.{grant, hold_at, seen_or_held}
use Rattle.model.specs.declared.Answer.TheVariants.{Seen}

module _ (t : Tables) (p : ℕ) (g : Goal) {b : Bool} (e : b ≡ (end_held t p g && not (root t p))) where
  pub is_seen : b ≡ true → seen_or_held t p g ≡ grant (Seen g.node) t
  unfolding seen_or_held
  is_seen h = let k : (end_held t p g && not (root t p)) ≡ true = sym e ∙ h in simp (k, seen_or_held)

  pub is_held : b ≡ false → seen_or_held t p g ≡ hold_at t p g
  unfolding seen_or_held
  is_held h = let k : (end_held t p g && not (root t p)) ≡ false = sym e ∙ h in simp (k, seen_or_held)
