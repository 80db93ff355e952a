-- A row cleared where it passes a test. Assumes nothing.
use Rattle.std.specs.Prelude.{Bool, true, false, List, ℕ, get_or, set}

module _ {A : Type 0} (f : A → Bool) (blank : A) where
  unfoldable pub clear_at : ℕ → List A → List A
  clear_at i xs = elim (f (get_or xs i blank)) [ true ↦ set xs i blank | false ↦ xs ]
