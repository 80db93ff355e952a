-- What holds of a value that a test chooses, from what holds of either. Assumes nothing.
use mathlib.Core.Path.{◌≡◌, refl}
use mathlib.Core.Bool.{Bool, true, false}

module _ {A : Type 0} (P : A → Type 0) where
  pub chosen : (b : Bool) (x y : A) → (b ≡ true → P x) → (b ≡ false → P y) → P (elim b as (λ _. A) [ true ↦ x | false ↦ y ])
  chosen true x y p q = p refl
  chosen false x y p q = q refl
