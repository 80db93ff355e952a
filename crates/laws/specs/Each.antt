-- Every element of a list meets a predicate, and what a byte is. Assumes nothing.
use Rattle.std.specs.Prelude.{List, [], ◌∷◌, ℕ, ◌<◌}

pub data Each {A : Type 0} (P : A → Type 0) : List A → Type 0 where
  none : Each P []
  one : {x : A} {xs : List A} → P x → Each P xs → Each P (x ∷ xs)

abbrev pub Byte : ℕ → Type 0
Byte b = b < 256
