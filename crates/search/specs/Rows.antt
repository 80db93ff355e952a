-- The row that a search names, if there is one. Assumes nothing.
use Rattle.std.specs.Prelude.{Bool, List, ℕ, Option, Some, None, cond, ltb, length}
use Rattle.model.specs.Lists.{first}

-- the number of the first row that passes
abbrev pub first_row : {A : Type 0} → (A → Bool) → List A → Option ℕ
first_row f rows = cond (ltb (first f 0 rows) (length rows)) (Some (first f 0 rows)) None
