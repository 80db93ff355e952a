-- What making lent words fresh answers and leaves: document 01, 'Numbers given back', 1. Assumes nothing.
use Rattle.std.specs.Prelude.{◌≡◌, List, ℕ, ⊤, Result, Ok, Err}
use Rattle.model.specs.Refusals.{Outcome, refused, granted}

-- the answer that an outcome is given
abbrev pub answer_of : Outcome (List ℕ) → Result ⊤ ℕ
answer_of (refused n) = Err n
answer_of (granted v) = Ok tt

-- the words afterwards; a refusal changes none
abbrev pub words_after : List ℕ → Outcome (List ℕ) → List ℕ
words_after w (refused n) = w
words_after w (granted v) = v

-- the words w, whose outcome is o, are answered r and become v
pub record Prepares (w : List ℕ) (o : Outcome (List ℕ)) (r : Result ⊤ ℕ) (v : List ℕ) : Type 0 where
  pub answer : r ≡ answer_of o
  pub words : v ≡ words_after w o
