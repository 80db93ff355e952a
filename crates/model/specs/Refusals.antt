-- 'Numbers given back': tests run from the top down, and the first that applies gives the refusal. Assumes nothing.
use Rattle.std.specs.Prelude.{Bool, true, false, ℕ}

-- What work comes to: refused with a number, or granted with what it gives. A refusal carries nothing else, so it can change nothing.
pub data Outcome (A : Type 0) : Type 0 where
  refused : ℕ → Outcome A
  granted : A → Outcome A

-- A test: the number that it refuses with, and whether it applies.
infix 5 ◌when◌
pub data Test : Type 0 where
  ◌when◌ : ℕ → Bool → Test

infixr 3 ◌>>◌
infixr 3 ◌>>=◌
-- first the test, then the rest
unfoldable pub ◌>>◌ : {A : Type 0} → Test → Outcome A → Outcome A
(n when true) >> rest = refused n
(n when false) >> rest = rest

-- first one piece of work with tests of its own, then the rest with what that gave
unfoldable pub ◌>>=◌ : {A B : Type 0} → Outcome A → (A → Outcome B) → Outcome B
refused n >>= rest = refused n
granted a >>= rest = rest a

unfoldable pub computing_refusals : Unit {0}
unfolding ◌>>◌ ◌>>=◌
computing_refusals = tt
