-- Work that was granted: every test on the way did not apply, and every piece of work in it was granted too. Assumes nothing.
use mathlib.Core.Path.{◌≡◌, refl}
use mathlib.Core.Bool.{Bool, true, false}
use mathlib.Core.List.{List, [], ◌∷◌}
use Prim.Native.Nat.{ℕ, zero, suc, ◌+◌}
use native.Mathlib.Omega.{arith}
use lib.ListN.{get_or}
use Rattle.model.specs.Refusals.{Outcome, refused, granted, ◌when◌, ◌>>◌, ◌>>=◌}

-- a refusal is not a grant
pub not_granted : {A B : Type 0} {n : ℕ} {a : A} → refused n ≡ granted a → B
not_granted e = let z : ◌≡◌ {A = ℕ} 0 1 = cc in absurd (omega arith)

-- what is granted is one thing
pub same_grant : {A : Type 0} {a b : A} → granted a ≡ granted b → a ≡ b
same_grant e = cc

-- the test did not apply, and what comes after it was granted
pub record Passed {A : Type 0} (test : Bool) (rest : Outcome A) (a : A) : Type 0 where
  pub missed : test ≡ false
  pub then : rest ≡ granted a

pub passed : {A : Type 0} (n : ℕ) (test : Bool) (rest : Outcome A) {a : A} → ((n when test) >> rest) ≡ granted a → Passed test rest a
unfolding ◌>>◌
passed n true rest e = not_granted e
passed n false rest e = record { missed = refl; then = e }

-- a piece of work and what it gave, and the rest with that
pub record Gave {A B : Type 0} (work : Outcome A) (rest : A → Outcome B) (b : B) : Type 0 where
  pub what : A
  pub first : work ≡ granted what
  pub then : rest what ≡ granted b

pub both_granted : {A B : Type 0} (work : Outcome A) (rest : A → Outcome B) {b : B} → (work >>= rest) ≡ granted b → Gave work rest b
unfolding ◌>>=◌
both_granted (refused n) rest e = not_granted e
both_granted (granted a) rest e = record { what = a; first = refl; then = e }

infixr 4 ◌or◌
-- for each piece of work of a list, counted from i: where n is its number and it was granted, P holds
pub data Numbered {A : Type 0} (n : ℕ) (a : A) (P : Type 0) : ℕ → List (Outcome A) → Type 0 where
  no_more : {i : ℕ} → Numbered n a P i []
  ◌or◌ : {i : ℕ} {work : Outcome A} {others : List (Outcome A)} → (n ≡ i → work ≡ granted a → P) → Numbered n a P (suc i) others →
      Numbered n a P i (work ∷ others)

-- by cases on the number of the piece of work that was granted
pub by_number : {A P : Type 0} {n : ℕ} {a : A} {i : ℕ} {works : List (Outcome A)} → Numbered n a P i works → (z k : ℕ) → n ≡ i + k →
    get_or works k (refused z) ≡ granted a → P
by_number no_more z k e f = not_granted f
by_number (first or rest) z zero e f = first (omega arith) f
by_number (first or rest) z (suc k) e f = by_number rest z k (omega arith) f
