-- Distinct rows by their places: a list is distinct just where no used row has one like it further on. Assumes nothing.
use mathlib.Core.Path.{◌≡◌, refl}
use mathlib.Core.Bool.{Bool, true, false, not, ◌||◌}
use mathlib.Core.List.{List, [], ◌∷◌}
use Prim.Native.Nat.{ℕ, zero, suc, ◌+◌, ◌<◌}
use native.Mathlib.Omega.{arith}
use native.Mathlib.Decide.{dec_lt}
use lib.ListN.{length, get_or}
use Rattle.model.specs.Lists.{any, distinct}
use Rattle.laws.proofs.Bools.{and_false, both}
use Rattle.laws.proofs.Members.{at_in, in_any}

-- no row at any place passes
pub none_by_place : {A : Type 0} (f : A → Bool) (d : A) (xs : List A) → ((k : ℕ) → k < length xs → f (get_or xs k d) ≡ false) → any f xs ≡ false
unfolding any
none_by_place f d [] h = refl
none_by_place f d (x ∷ xs) h = rw (h 0 (omega arith)) (none_by_place f d xs (λ k l. h (suc k) (omega arith)))

module _ {A : Type 0} (free : A → Bool) (alike : A → A → Bool) (d : A) where
  -- no used row is like a later one, among those below i
  unfoldable pub UnlikeBelow : List A → ℕ → Type 0
  UnlikeBelow xs i = (j k : ℕ) → j < k → k < i → free (get_or xs j d) ≡ false → alike (get_or xs j d) (get_or xs k d) ≡ false

  pub unlike_distinct : (xs : List A) → UnlikeBelow xs (length xs) → distinct free alike xs ≡ true
  unfolding distinct UnlikeBelow
  unlike_distinct [] u = refl
  unlike_distinct (x ∷ xs) u = both (first (free x) refl) (unlike_distinct xs (λ j k a b. u (suc j) (suc k) (omega arith) (omega arith)))
    where
      first : (b : Bool) → free x ≡ b → (b || not (any (alike x) xs)) ≡ true
      first true p = refl
      first false p = rw (none_by_place (alike x) d xs (λ k l. u 0 (suc k) (omega arith) (omega arith) p))

  pub alike_twice : (xs : List A) (j k : ℕ) → j < k → k < length xs → free (get_or xs j d) ≡ false → alike (get_or xs j d) (get_or xs k d) ≡ true
      → distinct free alike xs ≡ false
  unfolding distinct
  alike_twice [] j k a b u e = absurd (omega arith)
  alike_twice (x ∷ xs) j zero a b u e = absurd (omega arith)
  alike_twice (x ∷ xs) zero (suc k) a b u e = rw (u, in_any (alike x) (at_in xs k d (omega arith)) e)
  alike_twice (x ∷ xs) (suc j) (suc k) a b u e = and_false (free x || not (any (alike x) xs)) _ (λ _. alike_twice xs j k (omega arith) (omega arith) u e)

  pub unlike_more : (xs : List A) (i : ℕ) → UnlikeBelow xs i → ((j : ℕ) → j < i → free (get_or xs j d) ≡ false → alike (get_or xs j d) (get_or xs i d) ≡ false)
      → UnlikeBelow xs (i + 1)
  unfolding UnlikeBelow
  unlike_more xs i u h j k a b used =
      elim (dec_lt k i) [ yes l ↦ u j k a l used | no n ↦ (let m : k ≡ i = omega arith in rw m (h j (omega arith) used)) ]

  pub unlike_none : (xs : List A) → UnlikeBelow xs 0
  unfolding UnlikeBelow
  unlike_none xs j k a b u = absurd (omega arith)
