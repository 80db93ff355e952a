-- A test of all rows: two tests at once, tests that agree, rows made from others; and a test of all numbers below one. Assumes nothing.
use mathlib.Core.Path.{◌≡◌, refl, ap, ap₂, ◌∙◌}
use mathlib.Core.Bool.{Bool, true, ◌&&◌}
use mathlib.Core.List.{List, [], ◌∷◌, map}
use Prim.Native.Nat.{ℕ, zero, suc, ◌<◌}
use native.Mathlib.Decide.{ℕ_discrete}
use native.Mathlib.Omega.{arith}
use Rattle.model.specs.Lists.{all}
use Rattle.laws.proofs.Bools.{and_left, and_right, and_middle}

module _ {A : Type 0} where
  pub all_both : (f g : A → Bool) (xs : List A) → all (λ x. f x && g x) xs ≡ (all f xs && all g xs)
  unfolding all
  all_both f g [] = refl
  all_both f g (x ∷ xs) = ap (λ b. (f x && g x) && b) (all_both f g xs) ∙ and_middle (f x) (g x) (all f xs) (all g xs)

  pub all_alike : (f g : A → Bool) → ((x : A) → f x ≡ g x) → (xs : List A) → all f xs ≡ all g xs
  unfolding all
  all_alike f g h [] = refl
  all_alike f g h (x ∷ xs) = ap₂ ◌&&◌ (h x) (all_alike f g h xs)

pub all_map : {A B : Type 0} (u : A → B) (f : B → Bool) (xs : List A) → all f (map u xs) ≡ all (λ x. f (u x)) xs
unfolding all
all_map u f [] = refl
all_map u f (x ∷ xs) = ap (λ b. f (u x) && b) (all_map u f xs)

-- for a test that is computed
abbrev pub passes_below : (ℕ → Bool) → ℕ → Bool
passes_below p zero = true
passes_below p (suc n) = p n && passes_below p n

pub passed_below : (p : ℕ → Bool) (n : ℕ) → passes_below p n ≡ true → (k : ℕ) → k < n → p k ≡ true
passed_below p zero e k h = absurd (omega arith)
passed_below p (suc n) e k h =
    elim (ℕ_discrete k n) [
      | yes q ↦ ap p q ∙ and_left (p n) (passes_below p n) e
      | no q ↦ passed_below p n (and_right (p n) (passes_below p n) e) k (omega arith)
    ]
