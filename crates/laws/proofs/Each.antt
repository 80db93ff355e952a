-- Every element of a list meets a predicate: how that is taken apart, and what keeps it. Assumes nothing.
use mathlib.Core.Path.{◌≡◌, refl}
use mathlib.Core.Bool.{Bool, true}
use mathlib.Core.List.{List, [], ◌∷◌, ◌++◌, map}
use Prim.Native.Nat.{ℕ, zero, suc, ◌<◌}
use native.Mathlib.Omega.{arith}
use lib.ListN.{length, get_or, take, drop, replicate, set}
use Rattle.model.specs.Lists.{all, keep, find, put, put_all, clear}
pub use Rattle.laws.specs.Each.{Each, none, one}
use Rattle.laws.proofs.Bools.{and_left, and_right, both}
use Rattle.laws.proofs.Choices.{chosen}

module _ {A : Type 0} {P : A → Type 0} where
  pub each_head : {x : A} {xs : List A} → Each P (x ∷ xs) → P x
  each_head (one p ps) = p

  pub each_tail : {x : A} {xs : List A} → Each P (x ∷ xs) → Each P xs
  each_tail (one p ps) = ps

  -- an element by its place; the default counts past the end
  pub each_at : {xs : List A} {d : A} → Each P xs → P d → (i : ℕ) → P (get_or xs i d)
  each_at none q i = q
  each_at (one p ps) q zero = p
  each_at (one p ps) q (suc i) = each_at ps q i

  -- and back: each by its place
  pub each_by_place : (xs : List A) (d : A) → ((i : ℕ) → i < length xs → P (get_or xs i d)) → Each P xs
  each_by_place [] d h = none
  each_by_place (x ∷ xs) d h = one (h 0 (omega arith)) (each_by_place xs d (λ i l. h (suc i) (omega arith)))

  pub each_append : {xs ys : List A} → Each P xs → Each P ys → Each P (xs ++ ys)
  each_append none qs = qs
  each_append (one p ps) qs = one p (each_append ps qs)

  pub each_take : {xs : List A} (n : ℕ) → Each P xs → Each P (take n xs)
  each_take zero ps = none
  each_take (suc n) none = none
  each_take (suc n) (one {x = x} {xs = xs} p ps) = one p (each_take {xs = xs} n ps)

  pub each_drop : {xs : List A} (n : ℕ) → Each P xs → Each P (drop n xs)
  each_drop zero ps = ps
  each_drop (suc n) none = none
  each_drop (suc n) (one {x = x} {xs = xs} p ps) = each_drop {xs = xs} n ps

  pub each_replicate : (n : ℕ) (x : A) → P x → Each P (replicate n x)
  each_replicate zero x p = none
  each_replicate (suc n) x p = one p (each_replicate n x p)

  pub each_set : {xs : List A} {x : A} (i : ℕ) → Each P xs → P x → Each P (set xs i x)
  each_set i none q = none
  each_set zero (one p ps) q = one q ps
  each_set (suc i) (one p ps) q = one p (each_set i ps q)

  pub each_keep : {xs : List A} (f : A → Bool) → Each P xs → Each P (keep f xs)
  unfolding keep
  each_keep f none = none
  each_keep f (one {x = x} p ps) = chosen (Each P) (f x) _ _ (λ _. one p (each_keep f ps)) (λ _. each_keep f ps)

  pub each_put : {xs : List A} {new : A} (free : A → Bool) → Each P xs → P new → Each P (put free new xs)
  unfolding put
  each_put free none q = none
  each_put free (one {x = x} p ps) q = chosen (Each P) (free x) _ _ (λ _. one q ps) (λ _. one p (each_put free ps q))

  pub each_put_all : {xs news : List A} (free : A → Bool) → Each P news → Each P xs → Each P (put_all free news xs)
  unfolding put_all
  each_put_all free none ps = ps
  each_put_all {xs = xs} free (one {x = x} q qs) ps = each_put_all {xs = put free x xs} free qs (each_put free ps q)

  pub each_clear : {xs : List A} {blank : A} (f : A → Bool) → Each P xs → P blank → Each P (clear f blank xs)
  unfolding clear
  each_clear f none q = none
  each_clear f (one {x = x} p ps) q = chosen (Each P) (f x) _ _ (λ _. one q (each_clear f ps q)) (λ _. one p (each_clear f ps q))

  -- the first that passes, or else the default
  pub each_find : {xs : List A} {d : A} (f : A → Bool) → Each P xs → P d → P (find f d xs)
  unfolding find
  each_find f none q = q
  each_find f (one {x = x} p ps) q = chosen P (f x) _ _ (λ _. p) (λ _. each_find f ps q)

  pub each_weaker : {Q : A → Type 0} {xs : List A} → ((x : A) → P x → Q x) → Each P xs → Each Q xs
  each_weaker h none = none
  each_weaker h (one {x = x} p ps) = one (h x p) (each_weaker h ps)

pub each_map : {A B : Type 0} {P : A → Type 0} {Q : B → Type 0} {xs : List A} (f : A → B)
    → ((x : A) → P x → Q (f x)) → Each P xs → Each Q (map f xs)
each_map f h none = none
each_map f h (one {x = x} p ps) = one (h x p) (each_map f h ps)

-- a test that every element passes
pub each_passes : {A : Type 0} (f : A → Bool) {xs : List A} → Each (λ x. f x ≡ true) xs → all f xs ≡ true
unfolding all
each_passes f none = refl
each_passes f (one e es) = both e (each_passes f es)

pub passes_each : {A : Type 0} (f : A → Bool) (xs : List A) → all f xs ≡ true → Each (λ x. f x ≡ true) xs
unfolding all
passes_each f [] e = none
passes_each f (x ∷ xs) e = one (and_left (f x) (all f xs) e) (passes_each f xs (and_right (f x) (all f xs) e))
