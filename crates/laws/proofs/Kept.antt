-- The rows that pass a test: how many they are, and that a new row which does not pass changes none of them. Assumes nothing.
use mathlib.Core.Path.{◌≡◌, refl, ap}
use mathlib.Core.Bool.{Bool, true, false}
use mathlib.Core.List.{List, [], ◌∷◌}
use Prim.Native.Nat.{ℕ, zero, suc}
use lib.ListN.{length, drop}
use Rattle.model.specs.Lists.{count, keep, put}
use Rattle.laws.proofs.Each.{Each, none, one}

pub keep_passing : {A : Type 0} (f : A → Bool) (x : A) (xs : List A) → f x ≡ true → keep f (x ∷ xs) ≡ x ∷ keep f xs
unfolding keep
keep_passing f x xs e = simp (e, keep)

pub keep_failing : {A : Type 0} (f : A → Bool) (x : A) (xs : List A) → f x ≡ false → keep f (x ∷ xs) ≡ keep f xs
unfolding keep
keep_failing f x xs e = simp (e, keep)

pub length_keep : {A : Type 0} (f : A → Bool) (xs : List A) → length (keep f xs) ≡ count f xs
unfolding keep count
length_keep f [] = refl
length_keep f (x ∷ xs) = go (f x) refl (length_keep f xs)
  where
    go : (b : Bool) → f x ≡ b → length (keep f xs) ≡ count f xs → length (keep f (x ∷ xs)) ≡ count f (x ∷ xs)
    go true e r = simp (e, keep, count) (ap suc r)
    go false e r = simp (e, keep, count) r

module _ {A : Type 0} (f free : A → Bool) (new : A) (off : f new ≡ false) where
  pub keep_put : (xs : List A) → Each (λ x. free x ≡ true → f x ≡ false) xs → keep f (put free new xs) ≡ keep f xs
  unfolding keep put
  keep_put [] none = refl
  keep_put (x ∷ xs) (one p ps) = go (free x) refl (f x) refl (keep_put xs ps)
    where
      go : (b : Bool) → free x ≡ b → (c : Bool) → f x ≡ c → keep f (put free new xs) ≡ keep f xs → keep f (put free new (x ∷ xs)) ≡ keep f (x ∷ xs)
      go true e c q r = let k : f x ≡ false = p e in simp (e, k, off, put, keep)
      go false e true q r = simp (e, q, put, keep) (ap {B = List A} (λ l. x ∷ l) r)
      go false e false q r = simp (e, q, put, keep) r

  -- of the rows from k on too, wherever the new row went
  pub keep_drop_put : (k : ℕ) (xs : List A) → Each (λ x. free x ≡ true → f x ≡ false) xs → keep f (drop k (put free new xs)) ≡ keep f (drop k xs)
  unfolding put
  keep_drop_put zero xs ps = keep_put xs ps
  keep_drop_put (suc k) [] none = refl
  keep_drop_put (suc k) (x ∷ xs) (one p ps) = go (free x) refl (keep_drop_put k xs ps)
    where
      go : (b : Bool) → free x ≡ b → keep f (drop k (put free new xs)) ≡ keep f (drop k xs) → keep f (drop (suc k) (put free new (x ∷ xs))) ≡ keep f (drop k xs)
      go true e r = simp (e, put)
      go false e r = simp (e, put) r
