-- The tests of one name: its bytes, its length, and the dots that no name may be. Assumes nothing.
use mathlib.Core.Path.{◌≡◌, refl}
use mathlib.Core.Bool.{Bool, true, false, not, ◌&&◌, ◌||◌}
use mathlib.Core.List.{List, [], ◌∷◌}
use mathlib.Core.Logic.{◌⊎◌, inl, inr}
use Prim.Native.Nat.{ℕ, ◌≤◌, ◌<◌}
use native.Mathlib.Omega.{arith}
use lib.Dec.{eqb, leb}
use lib.ListN.{length}
use lib.Pointwise.{pointwise}
use borrow.Author.Tests.{le-leb, lt-leb}
use Rattle.std.proofs.Common.{nat_eq}
use Rattle.std.specs.List.{list_all}
use Rattle.model.specs.Lists.{same, all}
use Rattle.model.specs.Paths.{dot, name_byte, valid_name}
use Rattle.paths.specs.Split.{dots, right_length}

pub all_of : {A : Type 0} (f : A → Bool) (xs : List A) → list_all f xs ≡ all f xs
unfolding all
all_of f [] = refl
all_of f (x ∷ xs) = rw (all_of f xs)

-- DOTS

same_as : (xs ys : List ℕ) → pointwise nat_eq xs ys ≡ same xs ys
unfolding same
same_as [] [] = refl
same_as [] (y ∷ ys) = refl
same_as (x ∷ xs) [] = refl
same_as (x ∷ xs) (y ∷ ys) = go (eqb x y) (same_as xs ys)
  where
    go : (t : Bool) → pointwise nat_eq xs ys ≡ same xs ys → (t && pointwise nat_eq xs ys) ≡ elim t [ true ↦ same xs ys | false ↦ false ]
    go true e = e
    go false e = refl

pub dots_told : (n : List ℕ) → (pointwise nat_eq n (dot ∷ []) || pointwise nat_eq n (dot ∷ dot ∷ [])) ≡ dots n
unfolding dots
dots_told n = rw (same_as n (dot ∷ []), same_as n (dot ∷ dot ∷ []))

-- A NAME

-- a name is valid where its bytes are right, and its length with the dots
pub name_apart : (n : List ℕ) → valid_name n ≡ (all name_byte n && right_length n)
unfolding valid_name right_length dots
name_apart n = go (leb 1 (length n)) (leb (length n) 14) (all name_byte n) (same n (dot ∷ [])) (same n (dot ∷ dot ∷ []))
  where
    go : (a b p s t : Bool) → (a && b && p && not s && not t) ≡ (p && (a && b && not (s || t)))
    go true true true true t = refl
    go true true true false t = refl
    go true true false s t = refl
    go true false true s t = refl
    go true false false s t = refl
    go false b true s t = refl
    go false b false s t = refl

pub length_out_of_bounds : (n : List ℕ) → (length n < 1) ⊎ (14 < length n) → right_length n ≡ false
unfolding right_length
length_out_of_bounds n (inl h) = rw (lt-leb 1 (length n) h)
length_out_of_bounds n (inr h) = rw (le-leb 1 (length n) (omega arith), lt-leb (length n) 14 h)

pub length_by_dots : (n : List ℕ) → 1 ≤ length n → length n ≤ 14 → right_length n ≡ not (dots n)
unfolding right_length
length_by_dots n g h = rw (le-leb 1 (length n) g, le-leb (length n) 14 h)
