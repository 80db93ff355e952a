-- The place of a row as the code reads it, and the places of many. Assumes nothing.
use mathlib.Core.Path.{◌≡◌}
use mathlib.Core.List.{List, map}
use Prim.Native.Nat.{ℕ, zero, suc, ◌+◌}
use native.Mathlib.Omega.{arith}
use native.Mathlib.Numerals.{add-one}
use denote.Param.Members.{Mut, Called}
use lib.ListN.{length, drop, drop_of_length-le}
use lib.Seq.{drop-cons}
use Rattle.std.specs.Array.{MapsFrom}

-- what an array's `map` gives, where the closure computes h and changes nothing
module _ {F A B : Type 0} (g : Mut F (A × Unit {0}) B) (h : A → B) (f : F)
    (calls : (x : A) (y : B) (q : F) → Called g f (x, tt) y q → (q ≡ f) × (y ≡ h x)) where
  pub mapped : (xs : List A) (ys : List B) (i n : ℕ) → length xs ≡ i + n → length ys ≡ i + n → MapsFrom g f xs ys i n → drop i ys ≡ map h (drop i xs)
  mapped xs ys i zero p q m = rw (drop_of_length-le xs {i = i} (omega arith), drop_of_length-le ys {i = i} (omega arith))
  mapped xs ys i (suc n) p q (next, x, y, there, then, call, more) =
      let known = calls x y next call in
      let rest = mapped xs ys (suc i) n (omega arith) (omega arith) (rw (known.0, add-one) at more) in
      rw (drop-cons xs i x (omega arith), drop-cons ys i y (omega arith), there.0, then.0, known.1, rest)
