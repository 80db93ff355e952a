-- An element of a list by its place. Assumes nothing.
use mathlib.Core.Path.{◌≡◌, refl}
use mathlib.Core.List.{List, [], ◌∷◌, map}
use Prim.Native.Nat.{ℕ, zero, suc, ◌<◌}
use native.Mathlib.Omega.{arith}
use lib.ListN.{length, get_or}

-- what f makes of the element, whatever stands for one that is missing
pub getD_map_inside : {A B : Type 0} (f : A → B) (xs : List A) (i : ℕ) (d : B) (e : A) → i < length xs → get_or (map f xs) i d ≡ f (get_or xs i e)
getD_map_inside f [] i d e h = absurd (omega arith)
getD_map_inside f (x ∷ xs) zero d e h = refl
getD_map_inside f (x ∷ xs) (suc i) d e h = getD_map_inside f xs i d e (omega arith)
