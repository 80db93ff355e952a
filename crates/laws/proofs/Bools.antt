-- Tests that were made, taken apart: what follows from a Bool's being true or false. Assumes nothing.
use mathlib.Core.Path.{◌≡◌, refl, sym, ◌∙◌}
use mathlib.Core.Bool.{Bool, true, false, not, ◌&&◌, ◌||◌, false≢true, true≢false}
use mathlib.Core.Logic.{◌⊎◌, inl, inr}

pub true_or_false : (b : Bool) → (b ≡ true) ⊎ (b ≡ false)
true_or_false true = inl refl
true_or_false false = inr refl

pub clash : {b : Bool} {A : Type 0} → b ≡ true → b ≡ false → A
clash p q = absurd (true≢false (sym p ∙ q))

pub and_left : (a b : Bool) → (a && b) ≡ true → a ≡ true
and_left true b e = refl
and_left false b e = e

pub and_right : (a b : Bool) → (a && b) ≡ true → b ≡ true
and_right true b e = e
and_right false b e = absurd (false≢true e)

pub both : {a b : Bool} → a ≡ true → b ≡ true → (a && b) ≡ true
both p q = simp (p, q)

pub and_false : (a b : Bool) → (a ≡ true → b ≡ false) → (a && b) ≡ false
and_false true b h = h refl
and_false false b h = refl

pub or_left : {a : Bool} (b : Bool) → a ≡ true → (a || b) ≡ true
or_left b p = simp p

pub or_right : (a : Bool) {b : Bool} → b ≡ true → (a || b) ≡ true
or_right true p = refl
or_right false p = p

pub either : (a b : Bool) → (a || b) ≡ true → (a ≡ true) ⊎ (b ≡ true)
either true b e = inl refl
either false b e = inr e

pub neither_left : (a b : Bool) → (a || b) ≡ false → a ≡ false
neither_left true b e = e
neither_left false b e = refl

pub neither_right : (a b : Bool) → (a || b) ≡ false → b ≡ false
neither_right true b e = absurd (true≢false e)
neither_right false b e = e

pub neither : {a b : Bool} → a ≡ false → b ≡ false → (a || b) ≡ false
neither p q = simp (p, q)

pub not_true : (b : Bool) → not b ≡ true → b ≡ false
not_true true e = sym e
not_true false e = refl

pub not_false : (b : Bool) → not b ≡ false → b ≡ true
not_false true e = refl
not_false false e = sym e

pub is_false : (b : Bool) → (b ≡ true → ⊥) → b ≡ false
is_false true f = absurd (f refl)
is_false false f = refl

-- TESTS PUT TOGETHER OTHERWISE

pub and_true : (a : Bool) → (a && true) ≡ a
and_true true = refl
and_true false = refl

pub and_joins : (a b c : Bool) → (a && (b && c)) ≡ ((a && b) && c)
and_joins true b c = refl
and_joins false b c = refl

pub and_middle : (a b c d : Bool) → ((a && b) && (c && d)) ≡ ((a && c) && (b && d))
and_middle true true c d = refl
and_middle true false true d = refl
and_middle true false false d = refl
and_middle false b c d = refl

pub or_and : (a b c : Bool) → (a || (b && c)) ≡ ((a || b) && (a || c))
or_and true b c = refl
or_and false b c = refl

-- TESTS IN A ROW: the first that fails decides

pub stopped : {p : Bool} (x : Bool) → p ≡ false → false ≡ (p && x)
stopped x e = rw e

pub passed : {p : Bool} {x y : Bool} → p ≡ true → y ≡ x → y ≡ (p && x)
passed e f = rw e f
