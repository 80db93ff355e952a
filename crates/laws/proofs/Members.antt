-- The rows of a list: what every one of them meets, and where each row of a changed list comes from. Assumes nothing.
use mathlib.Core.Path.{◌≡◌, refl}
use mathlib.Core.Bool.{Bool, true, false, ◌||◌, false≢true}
use mathlib.Core.Logic.{◌⊎◌, inl, inr}
use mathlib.Core.List.{List, [], ◌∷◌, ◌++◌, map}
use Prim.Native.Nat.{ℕ, zero, suc, ◌<◌}
use native.Mathlib.Omega.{arith}
use lib.ListN.{get_or, set, length}
use Rattle.model.specs.Lists.{any, all, keep, find, put, put_all, clear}
use Rattle.laws.proofs.Bools.{clash, and_left, and_right, both, or_left, or_right, either, is_false}
use Rattle.laws.proofs.Each.{Each, none, one}

infix 5 ◌∈◌
pub data ◌∈◌ {A : Type 0} (x : A) : List A → Type 0 where
  here : {y : A} {rows : List A} → x ≡ y → x ∈ (y ∷ rows)
  there : {y : A} {rows : List A} → x ∈ rows → x ∈ (y ∷ rows)

module _ {A : Type 0} where
  pub in_nothing : {x : A} {B : Type 0} → x ∈ [] → B
  in_nothing m = elim m [ ]

  -- WHAT EVERY ROW MEETS

  pub each_in : {P : A → Type 0} {rows : List A} {x : A} → Each P rows → x ∈ rows → P x
  each_in none m = in_nothing m
  each_in {P = P} (one p ps) (here e) = rw e p
  each_in (one p ps) (there m) = each_in ps m

  pub in_each : {P : A → Type 0} (rows : List A) → ((x : A) → x ∈ rows → P x) → Each P rows
  in_each [] h = none
  in_each (a ∷ rows) h = one (h a (here refl)) (in_each rows (λ x m. h x (there m)))

  pub all_in : (f : A → Bool) (rows : List A) {x : A} → all f rows ≡ true → x ∈ rows → f x ≡ true
  unfolding all
  all_in f [] e m = in_nothing m
  all_in f (a ∷ rows) e (here i) = rw i (and_left (f a) _ e)
  all_in f (a ∷ rows) e (there m) = all_in f rows (and_right (f a) _ e) m

  pub in_all : (f : A → Bool) (rows : List A) → ((x : A) → x ∈ rows → f x ≡ true) → all f rows ≡ true
  unfolding all
  in_all f [] h = refl
  in_all f (a ∷ rows) h = both (h a (here refl)) (in_all f rows (λ x m. h x (there m)))

  pub in_any : (f : A → Bool) {x : A} {rows : List A} → x ∈ rows → f x ≡ true → any f rows ≡ true
  unfolding any
  in_any f {rows = []} m e = in_nothing m
  in_any f {rows = a ∷ rows} (here i) e = or_left (any f rows) (rw i at e)
  in_any f {rows = a ∷ rows} (there m) e = or_right (f a) (in_any f m e)

  pub in_none : (f : A → Bool) {rows : List A} {x : A} → any f rows ≡ false → x ∈ rows → f x ≡ false
  in_none f {x = x} e m = is_false (f x) (λ h. clash (in_any f m h) e)

  pub any_in : (f : A → Bool) (rows : List A) → any f rows ≡ true → (x : A) × (x ∈ rows) × (f x ≡ true)
  unfolding any
  any_in f [] e = absurd (false≢true e)
  any_in f (a ∷ rows) e = go (either (f a) (any f rows) e) (any_in f rows)
    where
      go : (f a ≡ true) ⊎ (any f rows ≡ true) → (any f rows ≡ true → (x : A) × (x ∈ rows) × (f x ≡ true)) →
          (x : A) × (x ∈ (a ∷ rows)) × (f x ≡ true)
      go (inl h) ih = (a, here refl, h)
      go (inr h) ih = let found = ih h in (found.0, there found.1, found.2)

  pub none_in : (f : A → Bool) (rows : List A) → ((x : A) → x ∈ rows → f x ≡ false) → any f rows ≡ false
  none_in f rows h = is_false (any f rows) (λ e. let found = any_in f rows e in clash found.2 (h found.0 found.1))

  -- WHERE A ROW COMES FROM

  pub from_append : (xs ys : List A) {x : A} → x ∈ (xs ++ ys) → (x ∈ xs) ⊎ (x ∈ ys)
  from_append [] ys m = inr m
  from_append (a ∷ xs) ys (here e) = inl (here e)
  from_append (a ∷ xs) ys {x = x} (there m) = go (from_append xs ys m)
    where
      go : (x ∈ xs) ⊎ (x ∈ ys) → (x ∈ (a ∷ xs)) ⊎ (x ∈ ys)
      go (inl i) = inl (there i)
      go (inr i) = inr i

  pub from_put : (free : A → Bool) (new : A) (rows : List A) {x : A} → x ∈ put free new rows → (x ≡ new) ⊎ (x ∈ rows)
  unfolding put
  from_put free new [] m = in_nothing m
  from_put free new (a ∷ rows) {x = x} m = go (free a) (from_put free new rows) m
    where
      later : (x ≡ new) ⊎ (x ∈ rows) → (x ≡ new) ⊎ (x ∈ (a ∷ rows))
      later (inl e) = inl e
      later (inr i) = inr (there i)

      go : (b : Bool) → (x ∈ put free new rows → (x ≡ new) ⊎ (x ∈ rows)) →
          x ∈ elim b as (λ _. List A) [ true ↦ new ∷ rows | false ↦ a ∷ put free new rows ] → (x ≡ new) ⊎ (x ∈ (a ∷ rows))
      go true ih (here e) = inl e
      go true ih (there i) = inr (there i)
      go false ih (here e) = inr (here e)
      go false ih (there i) = later (ih i)

  pub from_put_all : (free : A → Bool) (news rows : List A) {x : A} → x ∈ put_all free news rows → (x ∈ news) ⊎ (x ∈ rows)
  unfolding put_all
  from_put_all free [] rows m = inr m
  from_put_all free (new ∷ news) rows {x = x} m = go (from_put_all free news (put free new rows) m)
    where
      older : (x ≡ new) ⊎ (x ∈ rows) → (x ∈ (new ∷ news)) ⊎ (x ∈ rows)
      older (inl e) = inl (here e)
      older (inr i) = inr i

      go : (x ∈ news) ⊎ (x ∈ put free new rows) → (x ∈ (new ∷ news)) ⊎ (x ∈ rows)
      go (inl i) = inl (there i)
      go (inr i) = older (from_put free new rows i)

  pub from_clear : (f : A → Bool) (blank : A) (rows : List A) {x : A} → x ∈ clear f blank rows →
      (x ≡ blank) ⊎ ((x ∈ rows) × (f x ≡ false))
  unfolding clear
  from_clear f blank [] m = in_nothing m
  from_clear f blank (a ∷ rows) {x = x} m = go (f a) refl (from_clear f blank rows) m
    where
      later : (x ≡ blank) ⊎ ((x ∈ rows) × (f x ≡ false)) → (x ≡ blank) ⊎ ((x ∈ (a ∷ rows)) × (f x ≡ false))
      later (inl e) = inl e
      later (inr i) = inr (there i.0, i.1)

      go : (b : Bool) → f a ≡ b → (x ∈ clear f blank rows → (x ≡ blank) ⊎ ((x ∈ rows) × (f x ≡ false))) →
          x ∈ elim b as (λ _. List A) [ true ↦ blank ∷ clear f blank rows | false ↦ a ∷ clear f blank rows ] →
          (x ≡ blank) ⊎ ((x ∈ (a ∷ rows)) × (f x ≡ false))
      go true p ih (here e) = inl e
      go true p ih (there i) = later (ih i)
      go false p ih (here e) = inr (here e, rw e p)
      go false p ih (there i) = later (ih i)

  -- a row that stays where another is put, and the new one; a row that is not cleared
  pub in_put : (free : A → Bool) (new : A) {x : A} {rows : List A} → x ∈ rows → free x ≡ false → x ∈ put free new rows
  unfolding put
  in_put free new {rows = []} m e = in_nothing m
  in_put free new {rows = a ∷ rows} (here i) e = let p : free a ≡ false = rw i at e in simp (p, put) (here i)
  in_put free new {x = x} {rows = a ∷ rows} (there m) e = go (free a) (in_put free new m e)
    where
      go : (b : Bool) → x ∈ put free new rows → x ∈ elim b as (λ _. List A) [ true ↦ new ∷ rows | false ↦ a ∷ put free new rows ]
      go true ih = there m
      go false ih = there ih

  pub in_put_new : (free : A → Bool) (new : A) (rows : List A) → any free rows ≡ true → new ∈ put free new rows
  unfolding any put
  in_put_new free new [] e = absurd (false≢true e)
  in_put_new free new (a ∷ rows) e = go (free a) (in_put_new free new rows) e
    where
      go : (b : Bool) → (any free rows ≡ true → new ∈ put free new rows) → (b || any free rows) ≡ true →
          new ∈ elim b as (λ _. List A) [ true ↦ new ∷ rows | false ↦ a ∷ put free new rows ]
      go true ih h = here refl
      go false ih h = there (ih h)

  pub in_clear : (f : A → Bool) (blank : A) {x : A} {rows : List A} → x ∈ rows → f x ≡ false → x ∈ clear f blank rows
  unfolding clear
  in_clear f blank {rows = []} m e = in_nothing m
  in_clear f blank {rows = a ∷ rows} (here i) e = let p : f a ≡ false = rw i at e in simp (p, clear) (here i)
  in_clear f blank {x = x} {rows = a ∷ rows} (there m) e = go (f a) (in_clear f blank m e)
    where
      go : (b : Bool) → x ∈ clear f blank rows →
          x ∈ elim b as (λ _. List A) [ true ↦ blank ∷ clear f blank rows | false ↦ a ∷ clear f blank rows ]
      go true ih = there ih
      go false ih = there ih

  pub from_keep : (f : A → Bool) (rows : List A) {x : A} → x ∈ keep f rows → (x ∈ rows) × (f x ≡ true)
  unfolding keep
  from_keep f [] m = in_nothing m
  from_keep f (a ∷ rows) {x = x} m = go (f a) refl (from_keep f rows) m
    where
      later : (x ∈ rows) × (f x ≡ true) → (x ∈ (a ∷ rows)) × (f x ≡ true)
      later i = (there i.0, i.1)

      go : (b : Bool) → f a ≡ b → (x ∈ keep f rows → (x ∈ rows) × (f x ≡ true)) →
          x ∈ elim b as (λ _. List A) [ true ↦ a ∷ keep f rows | false ↦ keep f rows ] → (x ∈ (a ∷ rows)) × (f x ≡ true)
      go true p ih (here e) = (here e, rw e p)
      go true p ih (there i) = later (ih i)
      go false p ih i = later (ih i)

  pub from_set : (rows : List A) (i : ℕ) (v : A) {x : A} → x ∈ set rows i v → (x ≡ v) ⊎ (x ∈ rows)
  from_set [] i v m = in_nothing m
  from_set (a ∷ rows) zero v (here e) = inl e
  from_set (a ∷ rows) zero v (there m) = inr (there m)
  from_set (a ∷ rows) (suc i) v (here e) = inr (here e)
  from_set (a ∷ rows) (suc i) v {x = x} (there m) = go (from_set rows i v m)
    where
      go : (x ≡ v) ⊎ (x ∈ rows) → (x ≡ v) ⊎ (x ∈ (a ∷ rows))
      go (inl e) = inl e
      go (inr k) = inr (there k)

  -- the row at a place within the list
  pub at_in : (rows : List A) (i : ℕ) (d : A) → i < length rows → get_or rows i d ∈ rows
  at_in [] i d h = absurd (omega arith)
  at_in (a ∷ rows) zero d h = here refl
  at_in (a ∷ rows) (suc i) d h = there (at_in rows i d (omega arith))

  -- the row found, where there is one
  pub find_in : (f : A → Bool) (d : A) (rows : List A) → any f rows ≡ true → (find f d rows ∈ rows) × (f (find f d rows) ≡ true)
  unfolding any find
  find_in f d [] e = absurd (false≢true e)
  find_in f d (a ∷ rows) e = go (f a) refl (find_in f d rows) e
    where
      Found : A → Type 0
      Found x = (x ∈ (a ∷ rows)) × (f x ≡ true)

      go : (b : Bool) → f a ≡ b → (any f rows ≡ true → (find f d rows ∈ rows) × (f (find f d rows) ≡ true)) →
          (b || any f rows) ≡ true → Found (elim b as (λ _. A) [ true ↦ a | false ↦ find f d rows ])
      go true p ih h = (here refl, p)
      go false p ih h = let found = ih h in (there found.0, found.1)

pub from_map : {A B : Type 0} (f : A → B) (rows : List A) {y : B} → y ∈ map f rows → (x : A) × (x ∈ rows) × (y ≡ f x)
from_map f [] m = in_nothing m
from_map f (a ∷ rows) (here e) = (a, here refl, e)
from_map f (a ∷ rows) (there m) = let found = from_map f rows m in (found.0, there found.1, found.2)
