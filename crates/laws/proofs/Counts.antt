-- Rows counted: where there is one, where there is only one, and how many are free after a new row and after rows are cleared.
-- Assumes nothing.
use mathlib.Core.Path.{◌≡◌, refl, sym, ◌∙◌}
use mathlib.Core.Bool.{Bool, true, false, ◌||◌, false≢true}
use mathlib.Core.List.{List, [], ◌∷◌}
use Prim.Native.Nat.{ℕ, suc, ◌+◌, ◌≤◌}
use native.Mathlib.Omega.{arith}
use Rattle.model.specs.Lists.{any, count, put, clear}
use Rattle.laws.proofs.Members.{◌∈◌, here, there, in_nothing}
use Rattle.laws.proofs.Rules.{one_if, count_front, count_some}

module _ {A : Type 0} (free : A → Bool) where
  pub some_free : (rows : List A) → 1 ≤ count free rows → any free rows ≡ true
  unfolding any count
  some_free [] h = absurd (omega arith)
  some_free (a ∷ rows) h = go (free a) (some_free rows) h
    where
      go : (b : Bool) → (1 ≤ count free rows → any free rows ≡ true) →
          1 ≤ elim b as (λ _. ℕ) [ true ↦ suc (count free rows) | false ↦ count free rows ] → (b || any free rows) ≡ true
      go true ih h = refl
      go false ih h = ih h

  pub put_takes_one : (new : A) → free new ≡ false → (rows : List A) → any free rows ≡ true →
      suc (count free (put free new rows)) ≡ count free rows
  unfolding any count put
  put_takes_one new used [] e = absurd (false≢true e)
  put_takes_one new used (a ∷ rows) e = go (free a) refl (put_takes_one new used rows) e
    where
      go : (b : Bool) → free a ≡ b → (any free rows ≡ true → suc (count free (put free new rows)) ≡ count free rows) →
          (b || any free rows) ≡ true → suc (count free (put free new (a ∷ rows))) ≡ count free (a ∷ rows)
      go true p ih h = simp (p, put, count, used)
      go false p ih h = simp (p, put, count, ih h)

  pub clear_leaves_room : (f : A → Bool) (blank : A) → free blank ≡ true → (rows : List A) →
      count free rows ≤ count free (clear f blank rows)
  unfolding count clear
  clear_leaves_room f blank blank_free [] = omega arith
  clear_leaves_room f blank blank_free (a ∷ rows) = go (f a) refl (free a) refl (clear_leaves_room f blank blank_free rows)
    where
      go : (b : Bool) → f a ≡ b → (c : Bool) → free a ≡ c → count free rows ≤ count free (clear f blank rows) →
          count free (a ∷ rows) ≤ count free (clear f blank (a ∷ rows))
      go true p true q ih = simp (p, clear, count, q, blank_free) (omega arith)
      go true p false q ih = simp (p, clear, count, q, blank_free) (omega arith)
      go false p true q ih = simp (p, clear, count, q) (omega arith)
      go false p false q ih = simp (p, clear, count, q) ih

-- where only one row passes, any two that pass are the same
pub count_single : {A : Type 0} (m : A → Bool) (rows : List A) {x y : A} → count m rows ≡ 1 → x ∈ rows → y ∈ rows → m x ≡ true →
    m y ≡ true → x ≡ y
count_single m [] e i j p q = in_nothing i
count_single m (a ∷ rows) e (here f) (here g) p q = f ∙ sym g
count_single m (a ∷ rows) e (here f) (there j) p q =
    let front : m a ≡ true = rw f at p in
    let sum : 1 + count m rows ≡ 1 = rw (count_front m a rows, front) at e in
    absurd (omega (arith, count_some m rows j q))
count_single m (a ∷ rows) e (there i) (here g) p q =
    let front : m a ≡ true = rw g at q in
    let sum : 1 + count m rows ≡ 1 = rw (count_front m a rows, front) at e in
    absurd (omega (arith, count_some m rows i p))
count_single m (a ∷ rows) {x = x} {y = y} e (there i) (there j) p q =
    go (m a) (λ f. count_single m rows f i j p q) (rw (count_front m a rows) at e)
  where
    go : (b : Bool) → (count m rows ≡ 1 → x ≡ y) → one_if b + count m rows ≡ 1 → x ≡ y
    go true ih f = absurd (omega (arith, count_some m rows i p))
    go false ih f = ih (omega arith)
