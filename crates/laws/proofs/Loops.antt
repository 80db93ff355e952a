-- Loops over the rows of a list: what is left to do at row i gives what the whole gives. Each search has three steps: it ends at row i, goes
-- on behind it, or comes to the end. Assumes nothing.
use mathlib.Core.Path.{◌≡◌, refl, sym, ap, ◌∙◌}
use mathlib.Core.Bool.{Bool, true, false, not, ◌||◌}
use mathlib.Core.List.{List, [], ◌∷◌}
use Prim.Native.Nat.{ℕ, zero, suc, ◌+◌, ◌≤◌, ◌<◌}
use native.Mathlib.Omega.{arith}
use native.Mathlib.Nat.{add-zero, not-suc-le-zero, le_of_suc-le-suc}
use native.Mathlib.Numerals.{add-one}
use borrow.Author.Tests.{eq-eqb, ne_eqb}
use lib.Dec.{eqb}
use lib.ListN.{length, get_or, set, drop, drop_of_length-le}
use lib.Seq.{sets, drop-cons}
use Rattle.model.specs.Lists.{any, all, all_from, count, first, find, put, clear}

-- the row at i, then those behind it
pub rest_at : {A : Type 0} (d : A) (xs : List A) (i : ℕ) → i < length xs → drop i xs ≡ get_or xs i d ∷ drop (i + 1) xs
rest_at d xs i h = rw (add-one) (drop-cons xs i d h)

module _ {A : Type 0} (f : A → Bool) (d : A) (xs : List A) (i : ℕ) where
  pub any_found : {v : Bool} → i < length xs → f (get_or xs i d) ≡ true → any f (drop i xs) ≡ v → true ≡ v
  unfolding any
  any_found h e inv = sym (ap (any f) (rest_at d xs i h) ∙ rw e) ∙ inv

  pub any_onward : {v : Bool} → i < length xs → f (get_or xs i d) ≡ false → any f (drop i xs) ≡ v → any f (drop (i + 1) xs) ≡ v
  unfolding any
  any_onward h e inv = sym (ap (any f) (rest_at d xs i h) ∙ rw e) ∙ inv

  pub any_nowhere : {v : Bool} → length xs ≤ i → any f (drop i xs) ≡ v → false ≡ v
  unfolding any
  any_nowhere h inv = sym (ap (any f) (drop_of_length-le xs h)) ∙ inv

  pub all_failed : {v : Bool} → i < length xs → f (get_or xs i d) ≡ false → all f (drop i xs) ≡ v → false ≡ v
  unfolding all
  all_failed h e inv = sym (ap (all f) (rest_at d xs i h) ∙ rw e) ∙ inv

  pub all_onward : {v : Bool} → i < length xs → f (get_or xs i d) ≡ true → all f (drop i xs) ≡ v → all f (drop (i + 1) xs) ≡ v
  unfolding all
  all_onward h e inv = sym (ap (all f) (rest_at d xs i h) ∙ rw e) ∙ inv

  pub all_passed : {v : Bool} → length xs ≤ i → all f (drop i xs) ≡ v → true ≡ v
  unfolding all
  all_passed h inv = sym (ap (all f) (drop_of_length-le xs h)) ∙ inv

  pub count_here : {v : ℕ} (n : ℕ) → i < length xs → f (get_or xs i d) ≡ true → n + count f (drop i xs) ≡ v → n + 1 + count f (drop (i + 1) xs) ≡ v
  unfolding count
  count_here n h e inv =
      let k : count f (drop i xs) ≡ suc (count f (drop (i + 1) xs)) = ap (count f) (rest_at d xs i h) ∙ simp (e, count) in
      omega arith

  pub count_onward : {v : ℕ} (n : ℕ) → i < length xs → f (get_or xs i d) ≡ false → n + count f (drop i xs) ≡ v → n + count f (drop (i + 1) xs) ≡ v
  unfolding count
  count_onward n h e inv =
      let k : count f (drop i xs) ≡ count f (drop (i + 1) xs) = ap (count f) (rest_at d xs i h) ∙ simp (e, count) in
      omega arith

  pub count_done : {v : ℕ} (n : ℕ) → length xs ≤ i → n + count f (drop i xs) ≡ v → n ≡ v
  unfolding count
  count_done n h inv = let k : count f (drop i xs) ≡ 0 = ap (count f) (drop_of_length-le xs h) in omega arith

  pub first_found : {v : ℕ} → i < length xs → f (get_or xs i d) ≡ true → first f i (drop i xs) ≡ v → i ≡ v
  unfolding first
  first_found h e inv = sym (ap (first f i) (rest_at d xs i h) ∙ simp (e, first)) ∙ inv

  pub first_onward : {v : ℕ} → i < length xs → f (get_or xs i d) ≡ false → first f i (drop i xs) ≡ v → first f (i + 1) (drop (i + 1) xs) ≡ v
  unfolding first
  first_onward h e inv =
      let k : first f i (drop i xs) ≡ first f (suc i) (drop (i + 1) xs) = ap (first f i) (rest_at d xs i h) ∙ simp (e, first) in
      ap (λ n. first f n (drop (i + 1) xs)) (add-one i) ∙ sym k ∙ inv

  pub first_nowhere : {v : ℕ} → length xs ≤ i → first f i (drop i xs) ≡ v → i ≡ v
  unfolding first
  first_nowhere h inv = sym (ap (first f i) (drop_of_length-le xs h)) ∙ inv

-- the same as `all`, where the test is told the row's number, counted from n
module _ {A : Type 0} (f : ℕ → A → Bool) (d : A) (xs : List A) (n i : ℕ) where
  pub all_from_failed : {v : Bool} → i < length xs → f (n + i) (get_or xs i d) ≡ false → all_from (n + i) f (drop i xs) ≡ v → false ≡ v
  unfolding all_from
  all_from_failed h e inv = sym (ap (all_from (n + i) f) (rest_at d xs i h) ∙ rw e) ∙ inv

  pub all_from_onward : {v : Bool} → i < length xs → f (n + i) (get_or xs i d) ≡ true → all_from (n + i) f (drop i xs) ≡ v
      → all_from (n + (i + 1)) f (drop (i + 1) xs) ≡ v
  unfolding all_from
  all_from_onward h e inv =
      let m : n + (i + 1) ≡ suc (n + i) = omega arith in
      ap (λ k. all_from k f (drop (i + 1) xs)) m ∙ sym (ap (all_from (n + i) f) (rest_at d xs i h) ∙ rw e) ∙ inv

  pub all_from_passed : {v : Bool} → length xs ≤ i → all_from (n + i) f (drop i xs) ≡ v → true ≡ v
  unfolding all_from
  all_from_passed h inv = sym (ap (all_from (n + i) f) (drop_of_length-le xs h)) ∙ inv

-- A LOOP THAT CLEARS ROWS: those from i on are still to do

module _ {A : Type 0} (f : A → Bool) (blank : A) where
  unfoldable pub clear_from : ℕ → List A → List A
  clear_from zero xs = clear f blank xs
  clear_from (suc i) [] = []
  clear_from (suc i) (x ∷ xs) = x ∷ clear_from i xs

  pub clear_start : (xs : List A) → clear_from 0 xs ≡ clear f blank xs
  unfolding clear_from
  clear_start xs = refl

  pub clear_here : (d : A) (i : ℕ) (xs : List A) → i < length xs → f (get_or xs i d) ≡ true → clear_from (i + 1) (set xs i blank) ≡ clear_from i xs
  unfolding clear_from clear
  clear_here d i xs h e = ap (λ n. clear_from n (set xs i blank)) (add-one i) ∙ sym (go d i xs h e)
    where
      go : (d : A) (i : ℕ) (xs : List A) → i < length xs → f (get_or xs i d) ≡ true → clear_from i xs ≡ clear_from (suc i) (set xs i blank)
      go d i [] h e = absurd (not-suc-le-zero h)
      go d zero (x ∷ xs) h e = simp (e, clear)
      go d (suc i) (x ∷ xs) h e = ap (λ l. x ∷ l) (go d i xs (le_of_suc-le-suc h) e)

  pub clear_onward : (d : A) (i : ℕ) (xs : List A) → i < length xs → f (get_or xs i d) ≡ false → clear_from (i + 1) xs ≡ clear_from i xs
  unfolding clear_from clear
  clear_onward d i xs h e = ap (λ n. clear_from n xs) (add-one i) ∙ sym (go d i xs h e)
    where
      go : (d : A) (i : ℕ) (xs : List A) → i < length xs → f (get_or xs i d) ≡ false → clear_from i xs ≡ clear_from (suc i) xs
      go d i [] h e = absurd (not-suc-le-zero h)
      go d zero (x ∷ xs) h e = simp (e, clear)
      go d (suc i) (x ∷ xs) h e = ap (λ l. x ∷ l) (go d i xs (le_of_suc-le-suc h) e)

  pub clear_done : (i : ℕ) (xs : List A) → length xs ≤ i → clear_from i xs ≡ xs
  unfolding clear_from clear
  clear_done zero [] h = refl
  clear_done zero (x ∷ xs) h = absurd (not-suc-le-zero h)
  clear_done (suc i) [] h = refl
  clear_done (suc i) (x ∷ xs) h = ap (λ l. x ∷ l) (clear_done i xs (le_of_suc-le-suc h))

-- THE FIRST ROW THAT PASSES

-- counting from one more gives one more
pub first_shift : {A : Type 0} (f : A → Bool) (xs : List A) (n : ℕ) → first f (suc n) xs ≡ suc (first f n xs)
unfolding first
first_shift f [] n = refl
first_shift f (x ∷ xs) n = go (f x) (first_shift f xs (suc n))
  where
    go : (b : Bool) → first f (suc (suc n)) xs ≡ suc (first f (suc n) xs)
        → elim b as (λ _. ℕ) [ true ↦ suc n | false ↦ first f (suc (suc n)) xs ] ≡ suc (elim b as (λ _. ℕ) [ true ↦ n | false ↦ first f (suc n) xs ])
    go true r = refl
    go false r = r

-- `put` writes it
pub put_first : {A : Type 0} (free : A → Bool) (new : A) (xs : List A) → put free new xs ≡ set xs (first free 0 xs) new
unfolding put first
put_first free new [] = refl
put_first {A = A} free new (x ∷ xs) = go (free x) (put_first free new xs)
  where
    go : (b : Bool) → put free new xs ≡ set xs (first free 0 xs) new
        → elim b as (λ _. List A) [ true ↦ new ∷ xs | false ↦ x ∷ put free new xs ] ≡ set (x ∷ xs) (elim b as (λ _. ℕ) [ true ↦ 0 | false ↦ first free 1 xs ]) new
    go true r = refl
    go false r = rw (first_shift free xs 0) (ap {B = List A} (λ l. x ∷ l) r)

-- `find` gives it
pub find_first : {A : Type 0} (f : A → Bool) (d : A) (xs : List A) → find f d xs ≡ get_or xs (first f 0 xs) d
unfolding find first
find_first f d [] = refl
find_first {A = A} f d (x ∷ xs) = go (f x) (find_first f d xs)
  where
    go : (b : Bool) → find f d xs ≡ get_or xs (first f 0 xs) d
        → elim b as (λ _. A) [ true ↦ x | false ↦ find f d xs ] ≡ get_or (x ∷ xs) (elim b as (λ _. ℕ) [ true ↦ 0 | false ↦ first f 1 xs ]) d
    go true r = refl
    go false r = rw (first_shift f xs 0) r

-- it is a row where `any` row passes, and past the last where none does
pub any_first : {A : Type 0} (f : A → Bool) (xs : List A) → any f xs ≡ true → first f 0 xs < length xs
unfolding any first
any_first f [] e = let z : ◌≡◌ {A = ℕ} 0 1 = cc in absurd (let y : ⊥ = omega arith in y)
any_first f (x ∷ xs) e = go (f x) e (any_first f xs)
  where
    go : (b : Bool) → b || any f xs ≡ true → (any f xs ≡ true → first f 0 xs < length xs)
        → elim b as (λ _. ℕ) [ true ↦ 0 | false ↦ first f 1 xs ] < suc (length xs)
    go true e r = omega arith
    go false e r = omega (arith, r e, first_shift f xs 0)

pub none_first : {A : Type 0} (f : A → Bool) (xs : List A) → any f xs ≡ false → first f 0 xs ≡ length xs
unfolding any first
none_first f [] e = refl
none_first f (x ∷ xs) e = go (f x) e (none_first f xs)
  where
    go : (b : Bool) → b || any f xs ≡ false → (any f xs ≡ false → first f 0 xs ≡ length xs)
        → elim b as (λ _. ℕ) [ true ↦ 0 | false ↦ first f 1 xs ] ≡ suc (length xs)
    go true e r = let z : ◌≡◌ {A = ℕ} 0 1 = cc in absurd (let y : ⊥ = omega arith in y)
    go false e r = first_shift f xs 0 ∙ ap suc (r e)

-- A LOOP THAT STORES a list element by element, from `at` on: what is left to store gives the whole

module _ {A : Type 0} (at : ℕ) (vs : List A) where
  pub store_start : (out : List A) → sets out (at + 0) (drop 0 vs) ≡ sets out at vs
  store_start out = ap (λ n. sets out n vs) (add-zero at)

  pub store_onward : (out : List A) (k : ℕ) (d : A) {v : List A} {x : A} → k < length vs → x ≡ get_or vs k d → sets out (at + k) (drop k vs) ≡ v
      → sets (set out (at + k) x) (at + (k + 1)) (drop (k + 1) vs) ≡ v
  store_onward out k d h e inv =
      let n : at + (k + 1) ≡ suc (at + k) = omega arith in
      rw (e, n) (sym (ap (sets out (at + k)) (rest_at d vs k h)) ∙ inv)

  pub store_done : (out : List A) (k : ℕ) {v : List A} → length vs ≤ k → sets out (at + k) (drop k vs) ≡ v → out ≡ v
  store_done out k h inv = sym (ap (sets out (at + k)) (drop_of_length-le vs h)) ∙ inv

-- the search for a free row ends behind the last where none is
pub none_free : {A : Type 0} (free : A → Bool) (rows : List A) {k n : ℕ} → k ≡ first free 0 rows → length rows ≡ n → eqb k n ≡ not (any free rows)
none_free free rows {k} {n} e l = go (any free rows) refl
  where
    go : (b : Bool) → any free rows ≡ b → eqb k n ≡ not b
    go true q = let h = any_first free rows q in ne_eqb k n (λ z. omega arith)
    go false q = let h = none_first free rows q in eq-eqb k n (omega arith)
