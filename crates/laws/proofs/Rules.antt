-- Rules over all rows of a list, and how changes keep them: distinct rows, how many rows pass a test, rows by their number.
-- Assumes nothing.
use mathlib.Core.Path.{◌≡◌, refl, sym, ap, ◌∙◌}
use mathlib.Core.Bool.{Bool, true, false, not, ◌&&◌, ◌||◌, false≢true}
use mathlib.Core.Logic.{◌⊎◌, inl, inr}
use mathlib.Core.List.{List, [], ◌∷◌, map}
use Prim.Native.Nat.{ℕ, zero, suc, ◌+◌, ◌≤◌, ◌<◌}
use native.Mathlib.Omega.{arith}
use lib.ListN.{get_or, length}
use Rattle.model.specs.Lists.{any, all_from, count, distinct, keep, first, find, put, put_all, clear}
use Rattle.laws.proofs.Bools.{clash, and_left, and_right, both, or_right, not_true, is_false}
use Rattle.laws.proofs.Members.{◌∈◌, here, there, in_nothing, in_none, none_in, from_put, from_clear, from_keep, from_map}

not_is : {b : Bool} → b ≡ false → not b ≡ true
not_is e = rw e

-- DISTINCT ROWS

module _ {A : Type 0} (free : A → Bool) (alike : A → A → Bool) where
  -- a used row that is unlike all behind it
  used_unlike : (a : A) (rows : List A) → ((x : A) → x ∈ rows → alike a x ≡ false) → distinct free alike rows ≡ true →
      distinct free alike (a ∷ rows) ≡ true
  unfolding distinct
  used_unlike a rows unlike d = both (or_right (free a) (not_is (none_in (alike a) rows unlike))) d

  pub unlike_behind : {a x : A} {rows : List A} → distinct free alike (a ∷ rows) ≡ true → free a ≡ false → x ∈ rows → alike a x ≡ false
  unfolding distinct
  unlike_behind {a} {x} {rows} d used m =
      in_none (alike a) (not_true (any (alike a) rows) (simp used at (and_left (free a || not (any (alike a) rows)) _ d))) m

  pub distinct_behind : (a : A) (rows : List A) → distinct free alike (a ∷ rows) ≡ true → distinct free alike rows ≡ true
  unfolding distinct
  distinct_behind a rows d = and_right (free a || not (any (alike a) rows)) _ d

  -- one row more, that is free or unlike what follows
  one_more_distinct : (a : A) (rows : List A) → (free a ≡ false → (x : A) → x ∈ rows → alike a x ≡ false) →
      distinct free alike rows ≡ true →
      distinct free alike (a ∷ rows) ≡ true
  unfolding distinct
  one_more_distinct a rows unlike d = go (free a) refl
    where
      go : (b : Bool) → free a ≡ b → ((b || not (any (alike a) rows)) && distinct free alike rows) ≡ true
      go true p = d
      go false p = both (not_is (none_in (alike a) rows (unlike p))) d

  pub distinct_clear : (f : A → Bool) (blank : A) → free blank ≡ true → ((x : A) → alike x blank ≡ true → free x ≡ true) → (rows : List A) →
      distinct free alike rows ≡ true → distinct free alike (clear f blank rows) ≡ true
  unfolding clear
  distinct_clear f blank fb unlike [] d = d
  distinct_clear f blank fb unlike (a ∷ rows) d = go (f a) (distinct_clear f blank fb unlike rows (distinct_behind a rows d))
    where
      left : {x : A} → free a ≡ false → (x ≡ blank) ⊎ ((x ∈ rows) × (f x ≡ false)) → alike a x ≡ false
      left used (inl e) = rw e (is_false (alike a blank) (λ h. clash (unlike a h) used))
      left used (inr i) = unlike_behind d used i.0

      go : (b : Bool) → distinct free alike (clear f blank rows) ≡ true →
          distinct free alike (elim b as (λ _. List A) [ true ↦ blank ∷ clear f blank rows | false ↦ a ∷ clear f blank rows ]) ≡ true
      go true ih = one_more_distinct blank (clear f blank rows) (λ used. clash fb used) ih
      go false ih = one_more_distinct a (clear f blank rows) (λ used x m. left used (from_clear f blank rows m)) ih

  pub distinct_keep : (f : A → Bool) (rows : List A) → distinct free alike rows ≡ true → distinct free alike (keep f rows) ≡ true
  unfolding keep
  distinct_keep f [] d = d
  distinct_keep f (a ∷ rows) d = go (f a) (distinct_keep f rows (distinct_behind a rows d))
    where
      go : (b : Bool) → distinct free alike (keep f rows) ≡ true →
          distinct free alike (elim b as (λ _. List A) [ true ↦ a ∷ keep f rows | false ↦ keep f rows ]) ≡ true
      go true ih = one_more_distinct a (keep f rows) (λ used x m. unlike_behind d used (from_keep f rows m).0) ih
      go false ih = ih

  -- a change of each row under which rows become alike only where they were
  pub distinct_map : (g : A → A) (rows : List A) → ((x : A) → x ∈ rows → free (g x) ≡ false → free x ≡ false) →
      ((x y : A) → x ∈ rows → y ∈ rows → alike (g x) (g y) ≡ true → alike x y ≡ true) → distinct free alike rows ≡ true →
      distinct free alike (map g rows) ≡ true
  distinct_map g [] used same d = d
  distinct_map g (a ∷ rows) used same d =
      one_more_distinct (g a) (map g rows) (λ u x m. unlike u (from_map g rows m))
      (distinct_map g rows (λ x i. used x (there i)) (λ x y i j. same x y (there i) (there j)) (distinct_behind a rows d))
    where
      unlike : {x : A} → free (g a) ≡ false → (y : A) × (y ∈ rows) × (x ≡ g y) → alike (g a) x ≡ false
      unlike u found =
          rw found.2
          (is_false (alike (g a) (g found.0))
          (λ h. clash (same a found.0 (here refl) (there found.1) h) (unlike_behind d (used a (here refl) u) found.1)))

  module _ (turned : (a b : A) → alike a b ≡ true → alike b a ≡ true) where
    unlike_turned : (a b : A) → alike a b ≡ false → alike b a ≡ false
    unlike_turned a b e = is_false (alike b a) (λ h. clash (turned b a h) e)

    pub distinct_put : (new : A) (rows : List A) → ((x : A) → x ∈ rows → alike new x ≡ false) → distinct free alike rows ≡ true →
        distinct free alike (put free new rows) ≡ true
    unfolding put
    distinct_put new [] unlike d = d
    distinct_put new (a ∷ rows) unlike d = go (free a) refl (distinct_put new rows (λ x m. unlike x (there m)) (distinct_behind a rows d))
      where
        later : {x : A} → free a ≡ false → (x ≡ new) ⊎ (x ∈ rows) → alike a x ≡ false
        later used (inl e) = rw e (unlike_turned new a (unlike a (here refl)))
        later used (inr m) = unlike_behind d used m

        go : (b : Bool) → free a ≡ b → distinct free alike (put free new rows) ≡ true →
            distinct free alike (elim b as (λ _. List A) [ true ↦ new ∷ rows | false ↦ a ∷ put free new rows ]) ≡ true
        go true p ih = used_unlike new rows (λ x m. unlike x (there m)) (distinct_behind a rows d)
        go false p ih = used_unlike a (put free new rows) (λ x m. later p (from_put free new rows m)) ih

-- New rows that are unlike the rows there, and each unlike those before it.
pub data Apart {A : Type 0} (alike : A → A → Bool) : List A → List A → Type 0 where
  none_new : {rows : List A} → Apart alike [] rows
  one_new : {new : A} {news rows : List A} → ((x : A) → x ∈ rows → alike new x ≡ false) → Apart alike news (new ∷ rows) →
      Apart alike (new ∷ news) rows

module _ {A : Type 0} (free : A → Bool) (alike : A → A → Bool) where
  -- the rows there may change, where what is then there was there before or is unlike every new row
  pub apart_kept : {news rows : List A} (left : List A) → ((n x : A) → n ∈ news → x ∈ left → (x ∈ rows) ⊎ (alike n x ≡ false)) →
      Apart alike news rows →
      Apart alike news left
  apart_kept left was none_new = none_new
  apart_kept left was (one_new {new = new} {news = news} {rows = rows} unlike more) =
      one_new (λ x m. old x (was new x (here refl) m)) (apart_kept (new ∷ left) (λ n x i m. next n x (there i) m) more)
    where
      old : (x : A) → (x ∈ rows) ⊎ (alike new x ≡ false) → alike new x ≡ false
      old x (inl m) = unlike x m
      old x (inr e) = e

      behind : (n x : A) → (x ∈ rows) ⊎ (alike n x ≡ false) → (x ∈ (new ∷ rows)) ⊎ (alike n x ≡ false)
      behind n x (inl m) = inl (there m)
      behind n x (inr e) = inr e

      next : (n x : A) → n ∈ (new ∷ news) → x ∈ (new ∷ left) → (x ∈ (new ∷ rows)) ⊎ (alike n x ≡ false)
      next n x i (here e) = inl (here e)
      next n x i (there m) = behind n x (was n x i m)

  module _ (turned : (a b : A) → alike a b ≡ true → alike b a ≡ true) where
    pub distinct_put_all : (news rows : List A) → Apart alike news rows → distinct free alike rows ≡ true →
        distinct free alike (put_all free news rows) ≡ true
    unfolding put_all
    distinct_put_all [] rows ap d = d
    distinct_put_all (new ∷ news) rows (one_new unlike more) d =
        distinct_put_all news (put free new rows) (apart_kept (put free new rows) (λ n x i m. inl (turn (from_put free new rows m))) more)
        (distinct_put free alike turned new rows unlike d)
      where
        turn : {x : A} → (x ≡ new) ⊎ (x ∈ rows) → x ∈ (new ∷ rows)
        turn (inl e) = here e
        turn (inr m) = there m

    -- used rows that are distinct among themselves and unlike the rows there
    pub apart : (news rows : List A) → ((n : A) → n ∈ news → free n ≡ false) → distinct free alike news ≡ true →
        ((n x : A) → n ∈ news → x ∈ rows → alike n x ≡ false) → Apart alike news rows
    apart [] rows used d unlike = none_new
    apart (new ∷ news) rows used d unlike =
        one_new (λ x m. unlike new x (here refl) m)
        (apart news (new ∷ rows) (λ n i. used n (there i)) (distinct_behind free alike new news d) next)
      where
        next : (n x : A) → n ∈ news → x ∈ (new ∷ rows) → alike n x ≡ false
        next n x i (here e) = rw e (unlike_turned free alike turned new n (unlike_behind free alike d (used new (here refl)) i))
        next n x i (there m) = unlike n x (there i) m

-- HOW MANY ROWS PASS

abbrev pub one_if : Bool → ℕ
one_if true = 1
one_if false = 0

module _ {A : Type 0} (m : A → Bool) where
  pub count_front : (a : A) (rows : List A) → count m (a ∷ rows) ≡ one_if (m a) + count m rows
  unfolding count
  count_front a rows = go (m a)
    where
      go : (b : Bool) → elim b as (λ _. ℕ) [ true ↦ suc (count m rows) | false ↦ count m rows ] ≡ one_if b + count m rows
      go true = omega arith
      go false = omega arith

  pub count_none : (rows : List A) → ((x : A) → x ∈ rows → m x ≡ false) → count m rows ≡ 0
  unfolding count
  count_none [] h = refl
  count_none (a ∷ rows) h = count_front a rows ∙ rw (h a (here refl), count_none rows (λ x i. h x (there i)))

  pub count_some : {x : A} (rows : List A) → x ∈ rows → m x ≡ true → 1 ≤ count m rows
  count_some [] i e = in_nothing i
  count_some (a ∷ rows) (here q) e = let f : m a ≡ true = rw q at e in rw (count_front a rows, f) (omega arith)
  count_some (a ∷ rows) (there i) e = let ih = count_some rows i e in omega (arith, count_front a rows)

  pub count_within : (rows : List A) → count m rows ≤ length rows
  unfolding count
  count_within [] = omega arith
  count_within (a ∷ rows) = let ih = count_within rows in rw (count_front a rows) (go (m a) ih)
    where
      go : (b : Bool) → count m rows ≤ length rows → one_if b + count m rows ≤ suc (length rows)
      go true ih = omega arith
      go false ih = omega arith

  pub count_put : (free : A → Bool) (new : A) (rows : List A) → ((a : A) → a ∈ rows → free a ≡ true → m a ≡ false) → any free rows ≡ true →
      count m (put free new rows) ≡ one_if (m new) + count m rows
  unfolding any put
  count_put free new [] off e = absurd (false≢true e)
  count_put free new (a ∷ rows) off e = go (free a) refl (count_put free new rows (λ x i. off x (there i))) e
    where
      go : (b : Bool) → free a ≡ b → (any free rows ≡ true → count m (put free new rows) ≡ one_if (m new) + count m rows) →
          (b || any free rows) ≡ true →
          count m (elim b as (λ _. List A) [ true ↦ new ∷ rows | false ↦ a ∷ put free new rows ]) ≡ one_if (m new) + count m (a ∷ rows)
      go true p ih h = rw (count_front new rows, count_front a rows, off a (here refl) p) (omega arith)
      go false p ih h = let i = ih h in omega (arith, count_front a rows, count_front a (put free new rows))

  -- what is cleared is counted off
  pub count_clear : (f : A → Bool) (blank : A) → m blank ≡ false → (rows : List A) →
      count m (clear f blank rows) + count (λ a. f a && m a) rows ≡ count m rows
  unfolding clear count
  count_clear f blank off [] = refl
  count_clear f blank off (a ∷ rows) = go (f a) (m a) refl (count_clear f blank off rows)
    where
      go : (b c : Bool) → m a ≡ c → count m (clear f blank rows) + count (λ x. f x && m x) rows ≡ count m rows →
          count m (elim b as (λ _. List A) [ true ↦ blank ∷ clear f blank rows | false ↦ a ∷ clear f blank rows ])
          + elim (b && c) as (λ _. ℕ) [ true ↦ suc (count (λ x. f x && m x) rows) | false ↦ count (λ x. f x && m x) rows ]
          ≡ elim c as (λ _. ℕ) [ true ↦ suc (count m rows) | false ↦ count m rows ]
      go true true p ih = rw (count_front blank (clear f blank rows), off) (omega arith)
      go true false p ih = rw (count_front blank (clear f blank rows), off) (omega arith)
      go false true p ih = rw (count_front a (clear f blank rows), p) (omega arith)
      go false false p ih = rw (count_front a (clear f blank rows), p) (omega arith)

pub count_weaker : {A : Type 0} (m t : A → Bool) (rows : List A) → ((x : A) → x ∈ rows → m x ≡ true → t x ≡ true) →
    count m rows ≤ count t rows
unfolding count
count_weaker m t [] h = omega arith
count_weaker m t (a ∷ rows) h =
    rw (count_front m a rows, count_front t a rows) (go (m a) (t a) (h a (here refl)) (count_weaker m t rows (λ x i. h x (there i))))
  where
    go : (b c : Bool) → (b ≡ true → c ≡ true) → count m rows ≤ count t rows → one_if b + count m rows ≤ one_if c + count t rows
    go true true i ih = omega arith
    go true false i ih = absurd (false≢true (i refl))
    go false true i ih = omega arith
    go false false i ih = omega arith

-- of distinct rows at most one passes a test that only alike rows pass
pub count_alone : {A : Type 0} (free : A → Bool) (alike : A → A → Bool) (m : A → Bool) → ((x : A) → m x ≡ true → free x ≡ false) →
    ((x y : A) → m x ≡ true → m y ≡ true → alike x y ≡ true) → (rows : List A) → distinct free alike rows ≡ true → count m rows ≤ 1
unfolding count
count_alone free alike m used same [] d = omega arith
count_alone free alike m used same (a ∷ rows) d =
    rw (count_front m a rows) (go (m a) refl (count_alone free alike m used same rows (distinct_behind free alike a rows d)))
  where
    go : (b : Bool) → m a ≡ b → count m rows ≤ 1 → one_if b + count m rows ≤ 1
    go true p ih =
        let none = count_none m rows (λ x i. is_false (m x) (λ h. clash (same a x p h) (unlike_behind free alike d (used a p) i))) in
        omega arith
    go false p ih = omega arith

-- of distinct rows the one that passes such a test is the one found
pub find_only : {A : Type 0} (free : A → Bool) (alike : A → A → Bool) (m : A → Bool) (d : A) → ((x : A) → m x ≡ true → free x ≡ false) →
    ((x y : A) → m x ≡ true → m y ≡ true → alike x y ≡ true) → (rows : List A) (x : A) → distinct free alike rows ≡ true → x ∈ rows →
    m x ≡ true → find m d rows ≡ x
unfolding find
find_only free alike m d used same [] x e i p = in_nothing i
find_only {A} free alike m d used same (a ∷ rows) x e i p =
    go (m a) refl i (find_only free alike m d used same rows x (distinct_behind free alike a rows e))
  where
    go : (b : Bool) → m a ≡ b → x ∈ (a ∷ rows) → (x ∈ rows → m x ≡ true → find m d rows ≡ x) →
        elim b as (λ _. A) [ true ↦ a | false ↦ find m d rows ] ≡ x
    go true q (here r) ih = sym r
    go true q (there j) ih = clash (same a x q p) (unlike_behind free alike e (used a q) j)
    go false q (here r) ih = clash (rw r at p) q
    go false q (there j) ih = ih j p

-- AS MANY ROWS AS BEFORE

module _ {A : Type 0} where
  pub length_put : (free : A → Bool) (new : A) (rows : List A) → length (put free new rows) ≡ length rows
  unfolding put
  length_put free new [] = refl
  length_put free new (a ∷ rows) = go (free a) (length_put free new rows)
    where
      go : (b : Bool) → length (put free new rows) ≡ length rows →
          length {A = A} (elim b as (λ _. List A) [ true ↦ new ∷ rows | false ↦ a ∷ put free new rows ]) ≡ suc (length rows)
      go true ih = refl
      go false ih = ap suc ih

  pub length_put_all : (free : A → Bool) (news rows : List A) → length (put_all free news rows) ≡ length rows
  unfolding put_all
  length_put_all free [] rows = refl
  length_put_all free (new ∷ news) rows = length_put_all free news (put free new rows) ∙ length_put free new rows

  pub length_clear : (f : A → Bool) (blank : A) (rows : List A) → length (clear f blank rows) ≡ length rows
  unfolding clear
  length_clear f blank [] = refl
  length_clear f blank (a ∷ rows) = go (f a) (length_clear f blank rows)
    where
      go : (b : Bool) → length (clear f blank rows) ≡ length rows →
          length {A = A} (elim b as (λ _. List A) [ true ↦ blank ∷ clear f blank rows | false ↦ a ∷ clear f blank rows ]) ≡ suc
          (length rows)
      go true ih = ap suc ih
      go false ih = ap suc ih

  -- ROWS BY THEIR NUMBER

  pub all_from_at : (d : A) (f : ℕ → A → Bool) (i : ℕ) (rows : List A) → all_from i f rows ≡ true → (k : ℕ) → k < length rows →
      f (i + k) (get_or rows k d) ≡ true
  unfolding all_from
  all_from_at d f i [] e k h = absurd (omega arith)
  all_from_at d f i (a ∷ rows) e zero h = let z : i + 0 ≡ i = omega arith in rw z (and_left (f i a) _ e)
  all_from_at d f i (a ∷ rows) e (suc k) h =
      let z : i + suc k ≡ suc i + k = omega arith in rw z (all_from_at d f (suc i) rows (and_right (f i a) _ e) k (omega arith))

  pub at_all_from : (d : A) (f : ℕ → A → Bool) (i : ℕ) (rows : List A) → ((k : ℕ) → k < length rows → f (i + k) (get_or rows k d) ≡ true) →
      all_from i f rows ≡ true
  unfolding all_from
  at_all_from d f i [] h = refl
  at_all_from d f i (a ∷ rows) h =
      let z : i + 0 ≡ i = omega arith in
      both (rw z at (h 0 (omega arith)))
      (at_all_from d f (suc i) rows (λ k l. let y : i + suc k ≡ suc i + k = omega arith in rw y at (h (suc k) (omega arith))))

  -- where a row passes, the first that does, counted from i
  pub first_at : (d : A) (f : A → Bool) (i : ℕ) (rows : List A) → any f rows ≡ true →
      (k : ℕ) × (first f i rows ≡ i + k) × (k < length rows) × (f (get_or rows k d) ≡ true)
  unfolding any first
  first_at d f i [] e = absurd (false≢true e)
  first_at d f i (a ∷ rows) e = go (f a) refl (first_at d f (suc i) rows) e
    where
      go : (b : Bool) → f a ≡ b →
          (any f rows ≡ true → (k : ℕ) × (first f (suc i) rows ≡ suc i + k) × (k < length rows) × (f (get_or rows k d) ≡ true)) →
          (b || any f rows) ≡ true →
          (k : ℕ) × (elim b as (λ _. ℕ) [ true ↦ i | false ↦ first f (suc i) rows ] ≡ i + k) × (k < suc (length rows)) ×
          (f (get_or (a ∷ rows) k d) ≡ true)
      go true p ih h = (0, omega arith, omega arith, p)
      go false p ih h = let found = ih h in (suc found.0, found.1 ∙ omega arith, omega (arith, found.2), found.3)
