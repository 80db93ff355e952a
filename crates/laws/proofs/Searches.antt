-- What is searched for in rows is found or missed alike after a change that does not touch it, and what is put in is there. In the laws of
-- `put` it is asked that a free row does not pass the test. Assumes nothing.
use mathlib.Core.Path.{◌≡◌, refl}
use mathlib.Core.Bool.{Bool, true, false, ◌&&◌, ◌||◌, false≢true, true≢false}
use mathlib.Core.List.{List, [], ◌∷◌}
use Rattle.model.specs.Lists.{any, find, put, put_all, clear}
use Rattle.laws.proofs.Bools.{clash, or_right, is_false}
use Rattle.laws.proofs.Members.{any_in, in_any}

-- ANY ROW

module _ {A : Type 0} where
  pub any_none : (m : A → Bool) → ((a : A) → m a ≡ false) → (rows : List A) → any m rows ≡ false
  unfolding any
  any_none m misses [] = refl
  any_none m misses (a ∷ rows) = rw (misses a, any_none m misses rows)

  -- a weaker test
  pub any_weaker : (m t : A → Bool) → ((a : A) → m a ≡ true → t a ≡ true) → (rows : List A) → any m rows ≡ true → any t rows ≡ true
  any_weaker m t weaker rows e = let found = any_in m rows e in in_any t found.1 (weaker found.0 found.2)

  pub none_weaker : (m t : A → Bool) → ((a : A) → m a ≡ true → t a ≡ true) → (rows : List A) → any t rows ≡ false → any m rows ≡ false
  none_weaker m t weaker rows e = is_false (any m rows) (λ h. clash (any_weaker m t weaker rows h) e)

  -- tests that say the same of every row
  pub any_alike : (m t : A → Bool) → ((a : A) → m a ≡ t a) → (rows : List A) → any m rows ≡ any t rows
  unfolding any
  any_alike m t alike [] = refl
  any_alike m t alike (a ∷ rows) = rw (alike a, any_alike m t alike rows)

-- THE ROW FOUND

module _ {A : Type 0} (m : A → Bool) (d : A) where
  pub find_missing : (rows : List A) → any m rows ≡ false → find m d rows ≡ d
  unfolding any find
  find_missing [] e = refl
  find_missing (a ∷ rows) e = go (m a) refl (find_missing rows) e
    where
      go : (b : Bool) → m a ≡ b → (any m rows ≡ false → find m d rows ≡ d) → (b || any m rows) ≡ false → find m d (a ∷ rows) ≡ d
      go true p ih h = absurd (true≢false h)
      go false p ih h = simp (p, find) (ih h)

-- A NEW ROW IN THE LOWEST FREE ONE

module _ {A : Type 0} (m free : A → Bool) (new : A) (off : (a : A) → free a ≡ true → m a ≡ false) where
  pub any_put_keeps : (rows : List A) → any m rows ≡ true → any m (put free new rows) ≡ true
  unfolding any put
  any_put_keeps [] e = e
  any_put_keeps (a ∷ rows) e = go (free a) refl (m a) refl (any_put_keeps rows) e
    where
      go : (b : Bool) → free a ≡ b → (c : Bool) → m a ≡ c → (any m rows ≡ true → any m (put free new rows) ≡ true) →
          (c || any m rows) ≡ true → any m (put free new (a ∷ rows)) ≡ true
      go true p true q ih h = clash q (off a p)
      go true p false q ih h = simp (p, put) (or_right (m new) h)
      go false p true q ih h = simp (p, q, put)
      go false p false q ih h = simp (p, q, put) (ih h)

  -- a new row that does not pass changes nothing
  pub any_put_other : m new ≡ false → (rows : List A) → any m (put free new rows) ≡ any m rows
  unfolding any put
  any_put_other misses [] = refl
  any_put_other misses (a ∷ rows) = go (free a) refl (any_put_other misses rows)
    where
      go : (b : Bool) → free a ≡ b → any m (put free new rows) ≡ any m rows → any m (put free new (a ∷ rows)) ≡ (m a || any m rows)
      go true p ih = simp (p, put, misses, off a p)
      go false p ih = simp (p, put, ih)

  pub find_put_other : (d : A) → m new ≡ false → (rows : List A) → find m d (put free new rows) ≡ find m d rows
  unfolding find put
  find_put_other d misses [] = refl
  find_put_other d misses (a ∷ rows) = go (free a) refl (m a) refl (find_put_other d misses rows)
    where
      go : (b : Bool) → free a ≡ b → (c : Bool) → m a ≡ c → find m d (put free new rows) ≡ find m d rows →
          find m d (put free new (a ∷ rows)) ≡ find m d (a ∷ rows)
      go true p c q ih = simp (p, put, find, misses, off a p)
      go false p true q ih = simp (p, put, find, q)
      go false p false q ih = simp (p, put, find, q, ih)

-- what is put in is there, where a row is free
pub any_put_new : {A : Type 0} (m free : A → Bool) (new : A) → m new ≡ true → (rows : List A) → any free rows ≡ true →
    any m (put free new rows) ≡ true
unfolding any put
any_put_new m free new passes [] e = absurd (false≢true e)
any_put_new m free new passes (a ∷ rows) e = go (free a) refl (any_put_new m free new passes rows) e
  where
    go : (b : Bool) → free a ≡ b → (any free rows ≡ true → any m (put free new rows) ≡ true) → (b || any free rows) ≡ true →
        any m (put free new (a ∷ rows)) ≡ true
    go true p ih h = simp (p, put, passes)
    go false p ih h = simp (p, put) (or_right (m a) (ih h))

pub find_put_new : {A : Type 0} (m free : A → Bool) (new d : A) → m new ≡ true → (rows : List A) → any m rows ≡ false →
    any free rows ≡ true → find m d (put free new rows) ≡ new
unfolding any put find
find_put_new m free new d passes [] e f = absurd (false≢true f)
find_put_new m free new d passes (a ∷ rows) e f = go (free a) refl (m a) refl (find_put_new m free new d passes rows) e f
  where
    go : (b : Bool) → free a ≡ b → (c : Bool) → m a ≡ c →
        (any m rows ≡ false → any free rows ≡ true → find m d (put free new rows) ≡ new) → (c || any m rows) ≡ false →
        (b || any free rows) ≡ true → find m d (put free new (a ∷ rows)) ≡ new
    go b p true q ih i j = absurd (true≢false i)
    go true p false q ih i j = simp (p, put, find, passes)
    go false p false q ih i j = simp (p, put, find, q) (ih i j)

-- SEVERAL NEW ROWS

module _ {A : Type 0} (m free : A → Bool) where
  pub any_put_all_keeps : ((a : A) → free a ≡ true → m a ≡ false) → (news rows : List A) → any m rows ≡ true →
      any m (put_all free news rows) ≡ true
  unfolding put_all
  any_put_all_keeps off [] rows e = e
  any_put_all_keeps off (new ∷ news) rows e = any_put_all_keeps off news (put free new rows) (any_put_keeps m free new off rows e)

-- ROWS CLEARED

-- no row passes, so none is cleared
pub clear_none : {A : Type 0} (f : A → Bool) (blank : A) (rows : List A) → any f rows ≡ false → clear f blank rows ≡ rows
unfolding any clear
clear_none f blank [] e = refl
clear_none f blank (a ∷ rows) e = go (f a) refl (clear_none f blank rows) e
  where
    go : (b : Bool) → f a ≡ b → (any f rows ≡ false → clear f blank rows ≡ rows) → (b || any f rows) ≡ false →
        clear f blank (a ∷ rows) ≡ a ∷ rows
    go true p ih h = absurd (true≢false h)
    go false p ih h = simp (p, clear, ih h)

module _ {A : Type 0} (m f : A → Bool) (blank : A) (off : m blank ≡ false) where
  -- no row that is cleared passes m
  pub any_clear_other : (rows : List A) → any (λ a. f a && m a) rows ≡ false → any m (clear f blank rows) ≡ any m rows
  unfolding any clear
  any_clear_other [] e = refl
  any_clear_other (a ∷ rows) e = go (f a) refl (m a) refl (any_clear_other rows) e
    where
      go : (b : Bool) → f a ≡ b → (c : Bool) → m a ≡ c →
          (any (λ x. f x && m x) rows ≡ false → any m (clear f blank rows) ≡ any m rows) →
          ((b && c) || any (λ x. f x && m x) rows) ≡ false → any m (clear f blank (a ∷ rows)) ≡ (c || any m rows)
      go true p true q ih h = absurd (true≢false h)
      go true p false q ih h = simp (p, clear, off, ih h)
      go false p c q ih h = simp (p, clear, q, ih h)

  pub find_clear_other : (d : A) (rows : List A) → any (λ a. f a && m a) rows ≡ false → find m d (clear f blank rows) ≡ find m d rows
  unfolding any clear find
  find_clear_other d [] e = refl
  find_clear_other d (a ∷ rows) e = go (f a) refl (m a) refl (find_clear_other d rows) e
    where
      go : (b : Bool) → f a ≡ b → (c : Bool) → m a ≡ c →
          (any (λ x. f x && m x) rows ≡ false → find m d (clear f blank rows) ≡ find m d rows) →
          ((b && c) || any (λ x. f x && m x) rows) ≡ false → find m d (clear f blank (a ∷ rows)) ≡ find m d (a ∷ rows)
      go true p true q ih h = absurd (true≢false h)
      go true p false q ih h = simp (p, clear, find, off, q, ih h)
      go false p true q ih h = simp (p, clear, find, q)
      go false p false q ih h = simp (p, clear, find, q, ih h)
