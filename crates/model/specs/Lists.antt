-- Lists of rows, whatever a row is: the searches and changes that the rules of document 01 are written with. Every test is a Bool that
-- computes. Assumes nothing.
use Rattle.std.specs.Prelude.{Bool, true, false, not, ◌&&◌, ◌||◌, List, [], ◌∷◌, ◌++◌, ℕ, zero, suc, eqb, take, drop, replicate}

-- two lists of numbers are the same
unfoldable pub same : List ℕ → List ℕ → Bool
same [] [] = true
same [] (y ∷ ys) = false
same (x ∷ xs) [] = false
same (x ∷ xs) (y ∷ ys) = elim (eqb x y) [ true ↦ same xs ys | false ↦ false ]

module _ {A : Type 0} where
  unfoldable pub empty : List A → Bool
  empty [] = true
  empty (x ∷ xs) = false

  unfoldable pub any : (A → Bool) → List A → Bool
  any f [] = false
  any f (x ∷ xs) = f x || any f xs

  unfoldable pub all : (A → Bool) → List A → Bool
  all f [] = true
  all f (x ∷ xs) = f x && all f xs

  -- the same, where the test is told each row's number, counted from i
  unfoldable pub all_from : ℕ → (ℕ → A → Bool) → List A → Bool
  all_from i f [] = true
  all_from i f (x ∷ xs) = f i x && all_from (suc i) f xs

  unfoldable pub count : (A → Bool) → List A → ℕ
  count f [] = 0
  count f (x ∷ xs) = elim (f x) [ true ↦ suc (count f xs) | false ↦ count f xs ]

  -- no row that is not free has a later row like it
  unfoldable pub distinct : (A → Bool) → (A → A → Bool) → List A → Bool
  distinct free alike [] = true
  distinct free alike (x ∷ xs) = (free x || not (any (alike x) xs)) && distinct free alike xs

  -- the rows that pass, in their order
  unfoldable pub keep : (A → Bool) → List A → List A
  keep f [] = []
  keep f (x ∷ xs) = elim (f x) [ true ↦ x ∷ keep f xs | false ↦ keep f xs ]

  -- the number of the first row that passes, counted from i; past the last where none does
  unfoldable pub first : (A → Bool) → ℕ → List A → ℕ
  first f i [] = i
  first f i (x ∷ xs) = elim (f x) [ true ↦ i | false ↦ first f (suc i) xs ]

  -- the first row that passes, or else d
  unfoldable pub find : (A → Bool) → A → List A → A
  find f d [] = d
  find f d (x ∷ xs) = elim (f x) [ true ↦ x | false ↦ find f d xs ]

  -- the rows with `new` in the lowest free one; as they were where none is free
  unfoldable pub put : (A → Bool) → A → List A → List A
  put free new [] = []
  put free new (x ∷ xs) = elim (free x) [ true ↦ new ∷ xs | false ↦ x ∷ put free new xs ]

  -- several new rows, one after the other
  unfoldable pub put_all : (A → Bool) → List A → List A → List A
  put_all free [] rows = rows
  put_all free (new ∷ news) rows = put_all free news (put free new rows)

  -- each row that passes is replaced by the free row
  unfoldable pub clear : (A → Bool) → A → List A → List A
  clear f blank [] = []
  clear f blank (x ∷ xs) = elim (f x) [ true ↦ blank ∷ clear f blank xs | false ↦ x ∷ clear f blank xs ]

  -- the n pieces of k elements with which a list begins
  unfoldable pub pieces : ℕ → ℕ → List A → List (List A)
  pieces zero k xs = []
  pieces (suc n) k xs = take k xs ∷ pieces n k (drop k xs)

-- what f makes of each row, joined
unfoldable pub joined : {A : Type 0} → (A → List ℕ) → List A → List ℕ
joined f [] = []
joined f (x ∷ xs) = f x ++ joined f xs

-- filled up with zeros to n numbers
unfoldable pub filled : ℕ → List ℕ → List ℕ
filled n s = take n (s ++ replicate n 0)

-- A handle: `unfolding computing_lists` opens every definition of this file.
unfoldable pub computing_lists : Unit {0}
unfolding same empty any all all_from count distinct keep first find put put_all clear pieces joined filled
computing_lists = tt
