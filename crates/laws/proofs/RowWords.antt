-- Rows of one width in a list of numbers, read by u and written by f: each row's place, what it means that the list is just its rows, and
-- one row written. Assumes nothing.
use mathlib.Core.Path.{◌≡◌, refl, sym, ap, ap₂, ◌∙◌}
use mathlib.Core.List.{List, [], ◌∷◌, ◌++◌, map}
use Prim.Native.Nat.{ℕ, zero, suc, ◌+◌, ◌*◌, ◌≤◌, ◌<◌}
use native.Mathlib.Omega.{arith}
use native.Mathlib.Nat.{zero-mul, add-suc, suc-mul, mul-le-mul_right, not-suc-le-zero, le_of_suc-le-suc}
use native.Mathlib.Decide.{ℕ_discrete}
use lib.ListN.{length, get_or, take, drop, set, length-drop, length-map, take-append-drop}
use lib.Seq.{sets, length-sets, take_at, drop_at, take-append_seam, drop-append_seam, take-add, drop-drop, take-set-le, drop-set-add, get_or-set_same, get_or-set_other, length-take-le}
use Rattle.model.specs.Lists.{pieces, joined}
use Rattle.laws.proofs.Pieces.{pieces_length, map_set}

-- two lists joined, and one half known to be as long
pub same_halves : {A : Type 0} (a b c d : List A) → length a ≡ length c → a ++ b ≡ c ++ d → (a ≡ c) × (b ≡ d)
same_halves a b c d h e =
    (sym (take-append_seam a b) ∙ ap₂ take h e ∙ take-append_seam c d, sym (drop-append_seam a b) ∙ ap₂ drop h e ∙ drop-append_seam c d)

suc_times : (n k : ℕ) → suc n * k ≡ k + n * k
suc_times n k = omega (arith, suc-mul n k)

-- a row of n has room
pub row_inside : {row n : ℕ} (k : ℕ) → row < n → row * k + k ≤ n * k
row_inside {row} {n} k h = omega (arith, mul-le-mul_right {m = suc row} {n = n} k h, suc-mul row k)

-- STORES

module _ {A : Type 0} where
  -- a run of stores behind the first n elements leaves those, and is the same run in the rest
  pub take_sets : (n : ℕ) (l : List A) (i : ℕ) (vs : List A) → n ≤ i → take n (sets l i vs) ≡ take n l
  take_sets n l i [] h = refl
  take_sets n l i (v ∷ vs) h = take_sets n (set l i v) (suc i) vs (omega arith) ∙ take-set-le n l i v h

  pub drop_sets : (n : ℕ) (l : List A) (i : ℕ) (vs : List A) → drop n (sets l (n + i) vs) ≡ sets (drop n l) i vs
  drop_sets n l i [] = refl
  drop_sets n l i (v ∷ vs) =
      ap (λ m. drop n (sets (set l (n + i) v) m vs)) (sym (add-suc n i)) ∙ drop_sets n (set l (n + i) v) (suc i) vs
      ∙ ap (λ m. sets m (suc i) vs) (drop-set-add n l i v)

  -- stores at the front
  pub front_sets : (l vs : List A) → length vs ≤ length l → sets l 0 vs ≡ vs ++ drop (length vs) l
  front_sets l [] h = refl
  front_sets [] (v ∷ vs) h = absurd (not-suc-le-zero h)
  front_sets (x ∷ l) (v ∷ vs) h =
      let e : sets (v ∷ l) 1 vs ≡ v ∷ sets l 0 vs
      = sym (take-append-drop 1 (sets (v ∷ l) 1 vs)) ∙ ap₂ ◌++◌ (take_sets 1 (v ∷ l) 1 vs (omega arith)) (drop_sets 1 (v ∷ l) 0 vs) in
      e ∙ ap (λ m. v ∷ m) (front_sets l vs (le_of_suc-le-suc h))

-- PIECES

module _ {A : Type 0} (k : ℕ) where
  -- the pieces look at no more than they need
  pub pieces_take : (n : ℕ) (l : List A) → n * k ≤ length l → pieces n k (take (n * k) l) ≡ pieces n k l
  unfolding pieces
  pieces_take zero l h = refl
  pieces_take (suc n) l h =
      let s = suc_times n k in
      let c : take (suc n * k) l ≡ take k l ++ take (n * k) (drop k l) = ap (λ m. take m l) s ∙ take-add k (n * k) l in
      let w : length (take k l) ≡ k = length-take-le k l (omega arith) in
      let t : take k (take (suc n * k) l) ≡ take k l = ap (take k) c ∙ take_at (take k l) (take (n * k) (drop k l)) k w in
      let d : drop k (take (suc n * k) l) ≡ take (n * k) (drop k l) = ap (drop k) c ∙ drop_at (take k l) (take (n * k) (drop k l)) k w in
      let r = pieces_take n (drop k l) (omega (arith, length-drop k l)) in
      ap₂ {C = List (List A)} ◌∷◌ t (ap (pieces n k) d ∙ r)

  pub piece_at : (n : ℕ) (l : List A) (row : ℕ) (d : List A) → row < n → get_or (pieces n k l) row d ≡ take k (drop (row * k) l)
  unfolding pieces
  piece_at zero l row d h = absurd (not-suc-le-zero h)
  piece_at (suc n) l zero d h = ap (λ m. take k (drop m l)) (sym (zero-mul k))
  piece_at (suc n) l (suc row) d h =
      piece_at n (drop k l) row d (le_of_suc-le-suc h) ∙ ap (take k) (drop-drop (row * k) k l) ∙ ap (λ m. take k (drop m l)) (sym (suc_times row k))

  -- one piece written
  pub piece_set : (n : ℕ) (l : List A) (row : ℕ) (ws : List A) → row < n → n * k ≤ length l → length ws ≡ k
      → pieces n k (sets l (row * k) ws) ≡ set (pieces n k l) row ws
  unfolding pieces
  piece_set zero l row ws h b e = absurd (not-suc-le-zero h)
  piece_set (suc n) l zero ws h b e =
      let s = suc_times n k in
      let f : sets l (0 * k) ws ≡ ws ++ drop (length ws) l = ap (λ m. sets l m ws) (zero-mul k) ∙ front_sets l ws (omega arith) in
      ap₂ {C = List (List A)} ◌∷◌ (ap (take k) f ∙ take_at ws (drop (length ws) l) k e)
      (ap (pieces n k) (ap (drop k) f ∙ drop_at ws (drop (length ws) l) k e ∙ ap (λ m. drop m l) e))
  piece_set (suc n) l (suc row) ws h b e =
      let s = suc_times n k in
      let i : sets l (suc row * k) ws ≡ sets l (k + row * k) ws = ap (λ m. sets l m ws) (suc_times row k) in
      ap₂ {C = List (List A)} ◌∷◌ (ap (take k) i ∙ take_sets k l (k + row * k) ws (omega arith))
      (ap (pieces n k) (ap (drop k) i ∙ drop_sets k l (row * k) ws)
      ∙ piece_set n (drop k l) row ws (le_of_suc-le-suc h) (omega (arith, length-drop k l)) e)

-- ROWS

abbrev pub rows_of : {A : Type 0} → (List ℕ → A) → ℕ → ℕ → List ℕ → List A
rows_of u n k l = map u (pieces n k l)

-- the list is just the words of its n rows
abbrev pub JustRows : {A : Type 0} → (List ℕ → A) → (A → List ℕ) → ℕ → ℕ → List ℕ → Type 0
JustRows u f n k l = joined f (rows_of u n k l) ≡ l

pub rows_length : {A : Type 0} (u : List ℕ → A) (n k : ℕ) (l : List ℕ) → length (rows_of u n k l) ≡ n
rows_length u n k l = length-map (pieces n k l) u ∙ pieces_length n k l

-- a row is what u reads at its place
pub row_at : {A : Type 0} (u : List ℕ → A) (n k : ℕ) (l : List ℕ) (row : ℕ) (d : A) → row < n
    → get_or (rows_of u n k l) row d ≡ u (take k (drop (row * k) l))
unfolding pieces
row_at u zero k l row d h = absurd (not-suc-le-zero h)
row_at u (suc n) k l zero d h = ap (λ m. u (take k (drop m l))) (sym (zero-mul k))
row_at u (suc n) k l (suc row) d h =
    row_at u n k (drop k l) row d (le_of_suc-le-suc h)
    ∙ ap u (ap (take k) (drop-drop (row * k) k l) ∙ ap (λ m. take k (drop m l)) (sym (suc_times row k)))

module _ {A : Type 0} (u : List ℕ → A) (f : A → List ℕ) (k : ℕ) where
  -- the words at a row's place are those that the row is written as
  abbrev pub ExactAt : List ℕ → ℕ → Type 0
  ExactAt l row = f (u (take k (drop (row * k) l))) ≡ take k (drop (row * k) l)

  -- each row by itself makes the whole
  pub just_rows : (n : ℕ) (l : List ℕ) → length l ≡ n * k → ((row : ℕ) → row < n → ExactAt l row) → JustRows u f n k l
  unfolding pieces joined
  just_rows zero [] h e = refl
  just_rows zero (x ∷ l) h e = let z : ⊥ = omega (arith, zero-mul k) in absurd z
  just_rows (suc n) l h e =
      let s = suc_times n k in
      let z : 0 * k ≡ 0 = zero-mul k in
      let a : f (u (take k l)) ≡ take k l = rw z at (e 0 (omega arith)) in
      let r = just_rows n (drop k l) (omega (arith, length-drop k l)) (λ row b. shift row (e (suc row) (omega arith))) in
      ap₂ ◌++◌ a r ∙ take-append-drop k l
    where
      shift : (row : ℕ) → ExactAt l (suc row) → ExactAt (drop k l) row
      shift row q =
          let t : take k (drop (suc row * k) l) ≡ take k (drop (row * k) (drop k l))
          = ap (λ m. take k (drop m l)) (suc_times row k) ∙ ap (take k) (sym (drop-drop (row * k) k l)) in
          ap (λ m. f (u m)) (sym t) ∙ q ∙ t

  module _ (wide : (x : A) → length (f x) ≡ k) where
    -- and the whole each row
    pub exact_row : (n : ℕ) (l : List ℕ) → JustRows u f n k l → (row : ℕ) → row < n → ExactAt l row
    unfolding pieces joined
    exact_row zero l e row h = absurd (not-suc-le-zero h)
    exact_row (suc n) l e zero h =
        let x = u (take k l) in
        let z : 0 * k ≡ 0 = zero-mul k in
        let t : f (u (take k l)) ≡ take k l = sym (take_at (f (u (take k l))) (joined f (rows_of u n k (drop k l))) k (wide (u (take k l)))) ∙ ap (take k) e in
        rw z t
    exact_row (suc n) l e (suc row) h =
        let d : JustRows u f n k (drop k l) = sym (drop_at (f (u (take k l))) (joined f (rows_of u n k (drop k l))) k (wide (u (take k l)))) ∙ ap (drop k) e in
        let t : take k (drop (suc row * k) l) ≡ take k (drop (row * k) (drop k l))
        = ap (λ m. take k (drop m l)) (suc_times row k) ∙ ap (take k) (sym (drop-drop (row * k) k l)) in
        ap (λ m. f (u m)) t ∙ exact_row n (drop k l) d row (le_of_suc-le-suc h) ∙ sym t

    -- one row written
    module _ (n : ℕ) (l : List ℕ) (long : length l ≡ n * k) (row : ℕ) (r : row < n) (x : A) (fits : u (f x) ≡ x) where
      pub rows_set : rows_of u n k (sets l (row * k) (f x)) ≡ set (rows_of u n k l) row x
      rows_set =
          ap (map u) (piece_set k n l row (f x) r (omega arith) (wide x)) ∙ map_set u (pieces n k l) row (f x)
          ∙ ap (set (rows_of u n k l) row) fits

      pub just_rows_set : JustRows u f n k l → JustRows u f n k (sets l (row * k) (f x))
      just_rows_set e = just_rows n (sets l (row * k) (f x)) (length-sets l (row * k) (f x) ∙ long) each
        where
          place : (i : ℕ) → i < n → take k (drop (i * k) (sets l (row * k) (f x))) ≡ get_or (set (pieces n k l) row (f x)) i []
          place i h = sym (piece_at k n (sets l (row * k) (f x)) i [] h) ∙ ap (λ m. get_or m i []) (piece_set k n l row (f x) r (omega arith) (wide x))

          each : (i : ℕ) → i < n → ExactAt (sets l (row * k) (f x)) i
          each i h =
              elim (ℕ_discrete i row) [
                | yes q ↦
                    (let t : take k (drop (i * k) (sets l (row * k) (f x))) ≡ f x
                    = place i h ∙ ap (λ m. get_or (set (pieces n k l) row (f x)) m []) q
                    ∙ get_or-set_same (pieces n k l) row (f x) [] (omega (arith, pieces_length n k l)) in
                    ap (λ m. f (u m)) t ∙ ap f fits ∙ sym t)
                | no q ↦
                    (let t : take k (drop (i * k) (sets l (row * k) (f x))) ≡ take k (drop (i * k) l)
                    = place i h ∙ get_or-set_other (pieces n k l) row i (f x) [] q ∙ piece_at k n l i [] h in
                    ap (λ m. f (u m)) t ∙ exact_row n l e i h ∙ sym t)
              ]
