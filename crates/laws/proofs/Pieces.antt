-- Lists of numbers cut, joined, filled and packed into words, and back. Assumes nothing.
use mathlib.Core.Path.{◌≡◌, refl, sym, ap, ap₂, ◌∙◌}
use mathlib.Core.Bool.{Bool, true, false, ◌&&◌}
use mathlib.Core.List.{List, [], ◌∷◌, ◌++◌, map, append_assoc, append-nil}
use Prim.Native.Nat.{ℕ, zero, suc, ◌+◌, ◌*◌, ◌^◌, ◌/◌, ◌%◌, ◌≤◌, ◌<◌}
use native.Mathlib.Omega.{arith}
use native.Mathlib.Nat.{mod-lt, mod-eq_of_lt, div-one}
use borrow.Author.Tests.{eq-eqb, eqb-true}
use lib.Dec.{eqb}
use lib.Pow.{pow_pos, high, low, mod-pow-add, shr-shr}
use lib.ListN.{length, take, drop, set, drop_of_length-le, replicate, length-append, length-take, length-replicate}
use lib.Seq.{sets, sets-eq, take_at, drop_at, take-append_seam, take-take}
use Rattle.model.specs.Lists.{same, pieces, joined, filled}
use Rattle.model.specs.Words.{bits, words, bytes}
pub use Rattle.laws.specs.Each.{Byte}
use Rattle.laws.proofs.Each.{Each, none, one, each_append, each_take, each_replicate}

-- THE SAME LIST

pub same_self : (xs : List ℕ) → same xs xs ≡ true
unfolding same
same_self [] = refl
same_self (x ∷ xs) = rw (eq-eqb x x refl, same) (same_self xs)

pub same_equal : (xs ys : List ℕ) → same xs ys ≡ true → xs ≡ ys
unfolding same
same_equal [] [] e = refl
same_equal [] (y ∷ ys) e = cc
same_equal (x ∷ xs) [] e = cc
same_equal (x ∷ xs) (y ∷ ys) e = go (eqb x y) refl e (same_equal xs ys)
  where
    go : (b : Bool) → eqb x y ≡ b → elim b as (λ _. Bool) [ true ↦ same xs ys | false ↦ false ] ≡ true → (same xs ys ≡ true → xs ≡ ys)
        → ◌≡◌ {A = List ℕ} (x ∷ xs) (y ∷ ys)
    go true q t r = ap₂ ◌∷◌ (eqb-true x y q) (r t)
    go false q t r = cc

pub same_step : (x y : ℕ) (xs ys : List ℕ) → same (x ∷ xs) (y ∷ ys) ≡ (eqb x y && same xs ys)
unfolding same
same_step x y xs ys = go (eqb x y)
  where
    go : (b : Bool) → elim b as (λ _. Bool) [ true ↦ same xs ys | false ↦ false ] ≡ (b && same xs ys)
    go true = refl
    go false = refl

pub equal_same : {xs ys : List ℕ} → xs ≡ ys → same xs ys ≡ true
equal_same {xs} e = rw (← e) (same_self xs)

-- FIELDS OF A NUMBER

pub bits_within : (n k w : ℕ) → bits n k w < 2 ^ k
unfolding bits
bits_within n k w = mod-lt (w / 2 ^ n) (pow_pos k)

-- a number within the width is its own field
pub bits_whole : {w : ℕ} (k : ℕ) → w < 2 ^ k → bits 0 k w ≡ w
unfolding bits
bits_whole {w} k h = ap (λ x. x % 2 ^ k) (div-one w) ∙ mod-eq_of_lt h

-- a field between what stands above and below it
pub bits_field : (n k above x below : ℕ) → x < 2 ^ k → below < 2 ^ n → bits n k ((above * 2 ^ k + x) * 2 ^ n + below) ≡ x
unfolding bits
bits_field n k above x below h l = ap (λ y. y % 2 ^ k) (high (above * 2 ^ k + x) n l) ∙ low above k h

-- the same, where the sum is written otherwise
pub bits_of : {w : ℕ} (n k above x below : ℕ) → w ≡ (above * 2 ^ k + x) * 2 ^ n + below → x < 2 ^ k → below < 2 ^ n → bits n k w ≡ x
bits_of n k above x below e h l = ap (bits n k) e ∙ bits_field n k above x below h l

-- two fields side by side are one
pub bits_join : (n j k w : ℕ) → bits (n + k) j w * 2 ^ k + bits n k w ≡ bits n (j + k) w
unfolding bits
bits_join n j k w = sym (mod-pow-add (w / 2 ^ n) j k ∙ ap (λ x. x % 2 ^ j * 2 ^ k + w / 2 ^ n % 2 ^ k) (shr-shr w n k))

-- WORDS AND BYTES

abbrev pub Word : ℕ → Type 0
Word w = w < 2 ^ 32

pub words_length : (k : ℕ) (s : List ℕ) → length s ≡ k * 4 → length (words s) ≡ k
unfolding words
words_length zero [] h = refl
words_length zero (a ∷ s) h = let z : ⊥ = omega arith in absurd z
words_length (suc k) [] h = let z : ⊥ = omega arith in absurd z
words_length (suc k) (a ∷ []) h = let z : ⊥ = omega arith in absurd z
words_length (suc k) (a ∷ b ∷ []) h = let z : ⊥ = omega arith in absurd z
words_length (suc k) (a ∷ b ∷ c ∷ []) h = let z : ⊥ = omega arith in absurd z
words_length (suc k) (a ∷ b ∷ c ∷ d ∷ s) h = ap suc (words_length k s (omega arith))

pub bytes_length : (ws : List ℕ) → length (bytes ws) ≡ length ws * 4
unfolding bytes
bytes_length [] = refl
bytes_length (w ∷ ws) = omega (arith, bytes_length ws)

pub bytes_are_bytes : (ws : List ℕ) → Each Byte (bytes ws)
unfolding bytes
bytes_are_bytes [] = none
bytes_are_bytes (w ∷ ws) =
    one (bits_within 24 8 w) (one (bits_within 16 8 w) (one (bits_within 8 8 w) (one (bits_within 0 8 w) (bytes_are_bytes ws))))

pub bytes_of_words : (k : ℕ) (s : List ℕ) → length s ≡ k * 4 → Each Byte s → bytes (words s) ≡ s
unfolding words bytes
bytes_of_words zero [] h e = refl
bytes_of_words zero (a ∷ s) h e = let z : ⊥ = omega arith in absurd z
bytes_of_words (suc k) [] h e = let z : ⊥ = omega arith in absurd z
bytes_of_words (suc k) (a ∷ []) h e = let z : ⊥ = omega arith in absurd z
bytes_of_words (suc k) (a ∷ b ∷ []) h e = let z : ⊥ = omega arith in absurd z
bytes_of_words (suc k) (a ∷ b ∷ c ∷ []) h e = let z : ⊥ = omega arith in absurd z
bytes_of_words (suc k) (a ∷ b ∷ c ∷ d ∷ s) h (one p (one q (one r (one t es)))) =
    let w = ((a * 256 + b) * 256 + c) * 256 + d in
    let i : bits 24 8 w ≡ a = bits_of 24 8 0 a ((b * 256 + c) * 256 + d) (omega arith) p (omega arith) in
    let j : bits 16 8 w ≡ b = bits_of 16 8 a b (c * 256 + d) (omega arith) q (omega arith) in
    let m : bits 8 8 w ≡ c = bits_of 8 8 (a * 256 + b) c d (omega arith) r t in
    let n : bits 0 8 w ≡ d = bits_of 0 8 ((a * 256 + b) * 256 + c) d 0 (omega arith) t (omega arith) in
    let rest : bytes (words s) ≡ s = bytes_of_words k s (omega arith) es in
    λ x. i x ∷ j x ∷ m x ∷ n x ∷ rest x

pub words_of_bytes : {ws : List ℕ} → Each Word ws → words (bytes ws) ≡ ws
unfolding words bytes
words_of_bytes none = refl
words_of_bytes (one {x = w} h es) =
    let i : bits 24 8 w * 256 + bits 16 8 w ≡ bits 16 16 w = bits_join 16 8 8 w in
    let j : bits 16 16 w * 256 + bits 8 8 w ≡ bits 8 24 w = bits_join 8 16 8 w in
    let m : bits 8 24 w * 256 + bits 0 8 w ≡ bits 0 32 w = bits_join 0 24 8 w in
    ap₂ ◌∷◌ (rw (i, j, m) (bits_whole 32 h)) (words_of_bytes es)

-- FILLED WITH ZEROS

pub filled_length : (n : ℕ) (s : List ℕ) → length (filled n s) ≡ n
unfolding filled
filled_length n s = let r = length-replicate {A = ℕ} n 0 in let a = length-append s (replicate n 0) in simp length-take (omega arith)

pub filled_bytes : {s : List ℕ} (n : ℕ) → Each Byte s → Each Byte (filled n s)
unfolding filled
filled_bytes n es = each_take n (each_append es (each_replicate n 0 (omega arith)))

-- what was filled up is still in front
pub filled_front : (n : ℕ) (s : List ℕ) → length s ≤ n → take (length s) (filled n s) ≡ s
unfolding filled
filled_front n s h = take-take (length s) n (s ++ replicate n 0) h ∙ take-append_seam s (replicate n 0)

-- ROWS JOINED AND CUT AGAIN

pub pieces_length : {A : Type 0} (n k : ℕ) (xs : List A) → length (pieces n k xs) ≡ n
unfolding pieces
pieces_length zero k xs = refl
pieces_length (suc n) k xs = ap suc (pieces_length n k (drop k xs))

-- no piece is longer than it should be
pub pieces_short : {A : Type 0} (n k : ℕ) (xs : List A) → Each (λ p. length p ≤ k) (pieces n k xs)
unfolding pieces
pieces_short zero k xs = none
pieces_short (suc n) k xs = let h : length (take k xs) ≤ k = simp length-take (omega arith) in one h (pieces_short n k (drop k xs))

pub map_set : {A B : Type 0} (g : A → B) (xs : List A) (i : ℕ) (x : A) → map g (set xs i x) ≡ set (map g xs) i (g x)
map_set g [] i x = refl
map_set g (y ∷ xs) zero x = refl
map_set g (y ∷ xs) (suc i) x = ap (λ l. g y ∷ l) (map_set g xs i x)

-- stores that reach from the first element to the last leave nothing else
pub sets_whole : (a vs : List ℕ) → length vs ≡ length a → sets a 0 vs ≡ vs
sets_whole a vs e =
    let h : 0 + length vs ≤ length a = omega arith in
    let d : drop (0 + length vs) a ≡ [] = drop_of_length-le a {i = 0 + length vs} (omega arith) in
    sets-eq vs a 0 h ∙ rw d (append-nil vs)

module _ {A : Type 0} (write : A → List ℕ) (k : ℕ) (wide : (x : A) → length (write x) ≡ k) where
  pub joined_length : (xs : List A) → length (joined write xs) ≡ length xs * k
  unfolding joined
  joined_length [] = omega arith
  joined_length (x ∷ xs) = let e = wide x in let r = joined_length xs in simp length-append (omega arith)

  pub pieces_joined : (xs : List A) (rest : List ℕ) → pieces (length xs) k (joined write xs ++ rest) ≡ map write xs
  unfolding joined pieces
  pieces_joined [] rest = refl
  pieces_joined (x ∷ xs) rest =
      let t : take k ((write x ++ joined write xs) ++ rest) ≡ write x
      = rw append_assoc (take_at (write x) (joined write xs ++ rest) k (wide x)) in
      let d : drop k ((write x ++ joined write xs) ++ rest) ≡ joined write xs ++ rest
      = rw append_assoc (drop_at (write x) (joined write xs ++ rest) k (wide x)) in
      rw (t, d) (ap (λ l. write x ∷ l) (pieces_joined xs rest))

  -- rows that are each read as they were written come back
  pub read_joined : (read : List ℕ → A) (n : ℕ) (xs : List A) (rest w : List ℕ) → length xs ≡ n → Each (λ x. read (write x) ≡ x) xs
      → w ≡ joined write xs ++ rest → map read (pieces n k w) ≡ xs
  read_joined read n xs rest w e es q = rw (q, ← e) (ap (map read) (pieces_joined xs rest) ∙ back es)
    where
      back : {ys : List A} → Each (λ x. read (write x) ≡ x) ys → map read (map write ys) ≡ ys
      back none = refl
      back (one p ps) = ap₂ ◌∷◌ p (back ps)
