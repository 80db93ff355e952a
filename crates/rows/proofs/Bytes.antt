-- Bytes to words and back, as the code does it: a name's block from its bytes, and 64 bytes from 16 words. Assumes nothing.
use mathlib.Core.Path.{◌≡◌, refl, sym, ap, ◌∙◌}
use mathlib.Core.List.{List, [], ◌∷◌, ◌++◌, append_assoc}
use Prim.Native.Nat.{ℕ, zero, suc, ◌+◌, ◌*◌, ◌-◌, ◌/◌, ◌≤◌, ◌<◌}
use native.Mathlib.Omega.{arith}
use native.Mathlib.Nat.{div-one}
use borrow.Rule.Slice.PartMut.{put_mid}
use lib.ListN.{length, get_or, take, drop, replicate, length-drop, length-replicate, drop_of_length-le}
use lib.Seq.{sets, sets-eq, get_or-take, drop-drop, length-take-le}
use Rattle.std.specs.Int.{w32, to_be_bytes}
use Rattle.model.specs.Lists.{filled}
use Rattle.model.specs.Paths.{longest_name, longest_target}
use Rattle.model.specs.Tables.{node_rows}
use Rattle.model.specs.Words.{node_words, first_node_word, bits, words, bytes, pack_name}
use Rattle.laws.proofs.Loops.{rest_at}
use Rattle.laws.proofs.Pieces.{bytes_length, bytes_of_words, filled_bytes, filled_length, sets_whole}
use Rattle.rows.specs.declared.Target.{Target}
use Rattle.rows.specs.Blocks.{target_words, block_of, word_from}
use Rattle.rows.specs.Stands.{Stands, node_row}
use Rattle.rows.proofs.Parts.{read_node}
use Rattle.rows.proofs.Fields.{node_row_fits, node_packed}

-- A NAME'S BLOCK

-- zeros behind the end are what the filling is
zeros_behind : (s : List ℕ) (m i : ℕ) → get_or (s ++ replicate m 0) i 0 ≡ get_or s i 0
zeros_behind [] zero i = refl
zeros_behind [] (suc m) zero = refl
zeros_behind [] (suc m) (suc i) = zeros_behind [] m i
zeros_behind (x ∷ s) m zero = refl
zeros_behind (x ∷ s) m (suc i) = zeros_behind s m i

filled_at : (n : ℕ) (s : List ℕ) (i : ℕ) → i < n → get_or (filled n s) i 0 ≡ get_or s i 0
unfolding filled
filled_at n s i h = get_or-take n (s ++ replicate n 0) i 0 h ∙ zeros_behind s n i

word_filled : (n : ℕ) (s : List ℕ) (k : ℕ) → k + 3 < n → word_from (filled n s) k ≡ word_from s k
unfolding word_from
word_filled n s k h =
    rw (filled_at n s k (omega arith), filled_at n s (k + 1) (omega arith), filled_at n s (k + 2) (omega arith), filled_at n s (k + 3) (omega arith))

word_behind : (x : ℕ) (s : List ℕ) (k : ℕ) → word_from (x ∷ s) (suc k) ≡ word_from s k
unfolding word_from
word_behind x s k =
    let a : suc k + 1 ≡ suc (k + 1) = omega arith in
    let b : suc k + 2 ≡ suc (k + 2) = omega arith in
    let c : suc k + 3 ≡ suc (k + 3) = omega arith in
    rw (a, b, c)

word_at : (j : ℕ) (s : List ℕ) → j * 4 + 4 ≤ length s → get_or (words s) j 0 ≡ word_from s (j * 4)
unfolding words word_from
word_at j [] h = let z : ⊥ = omega arith in absurd z
word_at j (a ∷ []) h = let z : ⊥ = omega arith in absurd z
word_at j (a ∷ b ∷ []) h = let z : ⊥ = omega arith in absurd z
word_at j (a ∷ b ∷ c ∷ []) h = let z : ⊥ = omega arith in absurd z
word_at zero (a ∷ b ∷ c ∷ d ∷ s) h = first a b c d s
  where
    first : (a b c d : ℕ) (s : List ℕ) → ((a * 256 + b) * 256 + c) * 256 + d ≡ word_from (a ∷ b ∷ c ∷ d ∷ s) 0
    first a b c d s = refl
word_at (suc j) (a ∷ b ∷ c ∷ d ∷ s) h =
    let n : suc j * 4 ≡ suc (suc (suc (suc (j * 4)))) = omega arith in
    word_at j s (omega arith)
    ∙ sym (ap (word_from (a ∷ b ∷ c ∷ d ∷ s)) n ∙ word_behind a (b ∷ c ∷ d ∷ s) (suc (suc (suc (j * 4))))
    ∙ word_behind b (c ∷ d ∷ s) (suc (suc (j * 4))) ∙ word_behind c (d ∷ s) (suc (j * 4)) ∙ word_behind d s (j * 4))

-- byte k of a part of a list, as a slice's range is written
abbrev pub Cut : List ℕ → ℕ → ℕ → ℕ → ℕ → Type 0
Cut s from count k x = x ≡ get_or (take (from + count - from) (drop from s)) k 0

-- four such bytes joined
module _ (s : List ℕ) (from count : ℕ) where
  cut : take (from + count - from) (drop from s) ≡ take count (drop from s)
  cut = let n : from + count - from ≡ count = omega arith in rw n

  pub four_joined : (k : ℕ) {r a b c d : ℕ} → r ≡ a * 16777216 + b * 65536 + c * 256 + d
      → Cut s from count k a → Cut s from count (k + 1) b → Cut s from count (k + 2) c → Cut s from count (k + 3) d
      → r ≡ word_from (take count (drop from s)) k
  unfolding word_from
  four_joined k e f g h i = rw (e, f, g, h, i, cut) (omega arith)

  pub first_word : {r a b c : ℕ} → from + count ≤ length s → r ≡ count * 16777216 + a * 65536 + b * 256 + c
      → Cut s from count 0 a → Cut s from count 1 b → Cut s from count 2 c
      → let n = take count (drop from s) in r ≡ ((length n * 256 + get_or n 0 0) * 256 + get_or n 1 0) * 256 + get_or n 2 0
  first_word l e f g h =
      let m : length (take count (drop from s)) ≡ count = length-take-le count (drop from s) (omega (arith, length-drop from s)) in
      rw (e, f, g, h, cut, m) (omega arith)

pub block_made : (n : List ℕ) {f s t u : ℕ}
    → f ≡ ((length n * 256 + get_or n 0 0) * 256 + get_or n 1 0) * 256 + get_or n 2 0
    → s ≡ word_from n 3 → t ≡ word_from n 7 → u ≡ word_from n 11
    → record { first = f; second = s; third = t; fourth = u } ≡ block_of n
unfolding block_of pack_name word_from
block_made n {f} {s} {t} {u} a b c d =
    let l = filled_length (longest_name + 1) n in
    let whole = length n ∷ filled (longest_name + 1) n in
    let e : f ≡ get_or (words whole) 0 0 = a ∙ sym (word_at 0 whole (omega arith) ∙ first) in
    let g : s ≡ get_or (words whole) 1 0 = b ∙ sym (word_at 1 whole (omega arith) ∙ later 3 (omega arith)) in
    let h : t ≡ get_or (words whole) 2 0 = c ∙ sym (word_at 2 whole (omega arith) ∙ later 7 (omega arith)) in
    let k : u ≡ get_or (words whole) 3 0 = d ∙ sym (word_at 3 whole (omega arith) ∙ later 11 (omega arith)) in
    λ i. record { first = e i; second = g i; third = h i; fourth = k i }
  where
    first : word_from (length n ∷ filled (longest_name + 1) n) 0 ≡ ((length n * 256 + get_or n 0 0) * 256 + get_or n 1 0) * 256 + get_or n 2 0
    first = rw (filled_at (longest_name + 1) n 0 (omega arith), filled_at (longest_name + 1) n 1 (omega arith), filled_at (longest_name + 1) n 2 (omega arith))

    later : (k : ℕ) → k + 3 < longest_name + 1 → word_from (length n ∷ filled (longest_name + 1) n) (suc k) ≡ word_from n k
    later k h = word_behind (length n) (filled (longest_name + 1) n) k ∙ word_filled (longest_name + 1) n k h

-- a target's words
pub target_word : (t : List ℕ) (k : ℕ) → k < target_words → word_from t (k * 4) ≡ get_or (words (filled longest_target t)) k 0
target_word t k h =
    sym (word_at k (filled longest_target t) (omega (arith, filled_length longest_target t)) ∙ word_filled longest_target t (k * 4) (omega arith))

-- 64 BYTES FROM 16 WORDS: what is left to store gives the whole

pub bytes_start : (ws : List ℕ) → length ws ≡ target_words → sets (replicate longest_target 0) (0 * 4) (bytes (drop 0 ws)) ≡ bytes ws
bytes_start ws h = sets_whole (replicate longest_target 0) (bytes ws) (omega (arith, bytes_length ws, length-replicate {A = ℕ} longest_target 0))

-- a part of a list put back in is as many stores
pub put_is_sets : (a k : ℕ) (xs ys : List ℕ) → length ys ≡ k → a + k ≤ length xs → put_mid a k xs ys ≡ sets xs a ys
put_is_sets a k xs ys e h =
    sym (sets-eq ys xs a (omega arith) ∙ append_assoc (take a xs) ys (drop (a + length ys) xs)
    ∙ ap (λ m. take a xs ++ (ys ++ m)) (ap (λ n. drop (a + n) xs) e ∙ sym (drop-drop k a xs)))

-- the bytes of one word
four_bytes : (x : ℕ) → to_be_bytes w32 x ≡ bytes (x ∷ [])
unfolding bytes bits
four_bytes x = let e : x / 1 ≡ x = div-one x in rw e

pub bytes_step : (ws out v : List ℕ) (k : ℕ) {x : ℕ} {bs : List ℕ} → k < length ws → x ≡ get_or ws k 0 → k * 4 + 4 ≤ length out → bs ≡ to_be_bytes w32 x
    → sets out (k * 4) (bytes (drop k ws)) ≡ v → sets (put_mid (k * 4) (k * 4 + 4 - k * 4) out bs) ((k + 1) * 4) (bytes (drop (k + 1) ws)) ≡ v
unfolding bytes bits
bytes_step ws out v k {x} h e l b inv =
    let n : k * 4 + 4 - k * 4 ≡ 4 = omega arith in
    let m : (k + 1) * 4 ≡ suc (suc (suc (suc (k * 4)))) = omega arith in
    rw (b ∙ four_bytes x, e, n, m, put_is_sets (k * 4) 4 out (bytes (get_or ws k 0 ∷ [])) refl l)
    (sym (ap (λ l. sets out (k * 4) (bytes l)) (rest_at 0 ws k h)) ∙ inv)

pub bytes_end : (ws out v : List ℕ) (k : ℕ) → length ws ≤ k → sets out (k * 4) (bytes (drop k ws)) ≡ v → out ≡ v
unfolding bytes
bytes_end ws out v k h inv = rw (drop_of_length-le ws h) at inv

-- A TARGET: the 64 bytes behind a node's first word

pub target_bytes_are : {w : List ℕ} (s : Stands w) (row : ℕ) → row < node_rows
    → bytes (take target_words (drop (first_node_word + row * node_words + 1) w)) ≡ filled longest_target (node_row w row).target
target_bytes_are {w} s row r =
    let f = node_row_fits w row in
    let at = first_node_word + row * node_words in
    let target = (node_row w row).target in
    let d : take target_words (drop (at + 1) w) ≡ words (filled longest_target target)
    = ap (take target_words) (sym (drop-drop 1 at w)) ∙ sym (behind (drop at w)) ∙ ap (drop 1) (read_node s row r ∙ node_packed f) in
    ap bytes d ∙ bytes_of_words target_words (filled longest_target target) (filled_length longest_target target) (filled_bytes longest_target f.target.bytes)
  where
    behind : (l : List ℕ) → drop 1 (take node_words l) ≡ take target_words (drop 1 l)
    behind [] = refl
    behind (y ∷ l) = refl

pub target_made : (t : List ℕ) {n : ℕ} {bs : List ℕ} → n ≡ length t → bs ≡ filled longest_target t
    → ◌≡◌ {A = Target} (record { length = n; bytes = bs }) (record { length = length t; bytes = filled longest_target t })
target_made t p q = λ i. record { length = p i; bytes = q i }
