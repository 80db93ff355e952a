-- Bytes that fit a name: half by half, and what they say of a block. Assumes nothing.
use mathlib.Core.Path.{◌≡◌, refl, sym, ap, ap₂, ◌∙◌}
use mathlib.Core.Bool.{Bool, true, false, not, ◌&&◌}
use mathlib.Core.List.{List, [], ◌∷◌, ◌++◌}
use Prim.Native.Nat.{ℕ, zero, suc, ◌+◌, ◌-◌, ◌/◌, ◌≤◌, ◌<◌}
use native.Mathlib.Omega.{arith}
use native.Mathlib.Numerals.{add-one}
use borrow.Author.Tests.{eqb-true, ne_eqb, le-leb}
use lib.Dec.{eqb, leb}
use lib.ListN.{length, get_or, take, drop, replicate, length-take}
use Rattle.model.specs.Lists.{same, all, filled}
use Rattle.model.specs.Paths.{Name, longest_name, name_byte, valid_name, dot}
use Rattle.model.specs.Words.{bits, words, bytes, pack_name, unpack_name}
use Rattle.laws.proofs.Bools.{clash, and_left, and_right, both, and_false, is_false, and_true, and_joins, stopped, passed}
use lib.Seq.{take-take, length-take-le}
use Rattle.laws.proofs.Each.{Each, none, one, each_take, each_drop}
use Rattle.laws.proofs.Pieces.{Byte, Word, same_equal, equal_same, bytes_of_words, words_of_bytes, filled_length, filled_bytes, bytes_are_bytes}
use Rattle.rows.specs.declared.Block.{Block}
use Rattle.rows.specs.Blocks.{block_words, name_of}
use Rattle.rows.proofs.Blocks.{same_when}
use Rattle.names.specs.Fits.{byte_fits, fits, good_name}

-- BYTES AND THOSE BEHIND THEM

fits_behind : (n : ℕ) (s t : List ℕ) → fits n (s ++ t) ≡ (fits n s && fits (n - length s) t)
unfolding fits
fits_behind zero [] t = refl
fits_behind (suc n) [] t = let e : suc n ≡ suc n - 0 = omega arith in ap (λ m. fits m t) e
fits_behind zero (b ∷ s) t =
    let e : 0 - length s ≡ 0 - suc (length s) = omega arith in
    ap (λ x. byte_fits false b && x) (fits_behind zero s t) ∙ ap (λ m. byte_fits false b && (fits 0 s && fits m t)) e
    ∙ and_joins (byte_fits false b) (fits 0 s) (fits (0 - suc (length s)) t)
fits_behind (suc n) (b ∷ s) t =
    let e : n - length s ≡ suc n - suc (length s) = omega arith in
    ap (λ x. byte_fits true b && x) (fits_behind n s t) ∙ ap (λ m. byte_fits true b && (fits n s && fits m t)) e
    ∙ and_joins (byte_fits true b) (fits n s) (fits (suc n - suc (length s)) t)

-- A NAME AND ZEROS

fits_zeros : (m k : ℕ) → fits 0 (take m (replicate k 0)) ≡ true
unfolding fits byte_fits
fits_zeros zero k = refl
fits_zeros (suc m) zero = refl
fits_zeros (suc m) (suc k) = fits_zeros m k

-- a name with zeros behind it fits
fits_name : (n : List ℕ) (m k : ℕ) → length n ≤ m → all name_byte n ≡ true → fits (length n) (take m (n ++ replicate k 0)) ≡ true
unfolding fits byte_fits all
fits_name [] m k h e = fits_zeros m k
fits_name (x ∷ n) zero k h e = absurd (omega arith)
fits_name (x ∷ n) (suc m) k h e = both (and_left (name_byte x) _ e) (fits_name n m k (omega arith) (and_right (name_byte x) _ e))

-- bytes that fit are a name with zeros behind it
zeros_behind : (n : ℕ) (s : List ℕ) (k : ℕ) → n ≤ length s → length s ≤ n + k → fits n s ≡ true → take (length s) (take n s ++ replicate k 0) ≡ s
unfolding fits byte_fits
zeros_behind zero [] k h l e = refl
zeros_behind zero (x ∷ s) zero h l e = absurd (omega arith)
zeros_behind zero (x ∷ s) (suc k) h l e =
    ap₂ ◌∷◌ (sym (eqb-true x 0 (and_left (eqb x 0) _ e))) (zeros_behind zero s k (omega arith) (omega arith) (and_right (eqb x 0) _ e))
zeros_behind (suc n) [] k h l e = absurd (omega arith)
zeros_behind (suc n) (x ∷ s) k h l e = ap (λ t. x ∷ t) (zeros_behind n s k (omega arith) (omega arith) (and_right (name_byte x) _ e))

name_bytes : (n : ℕ) (s : List ℕ) → n ≤ length s → fits n s ≡ true → all name_byte (take n s) ≡ true
unfolding fits byte_fits all
name_bytes zero s h e = refl
name_bytes (suc n) [] h e = refl
name_bytes (suc n) (x ∷ s) h e = both (and_left (name_byte x) _ e) (name_bytes n s (omega arith) (and_right (name_byte x) _ e))

valid_bytes : (n : Name) → valid_name n ≡ true → all name_byte n ≡ true
unfolding valid_name
valid_bytes n e =
    and_right (leb 1 (length n) && leb (length n) longest_name) (all name_byte n)
    (and_left (leb 1 (length n) && leb (length n) longest_name && all name_byte n) (not (same n (dot ∷ [])))
    (and_left (leb 1 (length n) && leb (length n) longest_name && all name_byte n && not (same n (dot ∷ []))) (not (same n (dot ∷ dot ∷ []))) e))

-- HALF BY HALF

-- only two zero words have zero bytes alone
zero_words : (c d : ℕ) → Word c → Word d → fits 0 (bytes (c ∷ d ∷ [])) ≡ true → c ∷ d ∷ [] ≡ 0 ∷ 0 ∷ []
unfolding bytes words
zero_words c d p q e = sym (words_of_bytes (one p (one q none))) ∙ ap words (sym (zeros_behind 0 (bytes (c ∷ d ∷ [])) 8 (omega arith) (omega arith) e))

module _ (n : ℕ) (b : Block) where
  -- its halves
  abbrev front : List ℕ
  front = bytes (b.first ∷ b.second ∷ [])

  abbrev back : List ℕ
  back = bytes (b.third ∷ b.fourth ∷ [])

  halves : (fits n front && fits (n - 8) back) ≡ fits n (bytes (block_words b))
  unfolding bytes
  halves = sym (fits_behind n front back)

  -- a name that ends in the first half
  module _ (short : n < 8) where
    none_left : n - 8 ≡ 0
    none_left = omega arith

    pub more_behind : Word b.third → Word b.fourth → (eqb b.third 0 && eqb b.fourth 0) ≡ false → false ≡ fits n (bytes (block_words b))
    more_behind p q more =
        sym (and_false (fits n front) (fits (n - 8) back)
        (λ _. ap (λ m. fits m back) none_left ∙ is_false (fits 0 back) (λ e. clash (ap (λ l. eqb (get_or l 0 0) 0 && eqb (get_or l 1 0) 0) (zero_words b.third b.fourth p q e)) more)))
        ∙ halves

    pub none_behind : {r : Bool} → (eqb b.third 0 && eqb b.fourth 0) ≡ true → r ≡ fits n front → r ≡ fits n (bytes (block_words b))
    unfolding bytes bits fits byte_fits
    none_behind both_none e =
        let y = eqb-true b.third 0 (and_left (eqb b.third 0) (eqb b.fourth 0) both_none) in
        let z = eqb-true b.fourth 0 (and_right (eqb b.third 0) (eqb b.fourth 0) both_none) in
        let zeros : true ≡ fits (n - 8) back = sym (ap₂ (λ x v. fits 0 (bytes (x ∷ v ∷ []))) y z) ∙ ap (λ m. fits m back) (sym none_left) in
        e ∙ sym (and_true (fits n front)) ∙ ap (λ x. fits n front && x) zeros ∙ halves

  pub first_half_fails : fits n front ≡ false → false ≡ fits n (bytes (block_words b))
  first_half_fails e = stopped (fits (n - 8) back) e ∙ halves

  pub first_half_passes : {r : Bool} → fits n front ≡ true → r ≡ fits (n - 8) back → r ≡ fits n (bytes (block_words b))
  first_half_passes e f = passed e f ∙ halves

-- A BLOCK

-- the bytes behind the length
abbrev name_room : ℕ
name_room = longest_name + 1

-- a dot alone, and two, as the first word
abbrev dot_word : ℕ
dot_word = 19791872

abbrev dots_word : ℕ
dots_word = 36580864

abbrev length_in : Block → ℕ
length_in b = b.first / 16777216

-- all bytes of a block but the first, which is the length
abbrev behind_length : Block → List ℕ
behind_length b = drop 1 (bytes (block_words b))

module _ (b : Block) where
  dots_bad : {n : Name} → name_of b ≡ n → valid_name n ≡ false → false ≡ good_name b
  unfolding good_name
  dots_bad e v = sym (and_false (same (pack_name (name_of b)) (block_words b)) (valid_name (name_of b)) (λ _. ap valid_name e ∙ v))

  pub no_length : length_in b ≡ 0 → false ≡ good_name b
  unfolding name_of unpack_name bytes bits valid_name
  no_length e =
      let z : bits 24 8 b.first ≡ 0 = omega arith in
      dots_bad (ap (λ m. take m (take longest_name (behind_length b))) z) refl

  pub one_dot : b.first ≡ dot_word → false ≡ good_name b
  unfolding name_of unpack_name bytes bits valid_name same all name_byte
  one_dot e = dots_bad (ap (λ x. name_of (record { first = x; second = b.second; third = b.third; fourth = b.fourth })) e) refl

  pub two_dots : b.first ≡ dots_word → false ≡ good_name b
  unfolding name_of unpack_name bytes bits valid_name same all name_byte
  two_dots e = dots_bad (ap (λ x. name_of (record { first = x; second = b.second; third = b.third; fourth = b.fourth })) e) refl

  module _ (small : b.first < 4294967296) where
    length_byte : bits 24 8 b.first ≡ length_in b
    unfolding bits
    length_byte = omega arith

    name_short : length (name_of b) ≤ longest_name
    unfolding name_of unpack_name
    name_short = simp length-take (omega arith)

    name_of_bytes : Each Byte (name_of b)
    unfolding name_of unpack_name
    name_of_bytes = each_take (get_or (bytes (block_words b)) 0 0) (each_take longest_name (each_drop 1 (bytes_are_bytes (block_words b))))

    -- a block that is the one of its name has the name's length and its bytes
    named_bytes : same (pack_name (name_of b)) (block_words b) ≡ true → length (name_of b) ∷ filled name_room (name_of b) ≡ length_in b ∷ behind_length b
    unfolding pack_name bytes
    named_bytes e =
        sym (bytes_of_words 4 (length (name_of b) ∷ filled name_room (name_of b)) (omega (arith, filled_length name_room (name_of b)))
        (one (omega (arith, name_short)) (filled_bytes name_room name_of_bytes)))
        ∙ ap bytes (same_equal (pack_name (name_of b)) (block_words b) e) ∙ ap (λ x. x ∷ behind_length b) length_byte

    named_length : same (pack_name (name_of b)) (block_words b) ≡ true → length (name_of b) ≡ length_in b
    named_length e = ap (λ l. get_or l 0 0) (named_bytes e)

    pub too_long : longest_name < length_in b → false ≡ good_name b
    unfolding good_name
    too_long h =
        sym (is_false (good_name b) (λ t.
        let e = named_length (and_left (same (pack_name (name_of b)) (block_words b)) _ t) in
        let z : ⊥ = omega (arith, name_short) in z))

    -- a length that can be one passes as a byte of a name
    length_passes : 1 ≤ length_in b → length_in b ≤ longest_name → fits (length_in b + 1) (bytes (block_words b)) ≡ fits (length_in b) (behind_length b)
    unfolding fits bytes byte_fits name_byte
    length_passes g h =
        let n : length_in b ≡ 0 → ⊥ = λ e. let z : ⊥ = omega arith in z in
        let o : length_in b ≡ 47 → ⊥ = λ e. let z : ⊥ = omega arith in z in
        rw (add-one (length_in b), length_byte, ne_eqb (length_in b) 0 n, ne_eqb (length_in b) 47 o)

    module _ (low : 1 ≤ length_in b) (high : length_in b ≤ longest_name) where
      rest_long : length (behind_length b) ≡ name_room
      unfolding bytes
      rest_long = refl

      name_is : name_of b ≡ take (length_in b) (behind_length b)
      unfolding name_of unpack_name bytes
      name_is = ap (λ m. take m (take longest_name (behind_length b))) length_byte ∙ take-take (length_in b) longest_name (behind_length b) high

      name_length : length (name_of b) ≡ length_in b
      name_length = ap length name_is ∙ length-take-le (length_in b) (behind_length b) (omega (arith, rest_long))

      -- bytes that fit make a block that is the one of its name
      fits_named : Each Word (block_words b) → fits (length_in b) (behind_length b) ≡ true → pack_name (name_of b) ≡ block_words b
      unfolding pack_name filled bytes
      fits_named SmallAll e =
          let f : filled name_room (name_of b) ≡ behind_length b
          = ap (filled name_room) name_is ∙ zeros_behind (length_in b) (behind_length b) name_room (omega (arith, rest_long)) (omega (arith, rest_long)) e in
          ap words (ap₂ ◌∷◌ (name_length ∙ sym length_byte) f) ∙ words_of_bytes SmallAll

      -- a name of dots alone shows in the first word
      not_this : (n : Name) {k : ℕ} → get_or (pack_name n) 0 0 ≡ k → (b.first ≡ k → ⊥) → pack_name (name_of b) ≡ block_words b → not (same (name_of b) n) ≡ true
      not_this n q differ named =
          ap not (is_false (same (name_of b) n) (λ t. differ (ap (λ l. get_or l 0 0) (sym named) ∙ ap (λ m. get_or (pack_name m) 0 0) (same_equal (name_of b) n t) ∙ q)))

      pub good_is : Each Word (block_words b) → (b.first ≡ dot_word → ⊥) → (b.first ≡ dots_word → ⊥) → fits (length_in b + 1) (bytes (block_words b)) ≡ good_name b
      unfolding good_name valid_name pack_name words filled
      good_is SmallAll one_Apart two_apart =
          length_passes low high
          ∙ same_when (fits (length_in b) (behind_length b)) (good_name b)
          (λ e. let named = fits_named SmallAll e in
          both (equal_same named)
          (both (both (both (both (le-leb 1 (length (name_of b)) (omega (arith, name_length))) (le-leb (length (name_of b)) longest_name name_short))
          (ap (all name_byte) name_is ∙ name_bytes (length_in b) (behind_length b) (omega (arith, rest_long)) e))
          (not_this (dot ∷ []) refl one_Apart named)) (not_this (dot ∷ dot ∷ []) refl two_apart named)))
          (λ t. let named = and_left (same (pack_name (name_of b)) (block_words b)) _ t in
          let valid = and_right (same (pack_name (name_of b)) (block_words b)) (valid_name (name_of b)) t in
          let bs = named_bytes named in
          ap₂ fits (ap (λ l. get_or l 0 0) (sym bs)) (ap (drop 1) (sym bs)) ∙ fits_name (name_of b) name_room name_room (omega (arith, name_short)) (valid_bytes (name_of b) valid))
