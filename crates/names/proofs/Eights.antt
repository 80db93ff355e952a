-- Bytes in one number compared all at once: the operations on the number are those on each byte. Assumes nothing.
use mathlib.Core.Path.{◌≡◌, refl, sym, ap, ap₂, ◌∙◌}
use mathlib.Core.Bool.{Bool, true, false, not, ◌&&◌}
use mathlib.Core.List.{List, [], ◌∷◌, map}
use Prim.Native.Nat.{ℕ, zero, suc, ◌+◌, ◌*◌, ◌-◌, ◌/◌, ◌^◌, ◌≤◌, ◌<◌}
use native.Mathlib.Omega.{arith}
use borrow.Author.Tests.{eq-eqb, eqb-true}
use lib.Bits.{bit_and, bit_or, bit_xor, and_le_r, or_lt, xor_lt, and_block, or_block, xor_block}
use lib.Dec.{eqb}
use lib.ListN.{length, get_or, replicate}
use Rattle.model.specs.Lists.{same}
use Rattle.model.specs.Paths.{name_byte}
use Rattle.model.specs.Words.{bits, words, bytes}
use Rattle.laws.proofs.AllRows.{passes_below, passed_below}
use Rattle.laws.proofs.Bools.{and_middle}
use Rattle.laws.proofs.Each.{Each, none, one, each_replicate}
use Rattle.laws.proofs.Pieces.{Byte, Word, same_step, same_equal, equal_same, bytes_are_bytes, words_of_bytes}
use Rattle.rows.proofs.Blocks.{same_when}
use Rattle.names.specs.Fits.{byte_fits, fits, number, tops, low_bits, top_bits, slashes, differing}

-- BYTE BY BYTE

-- the last byte by itself, and those before it
differing_step : (l h o x v r : ℕ) → v < 128 → r < 256
    → differing (l * 256 + 127) (h * 256 + 128) (o * 256 + v) (x * 256 + r) ≡ differing l h o x * 256 + differing 127 128 v r
unfolding differing
differing_step l h o x v r small byte =
    let kept : bit_and r 127 < 128 = omega (arith, and_le_r r 127) in
    let turned : bit_xor (bit_and r 127) v < 128 = xor_lt 7 (bit_and r 127) v kept small in
    let a : bit_and (x * 256 + r) (l * 256 + 127) ≡ bit_and x l * 256 + bit_and r 127 = and_block 8 x l r 127 byte (omega arith) in
    let b : bit_xor (bit_and x l * 256 + bit_and r 127) (o * 256 + v) ≡ bit_xor (bit_and x l) o * 256 + bit_xor (bit_and r 127) v
    = xor_block 8 (bit_and x l) o (bit_and r 127) v (omega arith) (omega arith) in
    let c : bit_xor (bit_and x l * 256 + bit_and r 127) (o * 256 + v) + (l * 256 + 127) ≡ (bit_xor (bit_and x l) o + l) * 256 + (bit_xor (bit_and r 127) v + 127)
    = omega (arith, b) in
    ap (λ (y : ℕ). bit_and (bit_or (bit_xor y (o * 256 + v) + (l * 256 + 127)) (x * 256 + r)) (h * 256 + 128)) a
    ∙ ap (λ (y : ℕ). bit_and (bit_or y (x * 256 + r)) (h * 256 + 128)) c
    ∙ ap (λ (y : ℕ). bit_and y (h * 256 + 128)) (or_block 8 (bit_xor (bit_and x l) o + l) x (bit_xor (bit_and r 127) v + 127) r (omega arith) byte)
    ∙ and_block 8 (bit_or (bit_xor (bit_and x l) o + l) x) h (bit_or (bit_xor (bit_and r 127) v + 127) r) 128 (or_lt 8 (bit_xor (bit_and r 127) v + 127) r (omega arith) byte) (omega arith)

differing_bytes : (v : ℕ) → v < 128 → (l h o x : ℕ) {s : List ℕ} → Each Byte s
    → differing (number l (replicate (length s) 127)) (number h (replicate (length s) 128)) (number o (replicate (length s) v)) (number x s)
    ≡ number (differing l h o x) (map (differing 127 128 v) s)
unfolding number
differing_bytes v small l h o x none = refl
differing_bytes v small l h o x (one {x = r} {xs = s} byte es) =
    differing_bytes v small (l * 256 + 127) (h * 256 + 128) (o * 256 + v) (x * 256 + r) es
    ∙ ap (λ (y : ℕ). number y (map (differing 127 128 v) s)) (differing_step l h o x v r small byte)

-- TWO NUMBERS OF BYTES COMPARED

number_alike : (a b : ℕ) {s t : List ℕ} → Each Byte s → Each Byte t → length s ≡ length t → number a s ≡ number b t → (a ≡ b) × (s ≡ t)
unfolding number
number_alike a b none none l e = (e, refl)
number_alike a b none (one q ts) l e = absurd (omega arith)
number_alike a b (one p ss) none l e = absurd (omega arith)
number_alike a b (one {x = x} p ss) (one {x = y} q ts) l e =
    let rest = number_alike (a * 256 + x) (b * 256 + y) ss ts (omega arith) e in
    let f : a * 256 + x ≡ b * 256 + y = rest.0 in
    let g : x ≡ y = omega arith in
    (omega arith, ap₂ ◌∷◌ g rest.1)

number_same : {s t : List ℕ} → Each Byte s → Each Byte t → length s ≡ length t → eqb (number 0 s) (number 0 t) ≡ same s t
number_same {s} {t} p q l =
    same_when (eqb (number 0 s) (number 0 t)) (same s t)
    (λ e. equal_same (number_alike 0 0 p q l (eqb-true (number 0 s) (number 0 t) e)).1)
    (λ e. eq-eqb (number 0 s) (number 0 t) (ap (number 0) (same_equal s t e)))

-- ONE BYTE COMPARED

-- 128 unless the test passes
abbrev top_unless : Bool → ℕ
top_unless true = 0
top_unless false = 128

abbrev mark_right : ℕ → ℕ → Bool
mark_right v b = eqb (differing 127 128 v b) (top_unless (eqb b v))

zero_marks : passes_below (mark_right 0) 256 ≡ true
unfolding differing
zero_marks = refl

slash_marks : passes_below (mark_right 47) 256 ≡ true
unfolding differing
slash_marks = refl

zero_mark : (b : ℕ) → b < 256 → differing 127 128 0 b ≡ top_unless (eqb b 0)
zero_mark b h = eqb-true (differing 127 128 0 b) (top_unless (eqb b 0)) (passed_below (mark_right 0) 256 zero_marks b h)

slash_mark : (b : ℕ) → b < 256 → differing 127 128 47 b ≡ top_unless (eqb b 47)
slash_mark b h = eqb-true (differing 127 128 47 b) (top_unless (eqb b 47)) (passed_below (mark_right 47) 256 slash_marks b h)

-- a byte of a name has both marks, one behind it the second alone
inside_marks : (b : ℕ) → b < 256 → (eqb (differing 127 128 0 b) 128 && eqb (differing 127 128 47 b) 128) ≡ byte_fits true b
unfolding byte_fits name_byte
inside_marks b h = rw (zero_mark b h, slash_mark b h) (go (eqb b 0) (eqb b 47))
  where
    go : (p q : Bool) → (eqb (top_unless p) 128 && eqb (top_unless q) 128) ≡ (not p && not q)
    go true q = refl
    go false true = refl
    go false false = refl

behind_marks : (b : ℕ) → b < 256 → (eqb (differing 127 128 0 b) 0 && eqb (differing 127 128 47 b) 128) ≡ byte_fits false b
unfolding byte_fits
behind_marks b h = rw (zero_mark b h, slash_mark b h) (go (eqb b 0) (eqb b 47) (λ e. ap (λ x. eqb x 47) (eqb-true b 0 e)))
  where
    go : (p q : Bool) → (p ≡ true → q ≡ false) → (eqb (top_unless p) 0 && eqb (top_unless q) 128) ≡ p
    go true q f = rw (f refl)
    go false q f = refl

-- ALL BYTES COMPARED

both_same : (a x b y : ℕ) (s t u v : List ℕ) → (same (a ∷ s) (x ∷ t) && same (b ∷ u) (y ∷ v)) ≡ ((eqb a x && eqb b y) && (same s t && same u v))
both_same a x b y s t u v = ap₂ ◌&&◌ (same_step a x s t) (same_step b y u v) ∙ and_middle (eqb a x) (same s t) (eqb b y) (same u v)

bytes_fit : (n : ℕ) {s : List ℕ} → Each Byte s
    → (same (map (differing 127 128 0) s) (tops n (length s)) && same (map (differing 127 128 47) s) (replicate (length s) 128)) ≡ fits n s
unfolding tops fits same
bytes_fit zero none = refl
bytes_fit (suc n) none = refl
bytes_fit zero (one {x = b} {xs = s} h es) =
    both_same (differing 127 128 0 b) 0 (differing 127 128 47 b) 128 (map (differing 127 128 0) s) (tops 0 (length s)) (map (differing 127 128 47) s) _
    ∙ ap₂ ◌&&◌ (behind_marks b h) (bytes_fit zero es)
bytes_fit (suc n) (one {x = b} {xs = s} h es) =
    both_same (differing 127 128 0 b) 128 (differing 127 128 47 b) 128 (map (differing 127 128 0) s) (tops n (length s)) (map (differing 127 128 47) s) _
    ∙ ap₂ ◌&&◌ (inside_marks b h) (bytes_fit n es)

marks_are_bytes : (v : ℕ) {s : List ℕ} → Each Byte s → Each Byte (map (differing 127 128 v) s)
unfolding differing
marks_are_bytes v none = none
marks_are_bytes v (one {x = b} h es) =
    let l : bit_and (bit_or (bit_xor (bit_and b 127) v + 127) b) 128 < 256 = omega (arith, and_le_r (bit_or (bit_xor (bit_and b 127) v + 127) b) 128) in
    one l (marks_are_bytes v es)

tops_are_bytes : (n room : ℕ) → Each Byte (tops n room)
unfolding tops
tops_are_bytes zero zero = none
tops_are_bytes (suc n) zero = none
tops_are_bytes zero (suc room) = one {x = 0} (omega arith) (tops_are_bytes zero room)
tops_are_bytes (suc n) (suc room) = one {x = 128} (omega arith) (tops_are_bytes n room)

tops_long : (n room : ℕ) → room ≡ length (tops n room)
unfolding tops
tops_long zero zero = refl
tops_long (suc n) zero = refl
tops_long zero (suc room) = ap suc (tops_long zero room)
tops_long (suc n) (suc room) = ap suc (tops_long n room)

-- EIGHT BYTES

abbrev pub half_marks : ℕ → ℕ → ℕ
half_marks = differing low_bits top_bits

module _ (a b n : ℕ) (wa : Word a) (wb : Word b) where
  abbrev eight : List ℕ
  eight = bytes (a ∷ b ∷ [])

  eight_number : number 0 eight ≡ a * 4294967296 + b
  unfolding number bytes words
  eight_number =
      let w = words_of_bytes (one wa (one wb none)) in
      let p : ((bits 24 8 a * 256 + bits 16 8 a) * 256 + bits 8 8 a) * 256 + bits 0 8 a ≡ a = ap (λ l. get_or l 0 0) w in
      let q : ((bits 24 8 b * 256 + bits 16 8 b) * 256 + bits 8 8 b) * 256 + bits 0 8 b ≡ b = ap (λ l. get_or l 1 0) w in
      omega arith

  -- both comparisons of the eight bytes
  pub eight_fit : (eqb (half_marks 0 (a * 4294967296 + b)) (number 0 (tops n 8)) && eqb (half_marks slashes (a * 4294967296 + b)) top_bits) ≡ fits n eight
  unfolding number bytes tops differing
  eight_fit =
      let small = bytes_are_bytes (a ∷ b ∷ []) in
      let x : half_marks 0 (a * 4294967296 + b) ≡ number 0 (map (differing 127 128 0) eight)
      = ap (half_marks 0) (sym eight_number) ∙ differing_bytes 0 (omega arith) 0 0 0 0 small in
      let y : half_marks slashes (a * 4294967296 + b) ≡ number 0 (map (differing 127 128 47) eight)
      = ap (half_marks slashes) (sym eight_number) ∙ differing_bytes 47 (omega arith) 0 0 0 0 small in
      ap₂ ◌&&◌
      (ap (λ z. eqb z (number 0 (tops n 8))) x ∙ number_same (marks_are_bytes 0 small) (tops_are_bytes n 8) (tops_long n 8))
      (ap (λ z. eqb z top_bits) y ∙ number_same (marks_are_bytes 47 small) (each_replicate 8 128 (omega arith)) refl)
      ∙ bytes_fit n small

-- THE TOP BITS OF THE FIRST BYTES

pub tops_all : (n : ℕ) → 7 < n → top_bits ≡ number 0 (tops n 8)
unfolding number tops
tops_all n h = let e : suc (suc (suc (suc (suc (suc (suc (suc (n - 8)))))))) ≡ n = omega arith in ap (λ m. number 0 (tops m 8)) e

abbrev tops_right : ℕ → Bool
tops_right n = eqb (top_bits - top_bits / 2 ^ (8 * n)) (number 0 (tops n 8))

pub tops_some : (n : ℕ) → n ≤ 7 → top_bits - top_bits / 2 ^ (8 * n) ≡ number 0 (tops n 8)
unfolding number tops
tops_some n h = eqb-true _ _ (passed_below tops_right 8 refl n (omega arith))
