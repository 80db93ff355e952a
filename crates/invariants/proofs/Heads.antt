-- The seven bytes with which a record begins, as one number: its fields are those of the call that it was written for, and its bytes and
-- its fields make it up again. Assumes nothing.
use mathlib.Core.Path.{◌≡◌, refl, ap₂}
use mathlib.Core.List.{List, [], ◌∷◌}
use Prim.Native.Nat.{ℕ, zero, suc, ◌+◌, ◌*◌, ◌^◌, ◌<◌}
use native.Mathlib.Omega.{arith}
use lib.Arith.{digits_lt}
use lib.Pow.{pow-add}
use lib.ListN.{length}
use Rattle.model.specs.Words.{bits}
use Rattle.model.specs.Records.{Call, number, head, head_bytes}
use Rattle.laws.proofs.Each.{Each, none, one}
use Rattle.laws.proofs.Pieces.{Byte, bits_of, bits_join, bits_whole}

-- a call whose numbers are within their fields' widths
pub record CallFits (r : Call) : Type 0 where
  pub call : r.call < 2 ^ 5
  pub process : r.process < 2 ^ 16
  pub argument : r.argument < 2 ^ 16
  pub path1 : length r.path1 < 2 ^ 8
  pub path2 : length r.path2 < 2 ^ 8
  pub zeros : r.zeros < 2 ^ 3

-- THE FIELDS

-- each field of the head that is written for a call is that of the call
module _ {r : Call} (f : CallFits r) where
  pub call_field : bits 51 5 (head r) ≡ r.call
  unfolding head
  call_field =
      bits_of 51 5 0 r.call
      (r.process * 2 ^ 35 + r.argument * 2 ^ 19 + length r.path1 * 2 ^ 11 + length r.path2 * 2 ^ 3 + r.zeros) (omega arith) f.call
      (omega arith)

  pub process_field : bits 35 16 (head r) ≡ r.process
  unfolding head
  process_field =
      bits_of 35 16 r.call r.process (r.argument * 2 ^ 19 + length r.path1 * 2 ^ 11 + length r.path2 * 2 ^ 3 + r.zeros)
      (omega arith) f.process (omega arith)

  pub argument_field : bits 19 16 (head r) ≡ r.argument
  unfolding head
  argument_field =
      bits_of 19 16 (r.call * 2 ^ 16 + r.process) r.argument (length r.path1 * 2 ^ 11 + length r.path2 * 2 ^ 3 + r.zeros)
      (omega arith) f.argument (omega arith)

  pub path1_length_field : bits 11 8 (head r) ≡ length r.path1
  unfolding head
  path1_length_field =
      bits_of 11 8 (r.call * 2 ^ 32 + r.process * 2 ^ 16 + r.argument) (length r.path1) (length r.path2 * 2 ^ 3 + r.zeros)
      (omega arith) f.path1 (omega arith)

  pub path2_length_field : bits 3 8 (head r) ≡ length r.path2
  unfolding head
  path2_length_field =
      bits_of 3 8 (r.call * 2 ^ 40 + r.process * 2 ^ 24 + r.argument * 2 ^ 8 + length r.path1) (length r.path2) r.zeros
      (omega arith) f.path2 f.zeros

  pub zeros_field : bits 0 3 (head r) ≡ r.zeros
  unfolding head
  zeros_field =
      bits_of 0 3 (r.call * 2 ^ 48 + r.process * 2 ^ 32 + r.argument * 2 ^ 16 + length r.path1 * 2 ^ 8 + length r.path2) r.zeros 0
      (omega arith) f.zeros (omega arith)

  pub head_within : head r < 2 ^ 56
  unfolding head
  head_within = omega arith

-- the fields of a number of 56 bits are the number again
pub fields_joined : {h : ℕ} → h < 2 ^ 56
    → bits 51 5 h * 2 ^ 51 + bits 35 16 h * 2 ^ 35 + bits 19 16 h * 2 ^ 19 + bits 11 8 h * 2 ^ 11 + bits 3 8 h * 2 ^ 3 + bits 0 3 h ≡ h
fields_joined {h} l =
    omega (arith, bits_join 0 8 3 h, bits_join 0 8 11 h, bits_join 0 16 19 h, bits_join 0 16 35 h, bits_join 0 5 51 h, bits_whole 56 l)

-- THE BYTES

-- the seven bytes of a number of 56 bits are the number again
pub number_of_bytes : {h : ℕ} → h < 2 ^ 56 → number 0 (head_bytes h) ≡ h
unfolding number head_bytes
number_of_bytes {h} l =
    omega (
      arith,
      bits_join 40 8 8 h,
      bits_join 32 16 8 h,
      bits_join 24 24 8 h,
      bits_join 16 32 8 h,
      bits_join 8 40 8 h,
      bits_join 0 48 8 h,
      bits_whole 56 l,
    )

-- the lowest k bytes of a number, so that the laws below go by induction
unfoldable pub spread : ℕ → ℕ → List ℕ
spread zero h = []
spread (suc k) h = bits (k * 8) 8 h ∷ spread k h

one_byte_more : (k : ℕ) → 2 ^ (suc k * 8) ≡ 256 * 2 ^ (k * 8)
one_byte_more k = let e : suc k * 8 ≡ 8 + k * 8 = omega arith in rw e (pow-add 2 8 (k * 8))

-- what stands before the bytes is the high part of the number
number_from : (n : ℕ) (t : List ℕ) → number n t ≡ n * 2 ^ (length t * 8) + number 0 t
unfolding number
number_from n [] = omega arith
number_from n (b ∷ t) = rw (one_byte_more (length t)) (omega (arith, number_from (n * 256 + b) t, number_from (0 * 256 + b) t))

-- as many bits as the bytes have hold the number
pub number_within : {t : List ℕ} → Each Byte t → number 0 t < 2 ^ (length t * 8)
unfolding number
number_within none = omega arith
number_within (one {x = b} {xs = t} h hs) =
    rw (one_byte_more (length t)) (omega (arith, number_from (0 * 256 + b) t, digits_lt h (number_within hs)))

-- the bytes of the number that bytes are
pub bytes_of_number : {t : List ℕ} (n : ℕ) → Each Byte t → spread (length t) (number n t) ≡ t
unfolding spread number
bytes_of_number n none = refl
bytes_of_number n (one {x = b} {xs = t} h hs) =
    ap₂ ◌∷◌ (bits_of (length t * 8) 8 n b (number 0 t) (number_from (n * 256 + b) t) h (number_within hs)) (bytes_of_number (n * 256 + b) hs)

pub head_bytes_spread : (h : ℕ) → head_bytes h ≡ spread 7 h
unfolding head_bytes spread
head_bytes_spread h = refl
