-- Decimal digits: the last one and those before it; room for more digits than a number has changes nothing. Assumes nothing.
use mathlib.Core.Path.{◌≡◌, refl, sym, ap, ◌∙◌}
use mathlib.Core.Bool.{Bool, true, false}
use mathlib.Core.List.{[], ◌∷◌, ◌++◌}
use Prim.Native.Nat.{ℕ, zero, suc, ◌+◌, ◌^◌, ◌/◌, ◌%◌, ◌≤◌, ◌<◌}
use native.Mathlib.Omega.{arith}
use borrow.Author.Tests.{ltb-true, ltb-false, lt-ltb, le-ltb}
use lib.Dec.{ltb}
use lib.ListN.{length, length-append}
use lib.Pow.{pow-add}
use Rattle.std.specs.Fmt.{decimal}
use Rattle.std.proofs.lemmas.Fmt.{decimal_by_steps}
use Rattle.model.specs.Listing.{digits}

pub one_digit : (k : ℕ) {n : ℕ} → n < 10 → digits k n ≡ (48 + n) ∷ []
unfolding digits
one_digit zero h = refl
one_digit (suc k) {n} h = simp (lt-ltb n 10 h, digits)

pub more_digits : (k : ℕ) {n : ℕ} → 10 ≤ n → digits (suc k) n ≡ digits k (n / 10) ++ ((48 + n % 10) ∷ [])
unfolding digits
more_digits k {n} h = simp (le-ltb n 10 h, digits)

-- without its last digit a number has one digit less
shorter : (k n : ℕ) → n < 10 ^ suc (suc k) → n / 10 < 10 ^ suc k
shorter k n h = let e = pow-add 10 1 (suc k) in omega arith

-- as many digits as the number has are enough, and more change nothing
pub alike_digits : (k m n : ℕ) → n < 10 ^ suc k → n < 10 ^ suc m → digits k n ≡ digits m n
alike_digits zero m n h l = let s : n < 10 = h in one_digit 0 s ∙ sym (one_digit m s)
alike_digits (suc k) zero n h l = let s : n < 10 = l in one_digit (suc k) s ∙ sym (one_digit 0 s)
alike_digits (suc k) (suc m) n h l = go (ltb n 10) refl (alike_digits k m (n / 10) (shorter k n h) (shorter m n l))
  where
    go : (b : Bool) → ltb n 10 ≡ b → digits k (n / 10) ≡ digits m (n / 10) → digits (suc k) n ≡ digits (suc m) n
    go true p e = let s = ltb-true n 10 p in one_digit (suc k) s ∙ sym (one_digit (suc m) s)
    go false p e =
        let s = ltb-false n 10 p in
        more_digits k s ∙ ap (λ l. l ++ ((48 + n % 10) ∷ [])) e ∙ sym (more_digits m s)

pub digit_count : (k n : ℕ) → length (digits k n) ≤ suc k
unfolding digits
digit_count zero n = omega arith
digit_count (suc k) n = go (ltb n 10) refl (digit_count k (n / 10))
  where
    go : (b : Bool) → ltb n 10 ≡ b → length (digits k (n / 10)) ≤ suc k → length (digits (suc k) n) ≤ suc (suc k)
    go true p h = rw (one_digit (suc k) (ltb-true n 10 p)) (omega arith)
    go false p h = rw (more_digits k (ltb-false n 10 p)) (simp length-append (omega arith))

-- A NUMBER OF 64 BITS: 20 digits are enough

pub last_digit : {n : ℕ} → n < 2 ^ 64 → 10 ≤ n → digits 19 n ≡ digits 19 (n / 10) ++ ((48 + n % 10) ∷ [])
last_digit {n} f h = more_digits 18 h ∙ ap (λ l. l ++ ((48 + n % 10) ∷ [])) (alike_digits 18 19 (n / 10) (omega arith) (omega arith))

-- five digits are enough for a number of 16 bits
pub five_digits : {n : ℕ} → n < 2 ^ 16 → digits 19 n ≡ digits 4 n
five_digits {n} h = alike_digits 19 4 n (omega arith) (omega arith)

-- so they are what is printed of it
pub printed : (n : ℕ) → n < 2 ^ 64 → decimal n ≡ digits 19 n
printed n f =
    decimal_by_steps (λ n ds. n < 2 ^ 64 → ds ≡ digits 19 n) (λ n h f. sym (one_digit 19 h))
    (λ n ds h tens f. ap (λ l. l ++ ((48 + n % 10) ∷ [])) (tens (omega arith)) ∙ sym (last_digit f h)) n f f
