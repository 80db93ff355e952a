-- Bytes put into a list, one run behind the other, are put in one run. Assumes nothing.
use mathlib.Core.Path.{◌≡◌, refl, sym, ap, ◌∙◌}
use mathlib.Core.List.{List, [], ◌∷◌, ◌++◌}
use Prim.Native.Nat.{ℕ, suc, ◌+◌, ◌-◌, ◌≤◌}
use native.Mathlib.Omega.{arith}
use borrow.Rule.Slice.PartMut.{put_mid}
use lib.ListN.{length, drop, length-append}
use lib.Seq.{sets, length-sets, sets-eq, take_all}
use Rattle.std.proofs.lemmas.Slice.{put_mid-paste}
use Rattle.lines.specs.Puts.{Puts}

sets_behind : (l : List ℕ) (i : ℕ) (a b : List ℕ) → sets (sets l i a) (i + length a) b ≡ sets l i (a ++ b)
sets_behind l i [] b = ap (λ k. sets l k b) (omega arith)
sets_behind l i (x ∷ a) b =
    let e : i + suc (length a) ≡ suc i + length a = omega arith in
    ap (λ k. sets (sets l i (x ∷ a)) k b) e ∙ sets_behind _ (suc i) a b

-- two runs are one
pub puts_both : {l m n : List ℕ} {i j k : ℕ} {a b : List ℕ} → Puts l i a j m → Puts m j b k n → Puts l i (a ++ b) k n
puts_both {l} {i} {a} {b} p q =
    record {
      end_is = let e = length-append a b in omega (arith, p.end_is, q.end_is);
      bytes_are = q.bytes_are ∙ rw (p.bytes_are, p.end_is) (sets_behind l i a b);
    }

pub puts_length : {l m : List ℕ} {i j : ℕ} {a : List ℕ} → Puts l i a j m → length m ≡ length l
puts_length {l} {i} {a} p = rw p.bytes_are (length-sets l i a)

-- a run at the front
pub puts_front : {l m a : List ℕ} {end : ℕ} → length a ≤ length l → Puts l 0 a end m → m ≡ a ++ drop (length a) l
puts_front {l} {a} h p =
    let e : 0 + length a ≡ length a = omega arith in
    let q = sets-eq a l 0 (omega arith) in
    p.bytes_are ∙ (rw e at q)

-- what has room as one run has room as two
module _ (at : ℕ) (a b : List ℕ) where
  pub front_fits : {size : ℕ} → at + length (a ++ b) ≤ size → at + length a ≤ size
  front_fits h = let e = length-append a b in omega arith

  pub rest_fits : {l m : List ℕ} {j : ℕ} → at + length (a ++ b) ≤ length l → Puts l at a j m → j + length b ≤ length m
  rest_fits h p = let e = length-append a b in omega (arith, p.end_is, puts_length p)

-- COPYING INTO A PART

pub puts_copied : (l : List ℕ) (at : ℕ) (text : List ℕ) {copied : List ℕ} → at + length text ≤ length l → copied ≡ text
    → Puts l at text (at + length text) (put_mid at (at + length text - at) l copied)
puts_copied l at text h e =
    record {
      end_is = refl;
      bytes_are = put_mid-paste _ _ _ _ text (length text) e (omega arith) refl ∙ rw (take_all (length text) text (omega arith)) (sym (sets-eq text l at h));
    }
