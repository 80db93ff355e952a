-- Bytes cut into the records that they are: one record is cut off, then the rest; and records that were written one behind the other come
-- apart again. Assumes nothing.
use mathlib.Core.Path.{◌≡◌, refl, sym, ap, ap₂, ◌∙◌}
use mathlib.Core.Bool.{Bool, true, false}
use mathlib.Core.List.{List, [], ◌∷◌, ◌++◌, map}
use Prim.Native.Nat.{ℕ, zero, suc, ◌≤◌}
use native.Mathlib.Omega.{arith}
use lib.ListN.{length, take, drop, length-drop}
use lib.Seq.{take_at, drop_at}
use Rattle.model.specs.Lists.{empty, joined}
use Rattle.model.specs.Records.{Call, asked, short, taken, write, record_length}
use Rattle.model.specs.Serve.{records_within, records}
use Rattle.laws.proofs.Bools.{clash}
use Rattle.laws.proofs.Each.{Each, none, one}
use Rattle.invariants.proofs.Heads.{CallFits}
use Rattle.invariants.proofs.Records.{Whole, whole, whole_not_short, whole_taken, whole_behind, written_whole, taken_of_written, written_length}

within_nothing : (n : ℕ) (s : List ℕ) → empty s ≡ true → records_within n s ≡ []
unfolding records_within
within_nothing zero s p = refl
within_nothing (suc n) s p = simp (p, records_within)

within_short : (n : ℕ) (s : List ℕ) → empty s ≡ false → short s ≡ true → records_within (suc n) s ≡ s ∷ []
unfolding records_within
within_short n s p q = simp (p, q, records_within)

within_whole : (n : ℕ) (s : List ℕ) → empty s ≡ false → short s ≡ false
    → records_within (suc n) s ≡ take (taken s) s ∷ records_within n (drop (taken s) s)
unfolding records_within
within_whole n s p q = simp (p, q, records_within)

whole_not_empty : (s : List ℕ) → Whole s → empty s ≡ false
unfolding empty
whole_not_empty [] w = let z : ⊥ = omega (arith, w.head_there) in absurd z
whole_not_empty (b ∷ s) w = refl

nothing_empty : (s : List ℕ) → length s ≤ 0 → empty s ≡ true
unfolding empty
nothing_empty [] h = refl
nothing_empty (b ∷ s) h = let z : ⊥ = omega arith in absurd z

-- a record has seven bytes or more, so fewer are left
fewer_left : {s : List ℕ} {n : ℕ} → Whole s → length s ≤ suc n → length (drop (taken s) s) ≤ n
unfolding asked
fewer_left {s} w h = rw (whole_taken w) (simp length-drop (omega (arith, w.head_there)))

-- once there are as many as bytes, more steps change nothing
enough : (n m : ℕ) (s : List ℕ) → length s ≤ n → length s ≤ m → records_within n s ≡ records_within m s
enough zero m s h l = let p = nothing_empty s h in within_nothing zero s p ∙ sym (within_nothing m s p)
enough (suc n) zero s h l = let p = nothing_empty s l in within_nothing (suc n) s p ∙ sym (within_nothing zero s p)
enough (suc n) (suc m) s h l = go (empty s) refl (short s) refl (enough n m (drop (taken s) s))
  where
    go : (b : Bool) → empty s ≡ b → (c : Bool) → short s ≡ c
        → (length (drop (taken s) s) ≤ n → length (drop (taken s) s) ≤ m
        → records_within n (drop (taken s) s) ≡ records_within m (drop (taken s) s))
        → records_within (suc n) s ≡ records_within (suc m) s
    go true p c q rest = within_nothing (suc n) s p ∙ sym (within_nothing (suc m) s p)
    go false p true q rest = within_short n s p q ∙ sym (within_short m s p q)
    go false p false q rest =
        let w = whole s q in
        within_whole n s p q ∙ ap (λ r. take (taken s) s ∷ r) (rest (fewer_left w h) (fewer_left w l)) ∙ sym (within_whole m s p q)

-- THE CUTS

pub records_of_nothing : records [] ≡ []
unfolding records empty
records_of_nothing = within_nothing 0 [] refl

pub records_of_short : (s : List ℕ) → empty s ≡ false → short s ≡ true → records s ≡ s ∷ []
unfolding records empty
records_of_short [] p q = clash refl p
records_of_short (b ∷ s) p q = within_short (length s) (b ∷ s) p q

pub records_of_whole : (s : List ℕ) → Whole s → records s ≡ take (taken s) s ∷ records (drop (taken s) s)
unfolding records
records_of_whole [] w = let z : ⊥ = omega (arith, w.head_there) in absurd z
records_of_whole (b ∷ s) w =
    let rest = drop (taken (b ∷ s)) (b ∷ s) in
    within_whole (length s) (b ∷ s) (whole_not_empty (b ∷ s) w) (whole_not_short w)
    ∙ ap (λ l. take (taken (b ∷ s)) (b ∷ s) ∷ l) (enough (length s) (length rest) rest (fewer_left w (omega arith)) (omega arith))

-- a written record is cut off, whatever stands behind it
pub records_of_written : {r : Call} → CallFits r → (rest : List ℕ) → records (write r ++ rest) ≡ write r ∷ records rest
records_of_written {r} f rest =
    let e = taken_of_written f rest in
    records_of_whole (write r ++ rest) (whole_behind (write r) rest (written_whole f))
    ∙ ap₂ (λ l m. l ∷ records m) (rw e (take_at (write r) rest (record_length r) (written_length r)))
    (rw e (drop_at (write r) rest (record_length r) (written_length r)))

pub records_of_joined : {rs : List Call} → Each CallFits rs → records (joined write rs) ≡ map write rs
unfolding joined
records_of_joined none = records_of_nothing
records_of_joined (one {xs = rs} f fs) = records_of_written f (joined write rs) ∙ ap₂ ◌∷◌ refl (records_of_joined fs)
