-- What the contracts of reading and packing come to together: an answer of reading means the model's outcome; a call that was packed is
-- read again; a record that was read is packed again into its own bytes. Assumes nothing.
use mathlib.Core.Path.{◌≡◌, refl, sym, ap, ◌∙◌}
use mathlib.Core.List.{List, [], ◌∷◌, ◌++◌}
use Prim.Native.Nat.{ℕ, zero, suc, ◌^◌, ◌≤◌, ◌<◌}
use native.Mathlib.Omega.{arith}
use lib.ListN.{length, take, drop, length-drop}
use lib.Seq.{length-take-le, drop-drop}
use Rattle.model.specs.Refusals.{Outcome, refused, granted}
use Rattle.model.specs.Words.{bits}
use Rattle.model.specs.Records as model
use Rattle.model.specs.Records.{Call, fields_broken, well_formed, fields_from, head_of, fields, asked, short, taken, packing, packed}
use Rattle.laws.proofs.Each.{Each}
use Rattle.laws.proofs.Grants.{passed}
use Rattle.laws.proofs.Pieces.{Byte}
use Rattle.invariants.proofs.Records.{Whole, whole}
use Rattle.invariants.proofs.Accepted.{well_formed_same, fields_right, packed_read, packed_taken, accepted_packing, accepted_packed}
use Rattle.records.specs.declared.Fields.{Fields}
use Rattle.std.proofs.Common.{Result, Ok}
use Rattle.records.specs.Reading as readings
use Rattle.records.specs.Reading.{reading, part_of, outcome_of, taken_of, fields_of}
use Rattle.records.specs.Packing as packings
use Rattle.records.specs.Packing.{called, Packs}

-- THE MEANING OF AN ANSWER

take_as_long : {A : Type 0} (n : ℕ) (l : List A) → take (length (take n l)) l ≡ take n l
take_as_long zero l = refl
take_as_long (suc n) [] = refl
take_as_long (suc n) (x ∷ l) = ap (λ r. x ∷ r) (take_as_long n l)

-- the paths of a call that was read are the parts of the bytes that its answer names
module _ (s : List ℕ) (w : Whole s) where
  path1_long : length (fields s).path1 ≡ bits 11 8 (head_of s)
  unfolding fields fields_from asked
  path1_long = length-take-le (bits 11 8 (head_of s)) (drop 7 s) (simp length-drop (omega (arith, w.paths_there)))

  path1_there : part_of s (fields_of (fields s)).path1 ≡ (fields s).path1
  unfolding part_of fields_of fields fields_from
  path1_there = take_as_long (bits 11 8 (head_of s)) (drop 7 s)

  path2_there : part_of s (fields_of (fields s)).path2 ≡ (fields s).path2
  unfolding part_of fields_of fields fields_from
  path2_there =
      rw (path1_long, ← drop-drop (bits 11 8 (head_of s)) 7 s) (take_as_long (bits 3 8 (head_of s)) (drop (bits 11 8 (head_of s)) (drop 7 s)))

call_there : (s : List ℕ) (r : Call) → model.read s ≡ granted r → outcome_of s (Ok (record { fields = fields_of r; taken = taken s })) ≡ granted r
unfolding model.read well_formed outcome_of fields_of
call_there s r e =
    let p = passed 17 (short s) (well_formed (fields s)) e in
    let w = whole s p.missed in
    let same = well_formed_same (fields s) p.then in
    let zeros = (fields_right (fields s) (passed 2 (fields_broken (fields s)) _ p.then).missed).zeros in
    let there : outcome_of s (Ok (record { fields = fields_of (fields s); taken = taken s })) ≡ granted (fields s) =
    rw (path1_there s w, path2_there s w, ← zeros) in
    rw (← same) there

-- an answer of reading means what the model reads
means : (s : List ℕ) (o : Outcome Call) → model.read s ≡ o → outcome_of s (readings.answered (taken s) o) ≡ o
unfolding readings.answered outcome_of
means s (refused n) e = refl
means s (granted r) e = call_there s r e

pub reading_means : (s : List ℕ) → outcome_of s (reading s) ≡ model.read s
unfolding reading
reading_means s = means s (model.read s) refl

takes : (n : ℕ) (o : Outcome Call) → taken_of (readings.answered n o) ≡ n
unfolding readings.answered taken_of
takes n (refused k) = refl
takes n (granted r) = refl

pub reading_takes : (s : List ℕ) → taken_of (reading s) ≡ taken s
unfolding reading
reading_takes s = takes (taken s) (model.read s)

-- PACKED, THEN READ

pub packing_means : (o : Outcome ℕ) → packings.outcome_of (packings.answered o) ≡ o
unfolding packings.answered packings.outcome_of
packing_means (refused n) = refl
packing_means (granted n) = refl

length_means : (n : ℕ) → packings.outcome_of (Ok n) ≡ granted n
unfolding packings.outcome_of
length_means n = refl

length_answered : (n : ℕ) → packings.answered (granted n) ≡ Ok n
unfolding packings.answered
length_answered n = refl

-- what packing wrote is read as the call that was packed, and just its bytes are taken
pub record ReadAgain (c : Call) (n : ℕ) (bytes : List ℕ) : Type 0 where
  pub same_call : outcome_of bytes (reading bytes) ≡ granted c
  pub same_length : taken_of (reading bytes) ≡ n

pub packed_then_read : (call process argument : ℕ) (path1 path2 before after : List ℕ) (n : ℕ) → process < 2 ^ 16 → argument < 2 ^ 16
    → Packs (called call process argument path1 path2) before (Ok n) after → ReadAgain (called call process argument path1 path2) n after
packed_then_read call process argument path1 path2 before after n hp ha packs =
    let c = called call process argument path1 path2 in
    let o : packing c before ≡ granted n = sym (packing_means (packing c before)) ∙ sym (ap packings.outcome_of packs.answer) ∙ length_means n in
    let e : after ≡ packed c before (granted n) = packs.bytes ∙ ap (packed c before) o in
    rw e
    record {
      same_call = reading_means (packed c before (granted n)) ∙ packed_read c hp ha before n o;
      same_length = reading_takes (packed c before (granted n)) ∙ packed_taken c hp ha before n o;
    }

-- READ, THEN PACKED

-- a record that was read, packed again from its own fields and the parts of its bytes
abbrev pub again : List ℕ → Fields → Call
again s f = called f.call f.process f.argument (part_of s f.path1) (part_of s f.path2)

pub record PackedAgain (s : List ℕ) (n : ℕ) (before : List ℕ) (r : Result ℕ ℕ) (after : List ℕ) : Type 0 where
  pub same_length : r ≡ Ok n
  pub same_bytes : after ≡ take n s ++ drop n before

pub read_then_packed : (s : List ℕ) (f : Fields) (n : ℕ) (before after : List ℕ) (r : Result ℕ ℕ) → Each Byte s → reading s ≡ Ok (record { fields = f; taken = n })
    → n ≤ length before → Packs (again s f) before r after → PackedAgain s n before r after
unfolding outcome_of taken_of
read_then_packed s f n before after r bytes e room packs =
    let g : model.read s ≡ granted (again s f) = sym (reading_means s) ∙ ap (outcome_of s) e in
    let l : taken s ≡ n = sym (reading_takes s) ∙ ap taken_of e in
    let fits : taken s ≤ length before = omega arith in
    record {
      same_length = packs.answer ∙ ap packings.answered (accepted_packing bytes g before fits) ∙ rw l (length_answered n);
      same_bytes = packs.bytes ∙ accepted_packed bytes g before fits ∙ rw l;
    }
