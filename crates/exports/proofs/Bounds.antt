-- What reading and packing answer, as the numbers that are told: they fit, and they are the model's. Assumes nothing.
use mathlib.Core.Path.{◌≡◌, refl, ap}
use mathlib.Core.List.{List}
use Prim.Native.Nat.{ℕ, ◌^◌, ◌<◌}
use native.Mathlib.Omega.{arith}
use lib.ListN.{replicate}
use Rattle.model.specs.Refusals.{Outcome, refused, granted}
use Rattle.model.specs.Records.{Call, fields, asked, head_of, short, taken, read, well_formed, packing, record_length}
use Rattle.laws.proofs.Choices.{chosen}
use Rattle.laws.proofs.Grants.{passed}
use Rattle.laws.proofs.Pieces.{bits_within}
use Rattle.invariants.proofs.Heads.{CallFits}
use Rattle.invariants.proofs.Accepted.{read_fits, well_formed_same, accepted_fits, packed_right}
use Rattle.records.specs.Reading as reading
use Rattle.records.specs.Reading.{fields_of}
use Rattle.records.specs.Packing as packing
use Rattle.records.specs.Packing.{Packs}
use Rattle.records.specs.declared.Accepted.{Accepted}
use Rattle.records.specs.declared.Rejected.{Rejected}
use Rattle.std.proofs.Common.{Ok, Err}
use Rattle.exports.specs.Numbers.{answer_number, reading_number, reading_fields, field_numbers, packing_number, Small}

-- READING

-- a record takes 517 bytes at the most
pub taken_small : (s : List ℕ) → taken s < 65536
unfolding taken asked
taken_small s =
    let a = bits_within 11 8 (head_of s) in
    let b = bits_within 3 8 (head_of s) in
    chosen (λ (n : ℕ). n < 65536) (short s) _ _ (λ e. omega arith) (λ e. omega arith)

read_call_fits : (s : List ℕ) (r : Call) → read s ≡ granted r → CallFits r
unfolding read
read_call_fits s r e =
    let p = passed 17 (short s) (well_formed (fields s)) e in
    rw (well_formed_same (fields s) p.then) at (read_fits s)

fields_small : (r : Call) → CallFits r → Small (fields_of r)
unfolding fields_of
fields_small r fits =
    let a = fits.path1 in
    let b = fits.path2 in
    record { start1 = omega arith; length1 = omega arith; start2 = omega arith; length2 = omega arith }

-- an accepted record
pub record AcceptedAs (s : List ℕ) (a : Accepted) : Type 0 where
  pub small : Small a.fields
  pub few : a.taken < 65536
  pub number : answer_number 2 a.fields.call a.taken ≡ reading_number (read s) (taken s)
  pub numbers : field_numbers a.fields ≡ reading_fields (read s)

pub accepted_as : (s : List ℕ) (a : Accepted) → reading.reading s ≡ Ok a → AcceptedAs s a
unfolding reading.reading reading.answered reading_number reading_fields fields_of
accepted_as s a = go (read s) refl
  where
    go : (o : Outcome Call) → read s ≡ o → reading.answered (taken s) o ≡ Ok a → AcceptedAs s a
    go (refused k) e h = cc
    go (granted r) e h =
        let same : ◌≡◌ {A = Accepted} (record { fields = fields_of r; taken = taken s }) a = cc in
        let is : fields_of r ≡ a.fields = ap (λ (x : Accepted). x.fields) same in
        let bytes : taken s ≡ a.taken = ap (λ (x : Accepted). x.taken) same in
        record {
          small = rw is at (fields_small r (read_call_fits s r e));
          few = rw bytes at (taken_small s);
          number = rw (e, ← is, ← bytes);
          numbers = rw (e, ← is);
        }

-- a refused one
pub record RefusedAs (s : List ℕ) (r : Rejected) : Type 0 where
  pub few : r.taken < 65536
  pub number : answer_number 3 r.number r.taken ≡ reading_number (read s) (taken s)
  pub numbers : replicate 6 0 ≡ reading_fields (read s)

pub refused_as : (s : List ℕ) (r : Rejected) → reading.reading s ≡ Err r → RefusedAs s r
unfolding reading.reading reading.answered reading_number reading_fields
refused_as s r = go (read s) refl
  where
    go : (o : Outcome Call) → read s ≡ o → reading.answered (taken s) o ≡ Err r → RefusedAs s r
    go (refused m) e h =
        let same : ◌≡◌ {A = Rejected} (record { number = m; taken = taken s }) r = cc in
        let is : m ≡ r.number = ap (λ (x : Rejected). x.number) same in
        let bytes : taken s ≡ r.taken = ap (λ (x : Rejected). x.taken) same in
        record { few = rw bytes at (taken_small s); number = rw (e, ← is, ← bytes); numbers = rw e }
    go (granted c) e h = cc

-- PACKING

pub length_small : (c : Call) (d : List ℕ) (n : ℕ) (after : List ℕ) → c.process < 2 ^ 16 → c.argument < 2 ^ 16
    → Packs c d (Ok n) after → n < 4294967296
unfolding packing.answered record_length
length_small c d n after p a h = go (packing c d) refl h.answer
  where
    go : (o : Outcome ℕ) → packing c d ≡ o → Ok n ≡ packing.answered o → n < 4294967296
    go (refused k) e i = cc
    go (granted m) e i =
        let is : n ≡ m = cc in
        let right = packed_right c d e in
        let fits = accepted_fits c p a right.formed in
        let long = right.long in
        let one = fits.path1 in
        let two = fits.path2 in
        omega arith

pub length_told : (c : Call) (d : List ℕ) (n : ℕ) (after : List ℕ) → Packs c d (Ok n) after
    → answer_number 2 n 0 ≡ packing_number (packing c d)
unfolding packing.answered packing_number
length_told c d n after h = go (packing c d) h.answer
  where
    go : (o : Outcome ℕ) → Ok n ≡ packing.answered o → answer_number 2 n 0 ≡ packing_number o
    go (refused k) i = cc
    go (granted m) i = let is : n ≡ m = cc in rw is

pub refusal_told : (c : Call) (d : List ℕ) (n : ℕ) (after : List ℕ) → Packs c d (Err n) after
    → answer_number 3 n 0 ≡ packing_number (packing c d)
unfolding packing.answered packing_number
refusal_told c d n after h = go (packing c d) h.answer
  where
    go : (o : Outcome ℕ) → Err n ≡ packing.answered o → answer_number 3 n 0 ≡ packing_number o
    go (refused k) i = let is : n ≡ k = cc in rw is
    go (granted m) i = cc
