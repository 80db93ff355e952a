-- The calls that reading and packing accept: what it means that no field is broken, that their numbers are within their fields' widths,
-- and that packing and reading undo each other. Assumes nothing.
use mathlib.Core.Path.{◌≡◌, refl, sym, ap, ◌∙◌}
use mathlib.Core.Bool.{Bool, true, false, not, ◌&&◌, ◌||◌}
use mathlib.Core.List.{List, [], ◌∷◌, ◌++◌}
use Prim.Native.Nat.{ℕ, zero, suc, ◌^◌, ◌≤◌, ◌<◌}
use native.Mathlib.Omega.{arith}
use borrow.Author.Tests.{leb-true, eqb-true, eqb-false, ltb-true, ltb-false, le-ltb}
use lib.Dec.{eqb, leb, ltb}
use lib.ListN.{length, take, length-take, drop, get_or-eq_default}
use lib.Seq.{length-take-le}
use Rattle.model.specs.Lists.{empty, all}
use Rattle.model.specs.Refusals.{granted, ◌>>◌, ◌>>=◌}
use Rattle.model.specs.Paths.{valid_path, valid_target, absolute, names, valid_name}
use Rattle.model.specs.Words.{bits}
use Rattle.model.specs.Records.{Call, Row, Wanted, blank, path, target, calls, row_of, known, not_blank, not_valid, fork_call, fields_broken, paths_broken, well_formed, fields, short, taken, read, write, fields_from, head_of, packing, packed, record_length}
use Rattle.laws.proofs.Bools.{clash, and_left, and_right, neither_left, neither_right, not_false}
use Rattle.laws.proofs.Each.{Each, each_at, each_take, each_drop, passes_each}
use Rattle.laws.proofs.Grants.{same_grant, passed, both_granted}
use Rattle.laws.proofs.Pieces.{Byte, bits_within}
use Rattle.invariants.proofs.Heads.{CallFits}
use Rattle.invariants.proofs.Records.{whole, written_back, read_written, Whole, taken_there, written_length, taken_of_written}

-- WELL-FORMED CALLS

-- a call that is well formed is given back as it is
pub well_formed_same : (r : Call) {q : Call} → well_formed r ≡ granted q → r ≡ q
unfolding well_formed
well_formed_same r g =
    same_grant (passed 3 (paths_broken r) (granted r) (passed 2 (fields_broken r) _ g).then).then

-- how long valid paths and targets are
pub valid_path_short : (s : List ℕ) → valid_path s ≡ true → length s ≤ 255
unfolding valid_path
valid_path_short s = go (leb 1 (length s)) (leb (length s) 255) (absolute s) (all valid_name (names s)) (leb-true (length s) 255)
  where
    go : {A : Type 0} (a b c d : Bool) → (b ≡ true → A) → (a && b && c && d) ≡ true → A
    go a b c d f e = f (and_right a b (and_left (a && b) c (and_left (a && b && c) d e)))

pub valid_target_short : (s : List ℕ) → valid_target s ≡ true → length s ≤ 64
unfolding valid_target
valid_target_short s = go (leb 1 (length s)) (leb (length s) 64) (all valid_name (names s)) (leb-true (length s) 64)
  where
    go : {A : Type 0} (a b c : Bool) → (b ≡ true → A) → (a && b && c) ≡ true → A
    go a b c f e = f (and_right a b (and_left (a && b) c e))

-- the length of a path that is asked for or blank
path_within : (wanted : Wanted) (s : List ℕ) → not_blank wanted s ≡ false → not_valid wanted s ≡ false → length s < 2 ^ 8
unfolding not_blank not_valid empty
path_within blank [] b v = omega arith
path_within blank (x ∷ s) b v = clash refl b
path_within path s b v = omega (arith, valid_path_short s (not_false (valid_path s) v))
path_within target s b v = omega (arith, valid_target_short s (not_false (valid_target s) v))

-- the calls that are known have a place in the table
pub known_above : (c : ℕ) → known c ≡ true → 1 ≤ c
unfolding known row_of
known_above zero e = clash e refl
known_above (suc n) e = omega arith

pub known_within : (c : ℕ) → known c ≡ true → c ≤ length calls
unfolding known row_of
known_within zero e = clash e refl
known_within (suc n) e =
    go (ltb n (length calls)) refl
  where
    go : (b : Bool) → ltb n (length calls) ≡ b → suc n ≤ length calls
    go true h = omega (arith, ltb-true n (length calls) h)
    go false h = clash e (ap (λ (r : Row). r.there) (get_or-eq_default calls (row_of 0) {n = n} (ltb-false n (length calls) h)))

-- every call is made by a process
pub made_by_process : (c : ℕ) → (row_of c).by_process ≡ true
unfolding row_of calls all
made_by_process zero = refl
made_by_process (suc n) = each_at (passes_each (λ (r : Row). r.by_process) calls refl) refl n

-- what it means that no field is broken
pub record FieldsRight (r : Call) : Type 0 where
  pub known_call : known r.call ≡ true
  pub process : (row_of r.call).by_process ≡ true → (r.process ≡ 0) → ⊥
  pub child : (eqb r.call fork_call && eqb r.argument 0) ≡ false
  pub argument : (not (row_of r.call).argument && not (eqb r.argument 0)) ≡ false
  pub path1 : not_blank (row_of r.call).path1 r.path1 ≡ false
  pub path2 : not_blank (row_of r.call).path2 r.path2 ≡ false
  pub zeros : r.zeros ≡ 0

pub fields_right : (r : Call) → fields_broken r ≡ false → FieldsRight r
unfolding fields_broken
fields_right r =
    go (not (known r.call)) ((row_of r.call).by_process && eqb r.process 0) (eqb r.call fork_call && eqb r.argument 0)
    (not (row_of r.call).argument && not (eqb r.argument 0)) (not_blank (row_of r.call).path1 r.path1)
    (not_blank (row_of r.call).path2 r.path2) (not (eqb r.zeros 0))
    (λ a b c d e f g. record {
      known_call = not_false (known r.call) a;
      process = λ wanted. eqb-false r.process 0 (rw wanted at b);
      child = c;
      argument = d;
      path1 = e;
      path2 = f;
      zeros = eqb-true r.zeros 0 (not_false (eqb r.zeros 0) g);
    })
  where
    go : {A : Type 0} (a b c d e f g : Bool)
        → (a ≡ false → b ≡ false → c ≡ false → d ≡ false → e ≡ false → f ≡ false → g ≡ false → A)
        → (a || b || c || d || e || f || g) ≡ false → A
    go a b c d e f g k q =
        let to_f = neither_left (a || b || c || d || e || f) g q in
        let to_e = neither_left (a || b || c || d || e) f to_f in
        let to_d = neither_left (a || b || c || d) e to_e in
        let to_c = neither_left (a || b || c) d to_d in
        let to_b = neither_left (a || b) c to_c in
        k (neither_left a b to_b) (neither_right a b to_b) (neither_right (a || b) c to_c) (neither_right (a || b || c) d to_d)
        (neither_right (a || b || c || d) e to_e) (neither_right (a || b || c || d || e) f to_f)
        (neither_right (a || b || c || d || e || f) g q)

-- the numbers of a call that is well formed are within their widths
pub accepted_fits : (r : Call) → r.process < 2 ^ 16 → r.argument < 2 ^ 16 → well_formed r ≡ granted r → CallFits r
unfolding well_formed paths_broken known calls
accepted_fits r p a g =
    let x = passed 2 (fields_broken r) _ g in
    let y = passed 3 (paths_broken r) (granted r) x.then in
    let f = fields_right r x.missed in
    let invalid1 = not_valid (row_of r.call).path1 r.path1 in
    let invalid2 = not_valid (row_of r.call).path2 r.path2 in
    record {
      call = omega (arith, known_within r.call f.known_call);
      process = p;
      argument = a;
      path1 = path_within (row_of r.call).path1 r.path1 f.path1 (neither_left invalid1 invalid2 y.missed);
      path2 = path_within (row_of r.call).path2 r.path2 f.path2 (neither_right invalid1 invalid2 y.missed);
      zeros = omega (arith, f.zeros);
    }

-- whatever bytes it is read from, the numbers of a call are within their widths, and its paths are made of those bytes
pub read_fits : (s : List ℕ) → CallFits (fields s)
unfolding fields fields_from
read_fits s =
    let h = head_of s in
    let n = bits_within 11 8 h in
    let m = bits_within 3 8 h in
    record {
      call = bits_within 51 5 h;
      process = bits_within 35 16 h;
      argument = bits_within 19 16 h;
      path1 = simp length-take (omega arith);
      path2 = simp length-take (omega arith);
      zeros = bits_within 0 3 h;
    }

pub read_path1_bytes : {s : List ℕ} → Each Byte s → Each Byte (fields s).path1
unfolding fields fields_from
read_path1_bytes {s} bytes = each_take (bits 11 8 (head_of s)) (each_drop 7 bytes)

pub read_path2_bytes : {s : List ℕ} → Each Byte s → Each Byte (fields s).path2
unfolding fields fields_from
read_path2_bytes {s} bytes = each_take (bits 3 8 (head_of s)) (each_drop (bits 11 8 (head_of s)) (each_drop 7 bytes))

-- PACKED, THEN READ

-- what it means that packing is not refused
pub record PackedRight (r : Call) (destination : List ℕ) (n : ℕ) : Type 0 where
  pub formed : well_formed r ≡ granted r
  pub long : n ≡ record_length r
  pub room : n ≤ length destination

pub packed_right : (r : Call) (destination : List ℕ) {n : ℕ} → packing r destination ≡ granted n → PackedRight r destination n
unfolding packing
packed_right r destination g =
    let b = both_granted (well_formed r) _ g in
    let e : r ≡ b.what = well_formed_same r b.first in
    let p = passed 18 (ltb (length destination) (record_length b.what)) (granted (record_length b.what)) b.then in
    let l : record_length b.what ≡ _ = same_grant p.then in
    record {
      formed = b.first ∙ ap granted (sym e);
      long = sym l ∙ ap record_length (sym e);
      room = rw (← l) (ltb-false (length destination) (record_length b.what) p.missed);
    }

-- the call that was packed is read again, and as many bytes are taken as packing answered
module _ (r : Call) (p : r.process < 2 ^ 16) (a : r.argument < 2 ^ 16) (destination : List ℕ) (n : ℕ) (g : packing r destination ≡ granted n) where
  pub packed_read : read (packed r destination (granted n)) ≡ granted r
  unfolding packed
  packed_read = let c = packed_right r destination g in read_written (accepted_fits r p a c.formed) (drop n destination) c.formed

  pub packed_taken : taken (packed r destination (granted n)) ≡ n
  unfolding packed
  packed_taken =
      let c = packed_right r destination g in
      taken_of_written (accepted_fits r p a c.formed) (drop n destination) ∙ sym c.long

-- READ, THEN PACKED

-- a record that reading accepts
module _ {s : List ℕ} {r : Call} (bytes : Each Byte s) (g : read s ≡ granted r) where
  accepted_whole : Whole s
  unfolding read
  accepted_whole = whole s (passed 17 (short s) (well_formed (fields s)) g).missed

  pub accepted_formed : well_formed r ≡ granted r
  unfolding read
  accepted_formed =
      let p = passed 17 (short s) (well_formed (fields s)) g in
      ap well_formed (sym (well_formed_same (fields s) p.then)) ∙ p.then

  -- it is what is written for its call
  pub accepted_written : take (taken s) s ≡ write r
  unfolding read
  accepted_written =
      let p = passed 17 (short s) (well_formed (fields s)) g in
      sym (written_back bytes accepted_whole) ∙ ap write (well_formed_same (fields s) p.then)

  pub accepted_taken : taken s ≡ record_length r
  accepted_taken =
      sym (length-take-le (taken s) s (taken_there accepted_whole)) ∙ ap (length {A = ℕ}) accepted_written ∙ written_length r

  -- the call is packed into the very bytes that it was read from, wherever there is room
  module _ (destination : List ℕ) (room : taken s ≤ length destination) where
    pub accepted_packing : packing r destination ≡ granted (taken s)
    unfolding packing ◌>>◌ ◌>>=◌
    accepted_packing =
        let l = accepted_taken in
        rw (accepted_formed, le-ltb (length destination) (record_length r) (omega arith)) (ap granted (sym l))

    pub accepted_packed : packed r destination (packing r destination) ≡ take (taken s) s ++ drop (taken s) destination
    unfolding packed
    accepted_packed = rw (accepted_packing, accepted_written)
