-- Reading, step by step: too few bytes, then the fault of the fields, then the call. Assumes nothing.
use mathlib.Core.Path.{◌≡◌, refl, ◌∙◌}
use mathlib.Core.Bool.{Bool, true, false}
use mathlib.Core.List.{List}
use Prim.Native.Nat.{ℕ, ◌+◌, ◌-◌, ◌≤◌, ◌<◌}
use native.Mathlib.Omega.{arith}
use lib.Dec.{eqb}
use lib.ListN.{length, take, drop, length-drop}
use lib.Seq.{drop-drop, length-take-le}
use borrow.Author.Tests.{lt-ltb, le-ltb}
use Rattle.model.specs.Refusals.{◌>>◌}
use Rattle.model.specs.Words.{bits}
use Rattle.model.specs.Records as model
use Rattle.model.specs.Records.{Call, fields_from, head_of, fields, asked, short, taken, well_formed}
use Rattle.invariants.proofs.Records.{Whole, whole_not_short, whole_taken}
use Rattle.fields.specs.declared.Numbers.{Numbers}
use Rattle.std.proofs.Common.{Result, Ok, Err, is_ok, MatchResult}
use Rattle.records.specs.declared.Rejected.{Rejected}
use Rattle.fields.specs.Given.{given, numbers_in, fault_of}
use Rattle.records.specs.Reading.{Reading, fields_at, fields_of, answered, reading, cut_short}
use Rattle.fields.proofs.FieldTests.{fault_refuses, no_fault}

-- TOO FEW BYTES

module _ (s : List ℕ) where
  short_refused : short s ≡ true → reading s ≡ Err (record { number = 17; taken = 0 })
  unfolding reading answered model.read taken ◌>>◌
  short_refused e = simp (e, reading, taken)

  pub no_head : length s < 7 → reading s ≡ Err (record { number = 17; taken = 0 })
  unfolding short
  no_head h = short_refused (simp (lt-ltb (length s) 7 h, short))

-- what the code has found in the head: its number, and the lengths of the paths
pub record Found (s : List ℕ) (head l1 l2 : ℕ) : Type 0 where
  pub head_is : head ≡ head_of s
  pub path1_is : l1 ≡ bits 11 8 head
  pub path2_is : l2 ≡ bits 3 8 head
  pub head_there : 7 ≤ length s

module _ {s : List ℕ} {head l1 l2 : ℕ} (f : Found s head l1 l2) where
  asked_is : asked s ≡ 7 + l1 + l2
  unfolding asked
  asked_is = rw (f.path1_is, f.path2_is, f.head_is)

  pub no_paths : length s < 7 + l1 + l2 → reading s ≡ Err (record { number = 17; taken = 0 })
  unfolding short
  no_paths h =
      let e = asked_is in
      short_refused s (simp (le-ltb (length s) 7 f.head_there, lt-ltb (length s) (asked s) (omega arith), short))

  module _ (enough : 7 + l1 + l2 ≤ length s) where
    is_whole : Whole s
    is_whole = record { head_there = f.head_there; paths_there = rw asked_is enough }

    answered_by : reading s ≡ answered (7 + l1 + l2) (well_formed (fields s))
    unfolding reading model.read ◌>>◌
    answered_by = rw (whole_taken is_whole, whole_not_short is_whole, asked_is)

    fields_are : (n : Numbers) → n ≡ numbers_in head
        → fields s ≡ given n (take (7 + l1 - 7) (drop 7 s)) (take (7 + l1 + l2 - (7 + l1)) (drop (7 + l1) s))
    unfolding fields fields_from
    fields_are n e =
        let a : 7 + l1 - 7 ≡ l1 = omega arith in
        let b : 7 + l1 + l2 - (7 + l1) ≡ l2 = omega arith in
        rw (a, b, e, ← drop-drop l1 7 s, ← f.head_is, ← f.path1_is, ← f.path2_is)

    module _ (n : Numbers) (e : n ≡ numbers_in head) where
      -- what the fields are tested as
      abbrev tested : Call
      tested = given n (take (7 + l1 - 7) (drop 7 s)) (take (7 + l1 + l2 - (7 + l1)) (drop (7 + l1) s))

      pub fields_refused : {k : ℕ} → Err k ≡ fault_of (well_formed tested) → reading s ≡ Err (record { number = k; taken = 7 + l1 + l2 })
      unfolding answered
      fields_refused wrong = answered_by ∙ rw (fields_are n e, fault_refuses _ wrong)

      pub fields_accepted : Ok tt ≡ fault_of (well_formed tested)
          → reading s ≡ Ok (record { fields = fields_at n.call n.process n.argument l1 l2; taken = 7 + l1 + l2 })
      unfolding answered fields_of
      fields_accepted right =
          let a : length (take (7 + l1 - 7) (drop 7 s)) ≡ l1 = length-take-le (7 + l1 - 7) (drop 7 s) (simp length-drop (omega arith)) ∙ omega arith in
          let b : length (take (7 + l1 + l2 - (7 + l1)) (drop (7 + l1) s)) ≡ l2 = length-take-le (7 + l1 + l2 - (7 + l1)) (drop (7 + l1) s) (simp length-drop (omega arith)) ∙ omega arith in
          answered_by ∙ rw (fields_are n e, no_fault _ right, a, b)

-- WHAT A REFUSAL BECAME, by a closure that is asked at an error alone

pub not_refused : (r : Result (Unit {0}) ℕ) → true ≡ is_ok r → r ≡ Ok tt
not_refused (Ok x) v = refl
not_refused (Err k) v = cc

pub refused_with : (r : Result (Unit {0}) ℕ) (e : Rejected) {taken : ℕ} {found : Reading} (post : ℕ → Type 0)
    → MatchResult r (λ x. ◌≡◌ {A = Result (Unit {0}) Rejected} (Err e) (Ok x)) post
    → ((k : ℕ) → r ≡ Err k → found ≡ Err (record { number = k; taken = taken })) → ((k : ℕ) → post k → e ≡ record { number = k; taken = taken })
    → Err e ≡ found
refused_with (Ok x) e post h known made = cc
refused_with (Err k) e post h known made = rw (known k refl, made k h)

pub cut_short_by : (found : Reading) {r : Bool} (post : Rejected → Type 0)
    → MatchResult found (λ x. r ≡ false) post → ((e : Rejected) → post e → r ≡ eqb e.number 17) → r ≡ cut_short found
unfolding cut_short
cut_short_by (Ok a) post h f = h
cut_short_by (Err e) post h f = f e h
