-- Packing, step by step: the fault of the fields, then the room, then the bytes. Assumes nothing.
use mathlib.Core.Path.{◌≡◌, refl, ◌∙◌}
use mathlib.Core.List.{List, ◌++◌}
use Prim.Native.Nat.{ℕ, ◌+◌, ◌^◌, ◌≤◌, ◌<◌}
use lib.ListN.{length, drop, length-append}
use lib.Seq.{drop-drop, paste}
use borrow.Author.Tests.{lt-ltb, le-ltb}
use Rattle.model.specs.Refusals.{refused, granted, ◌>>◌, ◌>>=◌}
use Rattle.model.specs.Records.{Call, well_formed, head, head_bytes, write, record_length, packing, packed}
use Rattle.laws.proofs.Copies.{paste_behind}
use Rattle.invariants.proofs.Accepted.{accepted_fits}
use Rattle.fields.specs.declared.Numbers.{Numbers}
use Rattle.std.proofs.Common.{Ok, Err}
use Rattle.fields.specs.Given.{given, fault_of, HeadFits, joined_head}
use Rattle.records.specs.Packing.{answered, Packs}
use Rattle.fields.proofs.FieldTests.{fault_refuses, no_fault}

module _ (c : Call) (d : List ℕ) where
  pub packs_refused : (k : ℕ) → well_formed c ≡ refused k → Packs c d (Err k) d
  unfolding packing packed answered ◌>>=◌
  packs_refused k e = record { answer = rw e; bytes = rw e }

  module _ (formed : well_formed c ≡ granted c) where
    pub packs_no_room : length d < record_length c → Packs c d (Err 18) d
    unfolding packing packed answered ◌>>◌ ◌>>=◌
    packs_no_room h = let t = lt-ltb (length d) (record_length c) h in record { answer = rw (formed, t); bytes = rw (formed, t) }

    pub packs_written : record_length c ≤ length d → (after : List ℕ) → after ≡ write c ++ drop (record_length c) d
        → Packs c d (Ok (record_length c)) after
    unfolding packing packed answered ◌>>◌ ◌>>=◌
    packs_written h after e =
        let t = le-ltb (length d) (record_length c) h in
        record { answer = rw (formed, t); bytes = e ∙ rw (formed, t) }

-- the head, then path 1, then path 2 make the record
pub bytes_written : (c : Call) (d : List ℕ)
    → paste (paste (head_bytes (head c) ++ drop 7 d) 7 c.path1 (length c.path1)) (7 + length c.path1) c.path2 (length c.path2)
    ≡ write c ++ drop (record_length c) d
unfolding write record_length head_bytes
bytes_written c d =
    let front = head_bytes (head c) in
    let n = length c.path1 in
    let m = length c.path2 in
    rw (
      paste_behind front (drop 7 d) c.path1 7 refl,
      paste_behind (front ++ c.path1) (drop n (drop 7 d)) c.path2 (7 + n) (length-append front c.path1),
      drop-drop n 7 d,
      drop-drop m (7 + n) d,
    )

-- what the code did: the head, path 1, path 2
pub record_written : (n : Numbers) (p q d : List ℕ) (h : ℕ) (d₁ d₂ d₃ : List ℕ) → h ≡ joined_head n (length p) (length q)
    → d₁ ≡ head_bytes h ++ drop 7 d → d₂ ≡ paste d₁ 7 p (length p) → d₃ ≡ paste d₂ (7 + length p) q (length q)
    → d₃ ≡ write (given n p q) ++ drop (7 + length p + length q) d
unfolding record_length head joined_head
record_written n p q d h d₁ d₂ d₃ e e₁ e₂ e₃ = e₃ ∙ rw (e₂, e₁, e) (bytes_written (given n p q) d)

-- the numbers of a call that is to be packed
abbrev pub numbers : ℕ → ℕ → ℕ → Numbers
numbers call process argument = record { call = call; process = process; argument = argument; zeros = 0 }

-- what the code has found: the number of the fault, or none
module _ (n : Numbers) (p q : List ℕ) where
  pub fault_packs : (d : List ℕ) {k : ℕ} → Err k ≡ fault_of (well_formed (given n p q)) → Packs (given n p q) d (Err k) d
  fault_packs d {k} wrong = packs_refused (given n p q) d k (fault_refuses (given n p q) wrong)

  module _ (right : Ok tt ≡ fault_of (well_formed (given n p q))) where
    formed : well_formed (given n p q) ≡ granted (given n p q)
    formed = no_fault (given n p q) right

    pub head_fits : n.process < 2 ^ 16 → n.argument < 2 ^ 16 → HeadFits n (length p) (length q)
    head_fits process argument =
        let f = accepted_fits (given n p q) process argument formed in
        record { call = f.call; path1 = f.path1; path2 = f.path2; zeros = f.zeros }

    pub full_packs : (d : List ℕ) → length d < 7 + length p + length q → Packs (given n p q) d (Err 18) d
    unfolding record_length
    full_packs d h = packs_no_room (given n p q) d formed h

    pub record_packs : (d after : List ℕ) → 7 + length p + length q ≤ length d
        → after ≡ write (given n p q) ++ drop (7 + length p + length q) d → Packs (given n p q) d (Ok (7 + length p + length q)) after
    unfolding record_length
    record_packs d after room e = packs_written (given n p q) d formed room after e
