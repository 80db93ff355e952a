-- Fork's copies, added while the rows are read: a copy goes to a free row and is the child's, so the parent's rows that are still to be read
-- stay as they were. Assumes nothing.
use mathlib.Core.Path.{◌≡◌, refl, sym, ap, subst, ◌∙◌}
use mathlib.Core.Bool.{Bool, true, false}
use mathlib.Core.Logic.{◌≢◌}
use mathlib.Core.List.{List, map}
use Prim.Native.Nat.{ℕ, ◌+◌, ◌≤◌, ◌<◌}
use native.Mathlib.Omega.{arith}
use borrow.Author.Tests.{eq-eqb, ne_eqb, eqb-true}
use lib.Dec.{eqb}
use lib.ListN.{length, get_or, drop, length-map, drop_of_length-le}
use Rattle.model.specs.Lists.{count, keep, put, put_all}
use Rattle.model.specs.Tables.{Tables, Hold, hold_rows, no_hold, free_hold, with_holds}
use Rattle.model.specs.Words.{unpack}
use Rattle.model.specs.Holds.{of_process, add_holds, copy_for, copies}
use Rattle.laws.proofs.Each.{Each, each_weaker}
use Rattle.laws.proofs.Kept.{keep_passing, keep_failing, length_keep, keep_drop_put}
use Rattle.laws.proofs.Loops.{rest_at}
use Rattle.laws.proofs.Words.{unpacked_fits, name_back as name_comes_back}
use Rattle.rows.specs.declared.Block.{Block}
use Rattle.rows.specs.declared.HoldRow.{HoldRow}
use Rattle.rows.specs.Blocks.{Named, name_of, block_of, place_of}
use Rattle.rows.specs.Rows.{hold_of}
use Rattle.rows.specs.Stands.{Stands, Becomes, hold_row}
use Rattle.rows.proofs.Blocks.{name_back, block_named}
use Rattle.rows.proofs.Fields.{hold_row_fits}
use Rattle.rows.proofs.Parts.{holds_full}
use Rattle.edits.proofs.Written.{good_hold}
use Rattle.plans.specs.Plans.{Fine, wanted_row, copied_at}
use Rattle.holds.proofs.Towards.{Towards, begin, go_on, arrive}

pub copies_count : (parent child : ℕ) (holds : List Hold) → length (copies parent child holds) ≡ count (of_process parent) holds
unfolding copies
copies_count parent child holds = length-map (keep (of_process parent) holds) (copy_for child) ∙ length_keep (of_process parent) holds

-- ONE ROW

module _ (w : List ℕ) (row child : ℕ) {d r : ℕ} {n : Block} {h : HoldRow} (a : d ≡ (hold_row w row).place.directory)
    (b : n ≡ block_of (hold_row w row).place.name) (c : r ≡ (hold_row w row).role) (built : h ≡ wanted_row child r (record { directory = d; name = n })) where
  copy_is : hold_of h ≡ copy_for child (hold_row w row)
  unfolding hold_of place_of copy_for
  copy_is =
      let m : name_of n ≡ (hold_row w row).place.name
      = ap name_of b ∙ name_back (hold_row w row).place.name (name_comes_back (hold_row_fits w row).name) in
      ap hold_of built ∙ (λ i. record { place = record { directory = a i; name = m i }; process = child; role = c i })

  module _ {p parent : ℕ} (e : p ≡ (hold_row w row).process) (q : p ≡ parent) where
    pub copy_fine : 1 ≤ parent → child < 65536 → Fine h
    copy_fine l small =
        let f = hold_row_fits w row in
        let named : Named n = rw b (block_named (hold_row w row).place.name (name_comes_back f.name)) in
        let role : r < 4 = rw c f.role in
        let below : d < 65536 = rw a f.directory in
        let used : 1 ≤ d = nonzero (λ z. let k : (hold_row w row).process ≡ 0 = ap (λ (x : Hold). x.process) (f.free (sym a ∙ z)) in omega arith) in
        let good = good_hold (wanted_row child r (record { directory = d; name = n })) used below small role named in
        subst Fine (sym built) (record { good = good; name = named; role = role })
      where
        nonzero : (d ≡ 0 → ⊥) → 1 ≤ d
        nonzero n = omega arith

    pub row_copied : {v : List ℕ} → Becomes v (with_holds (unpack w) (put free_hold (hold_of h) (unpack w).holds))
        → Becomes v (with_holds (unpack w) (copied_at parent child row (unpack w).holds))
    unfolding copied_at of_process
    row_copied g =
        let k : eqb (hold_row w row).process parent ≡ true = eq-eqb (hold_row w row).process parent (sym e ∙ q) in
        let s : put free_hold (copy_for child (hold_row w row)) (unpack w).holds ≡ copied_at parent child row (unpack w).holds = simp (k, copied_at) in
        record { stands = g.stands; tables = g.tables ∙ ap (with_holds (unpack w)) (ap (λ x. put free_hold x (unpack w).holds) copy_is ∙ s) }

pub row_passed : (w : List ℕ) → Stands w → (row parent child : ℕ) {p : ℕ} → p ≡ (hold_row w row).process → (p ≡ parent → ⊥)
    → Becomes w (with_holds (unpack w) (copied_at parent child row (unpack w).holds))
unfolding copied_at of_process
row_passed w s row parent child e n =
    let k : eqb (hold_row w row).process parent ≡ false = ne_eqb (hold_row w row).process parent (λ q. n (e ∙ q)) in
    let x : (unpack w).holds ≡ copied_at parent child row (unpack w).holds = simp (k, copied_at) in
    record { stands = s; tables = ap (with_holds (unpack w)) x }

-- ALL OF THEM

copied_step : (parent child : ℕ) → parent ≢ child → (i : ℕ) (holds : List Hold) → i < length holds
    → Each (λ x. free_hold x ≡ true → of_process parent x ≡ false) holds
    → put_all free_hold (map (copy_for child) (keep (of_process parent) (drop (i + 1) (copied_at parent child i holds)))) (copied_at parent child i holds)
    ≡ put_all free_hold (map (copy_for child) (keep (of_process parent) (drop i holds))) holds
unfolding copied_at put_all of_process copy_for
copied_step parent child apart i holds l free = go (of_process parent (get_or holds i no_hold)) refl
  where
    childs : of_process parent (copy_for child (get_or holds i no_hold)) ≡ false
    childs = ne_eqb child parent (λ q. apart (sym q))

    go : (b : Bool) → of_process parent (get_or holds i no_hold) ≡ b
        → put_all free_hold
        (map (copy_for child) (keep (of_process parent) (drop (i + 1) (elim b as (λ _. List Hold) [ true ↦ put free_hold (copy_for child (get_or holds i no_hold)) holds | false ↦ holds ]))))
        (elim b as (λ _. List Hold) [ true ↦ put free_hold (copy_for child (get_or holds i no_hold)) holds | false ↦ holds ])
        ≡ put_all free_hold (map (copy_for child) (keep (of_process parent) (drop i holds))) holds
    go true e =
        ap (λ m. put_all free_hold (map (copy_for child) m) (put free_hold (copy_for child (get_or holds i no_hold)) holds))
        (keep_drop_put (of_process parent) free_hold (copy_for child (get_or holds i no_hold)) childs (i + 1) holds free)
        ∙ sym
        (ap (λ m. put_all free_hold (map (copy_for child) m) holds)
        (ap (keep (of_process parent)) (rest_at no_hold holds i l) ∙ keep_passing (of_process parent) (get_or holds i no_hold) (drop (i + 1) holds) e))
    go false e =
        sym
        (ap (λ m. put_all free_hold (map (copy_for child) m) holds)
        (ap (keep (of_process parent)) (rest_at no_hold holds i l) ∙ keep_failing (of_process parent) (get_or holds i no_hold) (drop (i + 1) holds) e))

abbrev pub copying : ℕ → ℕ → ℕ → Tables → Tables
copying parent child i t =
    with_holds t (put_all free_hold (map (copy_for child) (keep (of_process parent) (drop i t.holds))) t.holds)

-- the copies left from row i on give what all of them give
abbrev pub LeftToCopy : ℕ → ℕ → List ℕ → ℕ → List ℕ → Type 0
LeftToCopy parent child w i v =
    Towards (copying parent child) (with_holds (unpack w) (add_holds (copies parent child (unpack w).holds) (unpack w).holds)) i v

module _ (parent child : ℕ) where
  pub copy_begin : {w : List ℕ} → Stands w → LeftToCopy parent child w 0 w
  unfolding add_holds copies
  copy_begin s = begin (copying parent child) s refl

  pub copy_end : (i : ℕ) {t : Tables} {v : List ℕ} → hold_rows ≤ i → Towards (copying parent child) t i v → Becomes v t
  unfolding put_all keep
  copy_end i {v = v} h a =
      arrive (copying parent child) i a
      (ap (λ l. with_holds (unpack v) (put_all free_hold (map (copy_for child) (keep (of_process parent) l)) (unpack v).holds))
      (drop_of_length-le (unpack v).holds {i = i} (omega (arith, holds_full v))))

  module _ (h : 1 ≤ parent) (apart : parent ≢ child) where
    -- no free row is the parent's
    free_of_none : (v : List ℕ) → Each (λ x. free_hold x ≡ true → of_process parent x ≡ false) (unpack v).holds
    unfolding free_hold of_process
    free_of_none v =
        each_weaker
        (λ x f e. ne_eqb x.process parent
        (λ q. let z : x.process ≡ 0 = ap (λ (y : Hold). y.process) (f.free (eqb-true x.place.directory 0 e)) in omega arith))
        (unpacked_fits v).holds_fit

    pub copy_on : (i : ℕ) {t : Tables} {v u : List ℕ} → i < hold_rows → Towards (copying parent child) t i v
        → Becomes u (with_holds (unpack v) (copied_at parent child i (unpack v).holds)) → Towards (copying parent child) t (i + 1) u
    copy_on i {v = v} l a b =
        go_on (copying parent child) i a b
        (ap (with_holds (unpack v)) (copied_step parent child apart i (unpack v).holds (omega (arith, holds_full v)) (free_of_none v)))
