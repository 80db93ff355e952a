-- Entries by their chains: what the code needs while it builds the index, and what a lookup finds by it. Assumes nothing.
use mathlib.Core.Path.{◌≡◌, refl, sym, ap, ap₂, ◌∙◌}
use mathlib.Core.Bool.{Bool, true, false, not}
use mathlib.Core.List.{List}
use Prim.Native.Nat.{ℕ, zero, suc, ◌+◌, ◌-◌, ◌≤◌, ◌<◌}
use native.Mathlib.Omega.{arith}
use borrow.Author.Tests.{eq-eqb, ne_eqb}
use lib.Dec.{eqb}
use lib.ListN.{get_or}
use Rattle.model.specs.Tables.{Place, Entry, no_entry, free_entry, at, lookup, entry_rows}
use Rattle.model.specs.Sound.{same_entry, entries_distinct}
use Rattle.model.specs.Words.{unpack}
use Rattle.laws.proofs.Distinct.{none_by_place}
use Rattle.laws.proofs.Members.{at_in}
use Rattle.laws.proofs.Places.{same_place_self, same_place_equal, same_place_directory}
use Rattle.laws.proofs.Rules.{find_only}
use Rattle.laws.proofs.Searches.{find_missing}
use Rattle.rows.specs.declared.Block.{Block}
use Rattle.rows.specs.Blocks.{Named, block_of, place_of, name_of}
use Rattle.rows.specs.Stands.{Stands, entry_row}
use Rattle.rows.proofs.Fields.{entry_row_fits}
use Rattle.rows.proofs.Parts.{entries_full}
use Rattle.index.specs.Buckets.{last_below, no_links, with_row, Chained, Asked, Last}
use Rattle.index.specs.Indexed.{entry_buckets, Index, place_bucket, entry_chains, row_at, row_found, node_in, Indexed}
use Rattle.index.proofs.Apart.{Comparable, ApartChained, apart_starts, apart_past, apart_more, apart_twice, apart_ends, all_chained}
use Rattle.index.proofs.Buckets.{last_within, last_passes, none_below}
use Rattle.index.proofs.Descents.{bucket_chain, bucket_asked, last_passing}
use Rattle.index.proofs.Places.{block_names, place_again}

-- ONE ROW

pub row_named : (w : List ℕ) (k : ℕ) {b : Block} → b ≡ block_of (entry_row w k).place.name → Named b
row_named w k e = block_names (entry_row w k).place (entry_row_fits w k).name e

-- a row with no directory is free
without_directory : (x : Entry) → x.place.directory ≡ 0 → free_entry x ≡ true
unfolding free_entry
without_directory x z = eq-eqb x.place.directory 0 z

with_directory : (x : Entry) → (x.place.directory ≡ 0 → ⊥) → free_entry x ≡ false
unfolding free_entry
with_directory x n = ne_eqb x.place.directory 0 n

-- a block of a name is the name's
pub block_back : (b : Block) → Named b → block_of (name_of b) ≡ b
unfolding Named block_of
block_back b n =
    λ i. record {
      first = get_or (n i) 0 0;
      second = get_or (n i) 1 0;
      third = get_or (n i) 2 0;
      fourth = get_or (n i) 3 0;
    }

-- only rows of the place's bucket are at the place
into_bucket : (d : ℕ) (b : Block) → Named b → (d ≡ 0 → ⊥) → (x : Entry) → at (place_of d b) x ≡ true
    → (not (free_entry x) ≡ true) × (place_bucket x.place.directory (block_of x.place.name) ≡ place_bucket d b)
unfolding at place_of
into_bucket d b n u x p =
    let e : x.place ≡ place_of d b = same_place_equal x.place (place_of d b) p in
    let f : block_of x.place.name ≡ b = ap (λ (q : Place). block_of q.name) e ∙ block_back b n in
    let g : x.place.directory ≡ d = ap (λ (q : Place). q.directory) e in
    (ap not (with_directory x (λ z. u (sym g ∙ z))), ap₂ place_bucket g f)

-- the chain of a place, with the rows below i, begins at its bucket's head
module _ (w : List ℕ) {heads next : List ℕ} {i : ℕ} (c : Chained (entry_chains (unpack w).entries) heads next i) {h : ℕ} (s : h < entry_buckets) where
  -- whether a row is at a place may be asked of each
  pub entry_asked : {may : ℕ → Type 0} → ((k : ℕ) → k < entry_rows → may k) → Asked may next (get_or heads h 0)
  entry_asked f = bucket_asked _ _ (bucket_chain c s) (λ k l _. f k (omega (arith, c.inside)))

  -- and its answers find the last
  pub entry_last : (d : ℕ) (b : Block) → Named b → (d ≡ 0 → ⊥) → h ≡ place_bucket d b → {says : ℕ → Bool → Type 0} {found : ℕ}
      → Last says next (get_or heads h 0) found → ((k : ℕ) (answer : Bool) → says k answer → answer ≡ row_at w (place_of d b) k)
      → found ≡ last_below (row_at w (place_of d b)) i
  entry_last d b n u e f told =
      last_passing _ _ (bucket_chain c s) f (at (place_of d b)) (λ k answer _ _ a. told k answer a)
      (λ x p. let its = into_bucket d b n u x p in (its.0, its.1 ∙ sym e))

-- THE INDEX IS BUILT

comparable : (w : List ℕ) → Comparable (entry_chains (unpack w).entries) free_entry same_entry
unfolding same_entry free_entry
comparable w =
    record {
      full = entries_full w;
      used = λ x. refl;
      together = λ x y same. ap (λ n. eqb n 0) (same_place_directory x.place y.place same);
    }

-- what holds before row i is looked at
abbrev pub Building : List ℕ → Index → ℕ → Type 0
Building w x i = ApartChained (entry_chains (unpack w).entries) free_entry same_entry x.heads x.next i

module _ (w : List ℕ) {x : Index} where
  pub building_starts : x ≡ no_links → Building w x 0
  building_starts e = apart_starts (comparable w) (ap (λ (x : Index). x.heads) e) (ap (λ (x : Index). x.next) e)

  module _ {i : ℕ} (g : Building w x i) (r : i < entry_rows) {d : ℕ} (e : d ≡ (entry_row w i).place.directory) where
    -- a free row is like none before it
    pub building_past : d ≡ 0 → Building w x (i + 1)
    building_past z = apart_past (comparable w) g r (without_directory (entry_row w i) (sym e ∙ z))

    module _ (used : d ≡ 0 → ⊥) {b : Block} (f : b ≡ block_of (entry_row w i).place.name) {l : ℕ}
        (last : l ≡ last_below (row_at w (place_of d b)) i) where
      same_last : l ≡ last_below (λ k. same_entry (entry_row w k) (entry_row w i)) i
      unfolding same_entry at
      same_last = last ∙ ap (λ q. last_below (row_at w q) i) (place_again (entry_row w i).place (entry_row_fits w i).name f e)

      this_used : free_entry (entry_row w i) ≡ false
      this_used = with_directory (entry_row w i) (λ z. used (e ∙ z))

      -- a used row that none before it is like
      pub building_more : l ≡ 0 → {h : ℕ} → h ≡ place_bucket d b → h < entry_buckets
          → Building w (with_row x h i) (i + 1)
      building_more z p s = apart_more (comparable w) g r this_used same_last z (p ∙ ap₂ place_bucket e f) s

      -- a used row that one before it is like
      pub building_twice : (l ≡ 0 → ⊥) → false ≡ entries_distinct (unpack w)
      unfolding entries_distinct
      building_twice = apart_twice (comparable w) g r this_used same_last

  pub building_ends : {i : ℕ} → Stands w → Building w x i → entry_rows ≤ i
      → (true ≡ entries_distinct (unpack w)) × (◌≡◌ {A = Bool} true true → Indexed w x)
  unfolding entries_distinct
  building_ends s g h =
      let d = apart_ends (comparable w) g h in
      (d, λ _. record { stands = s; chained = all_chained (comparable w) g h; distinct = sym d })

-- A LOOKUP BY IT

-- the row that is found is one of the table's
pub found_within : (w : List ℕ) (q : Place) → row_found w q ≤ entry_rows
unfolding row_found
found_within w q = last_within (row_at w q) entry_rows

pub found_last : (w : List ℕ) (q : Place) {l : ℕ} → l ≡ last_below (row_at w q) entry_rows → l ≤ entry_rows
found_last w q e = rw e (last_within (row_at w q) entry_rows)

-- and has the place
pub found_place : (w : List ℕ) (q : Place) {row : ℕ} → row_found w q ≡ suc row → (entry_row w row).place ≡ q
unfolding row_found at
found_place w q {row} e =
    let here : row_found w q - 1 ≡ row = omega arith in
    same_place_equal (entry_row w row).place q (rw here at (last_passes (row_at w q) entry_rows (λ z. omega arith)))

-- none is found where the place is absent
pub found_none : (w : List ℕ) (q : Place) → row_found w q ≡ 0 → 0 ≡ lookup (unpack w).entries q
unfolding row_found lookup
found_none w q e =
    sym (ap (λ (x : Entry). x.node) (find_missing (at q) no_entry (unpack w).entries
    (none_by_place (at q) no_entry (unpack w).entries (λ k h. none_below (row_at w q) entry_rows e k (omega (arith, entries_full w))))))

-- the entry that is found is the only one there
found_only : (w : List ℕ) (q : Place) {row : ℕ} → (q.directory ≡ 0 → ⊥) → entries_distinct (unpack w) ≡ true → row_found w q ≡ suc row
    → (entry_row w row).node ≡ lookup (unpack w).entries q
unfolding lookup entries_distinct at same_entry
found_only w q {row} u D e =
    let t : at q (entry_row w row) ≡ true = rw (found_place w q e) (same_place_self q) in
    ap (λ (x : Entry). x.node) (sym (find_only free_entry same_entry (at q) no_entry
    (λ x h. with_directory x (λ y. u (sym (same_place_directory x.place q h) ∙ y)))
    (λ x y h k. rw (same_place_equal x.place q h, same_place_equal y.place q k) (same_place_self q))
    (unpack w).entries (entry_row w row) D (at_in (unpack w).entries row no_entry (omega (arith, found_within w q, entries_full w))) t))

pub node_found_there : (w : List ℕ) (q : Place) → (q.directory ≡ 0 → ⊥) → entries_distinct (unpack w) ≡ true
    → node_in w (row_found w q) ≡ lookup (unpack w).entries q
unfolding node_in
node_found_there w q u D = go (row_found w q) refl
  where
    go : (found : ℕ) → row_found w q ≡ found → node_in w found ≡ lookup (unpack w).entries q
    go zero e = found_none w q e
    go (suc row) e = found_only w q u D e
