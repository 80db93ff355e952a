-- What is found at a place, on tables whose rules for entries and nodes hold: an absence has no entry there, and a node has just one.
-- Assumes nothing.
use mathlib.Core.Path.{◌≡◌, refl, ap}
use mathlib.Core.Bool.{true, false, true≢false}
use mathlib.Core.Logic.{◌≢◌, ◌⊎◌, inl, inr}
use mathlib.Core.List.{List}
use borrow.Author.Tests.{ne_eqb}
use Rattle.model.specs.Lists.{any, find}
use Rattle.model.specs.Tables.{Place, Entry, Node, no_entry, free_entry, free_node, node_at, at, lookup}
use Rattle.model.specs.Sound.{same_entry}
use Rattle.laws.proofs.Bools.{true_or_false, is_false}
use Rattle.laws.proofs.Members.{◌∈◌, in_any, find_in}
use Rattle.laws.proofs.Places.{same_place_self, same_place_equal}
use Rattle.laws.proofs.Rules.{find_only}
use Rattle.laws.proofs.Searches.{find_missing}
use Rattle.invariants.proofs.Soundness.{Tree}

pub at_place : (q : Place) (e : Entry) → at q e ≡ true → e.place ≡ q
unfolding at
at_place q e h = same_place_equal e.place q h

pub at_used : (q : Place) → q.directory ≢ 0 → (e : Entry) → at q e ≡ true → free_entry e ≡ false
unfolding free_entry
at_used q nz e h = rw (at_place q e h) (ne_eqb q.directory 0 nz)

pub at_alike : (q : Place) (a b : Entry) → at q a ≡ true → at q b ≡ true → same_entry a b ≡ true
unfolding same_entry
at_alike q a b h i = rw (at_place q a h, at_place q b i) (same_place_self q)

-- the entry that leads from a place
pub record LeadsFrom (entries : List Entry) (q : Place) (e : Entry) : Type 0 where
  pub listed : e ∈ entries
  pub there : at q e ≡ true
  pub node : e.node ≡ lookup entries q

pub entry_at : (entries : List Entry) (q : Place) → lookup entries q ≢ 0 → (e : Entry) × LeadsFrom entries q e
unfolding lookup
entry_at entries q nz = go (true_or_false (any (at q) entries))
  where
    go : (any (at q) entries ≡ true) ⊎ (any (at q) entries ≡ false) → (e : Entry) × LeadsFrom entries q e
    go (inl h) =
        let found = find_in (at q) no_entry entries h in
        (find (at q) no_entry entries, record { listed = found.0; there = found.1; node = refl })
    go (inr h) = absurd (nz (ap (λ (e : Entry). e.node) (find_missing (at q) no_entry entries h)))

module _ (entries : List Entry) (nodes : List Node) (tree : Tree entries nodes) (q : Place) (in_directory : q.directory ≢ 0) where
  -- where nothing is found, no entry is
  pub no_entry_at : lookup entries q ≡ 0 → (e : Entry) → e ∈ entries → at q e ≡ false
  unfolding lookup free_node node_at
  no_entry_at z e m = is_false (at q e) (λ h. go (find_in (at q) no_entry entries (in_any (at q) m h)))
    where
      go : (find (at q) no_entry entries ∈ entries) × (at q (find (at q) no_entry entries) ≡ true) → ⊥
      go found =
          let used = tree.leads (find (at q) no_entry entries) found.0 (at_used q in_directory _ found.1) in
          true≢false (rw z at used)

  -- every entry there leads to the node found
  pub lookup_only : (e : Entry) → e ∈ entries → at q e ≡ true → lookup entries q ≡ e.node
  unfolding lookup
  lookup_only e m h =
      ap (λ (x : Entry). x.node)
      (find_only free_entry same_entry (at q) no_entry (at_used q in_directory) (at_alike q) entries e tree.distinct_entries m h)

  -- the node found is used
  pub lookup_used : lookup entries q ≢ 0 → free_node (node_at nodes (lookup entries q)) ≡ false
  lookup_used nz =
      let found = entry_at entries q nz in
      let e = found.0 in
      rw (← found.1.node) (tree.leads e found.1.listed (at_used q in_directory e found.1.there))
