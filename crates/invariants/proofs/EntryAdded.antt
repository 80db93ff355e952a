-- The rules for entries and nodes, kept where a new entry is made that leads to a node, and that node is set to what it now is.
-- Assumes nothing.
use mathlib.Core.Path.{◌≡◌, sym, ap, ◌∙◌}
use mathlib.Core.Bool.{true, false}
use mathlib.Core.Logic.{◌≢◌, ◌⊎◌, inl, inr}
use mathlib.Core.List.{List}
use Prim.Native.Nat.{ℕ, ◌+◌, ◌≤◌}
use native.Mathlib.Omega.{arith}
use borrow.Author.Tests.{eq-eqb, ne_eqb}
use lib.Dec.{eqb}
use lib.ListN.{length}
use Rattle.model.specs.Lists.{any, put}
use Rattle.model.specs.Paths.{valid_name}
use Rattle.model.specs.Tables.{Place, Entry, Node, free_entry, free_node, same_place, node_at, is_directory, at, lookup}
use Rattle.model.specs.Sound.{same_entry, leading_to, count_fits, target_fits}
use Rattle.model.specs.Calls.{set_node}
use Rattle.laws.proofs.Bools.{clash, is_false}
use Rattle.laws.proofs.Members.{◌∈◌, from_put}
use Rattle.laws.proofs.Rules.{one_if, distinct_put, count_put}
use Rattle.invariants.proofs.Rows.{equal_or_not, used_in_range, node_set, node_set_other, from_set_node, same_entry_turned, same_place_turned}
use Rattle.invariants.proofs.Soundness.{Tree}
use Rattle.invariants.proofs.Walks.{directory_not_zero}
use Rattle.invariants.proofs.Lookups.{no_entry_at}

-- free entries lead nowhere
abbrev pub FreeEntriesBlank : List Entry → Type 0
FreeEntriesBlank entries = (e : Entry) → e ∈ entries → free_entry e ≡ true → e.node ≡ 0

-- a new entry may be made at place q that leads to node n, which then is x
pub record RoomFor (entries : List Entry) (nodes : List Node) (q : Place) (n : ℕ) (x : Node) : Type 0 where
  pub blank : FreeEntriesBlank entries
  pub row : any free_entry entries ≡ true
  pub in_directory : is_directory nodes q.directory ≡ true
  pub named : valid_name q.name ≡ true
  pub absence : lookup entries q ≡ 0
  pub number : n ≢ 0
  pub not_top : n ≢ 1
  pub in_range : n ≤ length nodes
  pub no_directory : is_directory nodes n ≡ false
  pub used : free_node x ≡ false
  pub counted : x.count ≡ leading_to entries n + 1
  pub count_right : count_fits n x ≡ true
  pub target_right : target_fits x ≡ true

module _ (entries : List Entry) (nodes : List Node) (tree : Tree entries nodes) (q : Place) (n : ℕ) (x : Node)
    (room : RoomFor entries nodes q n x) where
  new_entry : Entry
  new_entry = record { place = q; node = n }

  node_there : node_at (set_node n x nodes) n ≡ x
  node_there = node_set nodes n x room.number room.in_range

  -- directories stay directories, and used nodes used
  pub still_directory : (d : ℕ) → is_directory nodes d ≡ true → is_directory (set_node n x nodes) d ≡ true
  unfolding is_directory
  still_directory d h = rw (node_set_other nodes n x d (λ e. clash h (rw e room.no_directory))) h

  still_used : (m : ℕ) → free_node (node_at nodes m) ≡ false → free_node (node_at (set_node n x nodes) m) ≡ false
  still_used m h = go (equal_or_not m n)
    where
      go : (m ≡ n) ⊎ (m ≢ n) → free_node (node_at (set_node n x nodes) m) ≡ false
      go (inl e) = rw (e, node_there) room.used
      go (inr d) = rw (node_set_other nodes n x m d) h

  leading_more : (m : ℕ) → m ≢ 0 → leading_to (put free_entry new_entry entries) m ≡ one_if (eqb n m) + leading_to entries m
  unfolding leading_to new_entry
  leading_more m nz =
      count_put (λ e. eqb e.node m) free_entry (record { place = q; node = n }) entries
      (λ e i free. rw (room.blank e i free) (ne_eqb 0 m (λ z. nz (sym z)))) room.row

  counted_more : (m : ℕ) → free_node (node_at (set_node n x nodes) m) ≡ false →
      (node_at (set_node n x nodes) m).count ≡ leading_to (put free_entry new_entry entries) m
  counted_more m used = leading_more_at (equal_or_not m n)
    where
      more : leading_to (put free_entry new_entry entries) m ≡ one_if (eqb n m) + leading_to entries m
      more = leading_more m (used_in_range (set_node n x nodes) m used).0

      leading_more_at : (m ≡ n) ⊎ (m ≢ n) → (node_at (set_node n x nodes) m).count ≡ leading_to (put free_entry new_entry entries) m
      leading_more_at (inl e) =
          let one : leading_to (put free_entry new_entry entries) m ≡ 1 + leading_to entries m = rw (eq-eqb n m (sym e)) at more in
          let here : (node_at (set_node n x nodes) m).count ≡ leading_to entries m + 1 = rw (e, node_there) room.counted in
          here ∙ omega arith
      leading_more_at (inr d) =
          let other = ne_eqb n m (λ e. d (sym e)) in
          let none : leading_to (put free_entry new_entry entries) m ≡ 0 + leading_to entries m = rw other at more in
          let same : node_at (set_node n x nodes) m ≡ node_at nodes m = node_set_other nodes n x m d in
          ap (λ (y : Node). y.count) same ∙ tree.counted m (rw same at used) ∙ omega arith

  pub tree_more : Tree (put free_entry (record { place = q; node = n }) entries) (set_node n x nodes)
  unfolding new_entry same_entry at
  tree_more =
      record {
        distinct_entries =
            distinct_put free_entry same_entry same_entry_turned new_entry entries
            (λ e m. is_false (same_place q e.place) (λ h. clash (same_place_turned q e.place h) (gap e m))) tree.distinct_entries;
        in_directory = λ e m used. directory e used (from_put free_entry new_entry entries m);
        leads = λ e m used. leads e used (from_put free_entry new_entry entries m);
        named = λ e m used. named e used (from_put free_entry new_entry entries m);
        counted = counted_more;
        count_right = λ m used. fits m used (equal_or_not m n);
        target_right = λ y m used. target y used (from_set_node nodes n x m);
        top = still_directory 1 tree.top;
        top_count = ap (λ (y : Node). y.count) (node_set_other nodes n x 1 (λ e. room.not_top (sym e))) ∙ tree.top_count;
      }
    where
      gap : (e : Entry) → e ∈ entries → at q e ≡ false
      gap = no_entry_at entries nodes tree q (directory_not_zero nodes q.directory room.in_directory) room.absence

      directory : (e : Entry) → free_entry e ≡ false → (e ≡ new_entry) ⊎ (e ∈ entries) →
          is_directory (set_node n x nodes) e.place.directory ≡ true
      directory e used (inl i) = rw i (still_directory q.directory room.in_directory)
      directory e used (inr m) = still_directory e.place.directory (tree.in_directory e m used)

      leads : (e : Entry) → free_entry e ≡ false → (e ≡ new_entry) ⊎ (e ∈ entries) →
          free_node (node_at (set_node n x nodes) e.node) ≡ false
      leads e used (inl i) = rw (i, node_there) room.used
      leads e used (inr m) = still_used e.node (tree.leads e m used)

      named : (e : Entry) → free_entry e ≡ false → (e ≡ new_entry) ⊎ (e ∈ entries) → valid_name e.place.name ≡ true
      named e used (inl i) = rw i room.named
      named e used (inr m) = tree.named e m used

      fits : (m : ℕ) → free_node (node_at (set_node n x nodes) m) ≡ false → (m ≡ n) ⊎ (m ≢ n) →
          count_fits m (node_at (set_node n x nodes) m) ≡ true
      fits m used (inl e) = rw (e, node_there) room.count_right
      fits m used (inr d) =
          let same : node_at (set_node n x nodes) m ≡ node_at nodes m = node_set_other nodes n x m d in
          rw same (tree.count_right m (rw same at used))

      target : (y : Node) → free_node y ≡ false → (y ≡ x) ⊎ (y ∈ nodes) → target_fits y ≡ true
      target y used (inl i) = rw i room.target_right
      target y used (inr m) = tree.target_right y m used
