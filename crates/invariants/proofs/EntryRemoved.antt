-- The rules for entries and nodes, kept where the entry at a place is removed and one entry less leads to its node. Assumes nothing.
use mathlib.Core.Path.{◌≡◌, refl, sym, ap, ◌∙◌}
use mathlib.Core.Bool.{Bool, true, false, ◌&&◌, true≢false}
use mathlib.Core.Logic.{◌≢◌, ◌⊎◌, inl, inr}
use mathlib.Core.List.{List}
use Prim.Native.Nat.{ℕ, ◌+◌, ◌-◌}
use native.Mathlib.Omega.{arith}
use borrow.Author.Tests.{eqb-true, eqb-false, eq-eqb, ne_eqb, leb-true, le-leb}
use lib.Dec.{eqb, leb}
use Rattle.model.specs.Lists.{clear}
use Rattle.model.specs.Tables.{Place, Entry, Node, a_directory, no_entry, no_node, free_entry, free_node, node_at, is_directory, at, lookup}
use Rattle.model.specs.Sound.{same_entry, leading_to, count_fits, target_fits}
use Rattle.model.specs.Calls.{set_node, one_less}
use Rattle.laws.proofs.Bools.{both, and_left, and_right, is_false}
use Rattle.laws.proofs.Members.{◌∈◌, from_clear}
use Rattle.laws.proofs.Rules.{distinct_clear, count_none, count_some, count_clear, count_alone}
use Rattle.invariants.proofs.Rows.{equal_or_not, used_in_range, node_in, node_set, node_set_other, from_set_node, like_no_entry}
use Rattle.invariants.proofs.Soundness.{Tree}
use Rattle.invariants.proofs.Lookups.{at_used, at_alike, entry_at, lookup_only, lookup_used}

-- the entry at place q may be removed: it leads to a node other than 1, in which no entry is
pub record Removable (entries : List Entry) (nodes : List Node) (q : Place) (n : ℕ) : Type 0 where
  pub in_directory : q.directory ≢ 0
  pub found : lookup entries q ≡ n
  pub there : n ≢ 0
  pub not_top : n ≢ 1
  pub nothing_inside : (e : Entry) → e ∈ entries → e.place.directory ≢ n

-- one entry less leads to a node: it is cleared, or its kind and target are as they were
pub data Less (x : Node) : Type 0 where
  cleared : x.count ≡ 1 → one_less x ≡ no_node → Less x
  kept : x.count ≢ 1 → one_less x ≡ record { kind = x.kind; count = x.count - 1; target = x.target } → Less x

pub less_cases : (x : Node) → Less x
unfolding one_less
less_cases x = go (eqb x.count 1) refl
  where
    go : (b : Bool) → eqb x.count 1 ≡ b → Less x
    go true e = cleared (eqb-true x.count 1 e) (simp (e, one_less))
    go false e = kept (eqb-false x.count 1 e) (simp (e, one_less))

-- a node other than 1 that two entries or more lead to fits with one less
fits_with_less : (n : ℕ) (x : Node) → n ≢ 1 → count_fits n x ≡ true → x.count ≢ 1 →
    count_fits n (record { kind = x.kind; count = x.count - 1; target = x.target }) ≡ true
unfolding count_fits
fits_with_less n x not_top fits many = rw (ne_eqb n 1 not_top) (go (eqb x.kind a_directory) (rw (ne_eqb n 1 not_top) at fits))
  where
    go : (b : Bool) → elim b as (λ _. Bool) [ true ↦ eqb x.count 1 | false ↦ leb 1 x.count ] ≡ true →
        elim b as (λ _. Bool) [ true ↦ eqb (x.count - 1) 1 | false ↦ leb 1 (x.count - 1) ] ≡ true
    go true e = absurd (many (eqb-true x.count 1 e))
    go false e = let l = leb-true 1 x.count e in le-leb 1 (x.count - 1) (omega arith)

module _ (entries : List Entry) (nodes : List Node) (tree : Tree entries nodes) (q : Place) (n : ℕ)
    (gone : Removable entries nodes q n) where
  left : List Entry
  left = clear (at q) no_entry entries

  nodes_left : List Node
  nodes_left = set_node n (one_less (node_at nodes n)) nodes

  found_there : lookup entries q ≢ 0
  found_there e = gone.there (sym gone.found ∙ e)

  node_used : free_node (node_at nodes n) ≡ false
  node_used = rw gone.found at (lookup_used entries nodes tree q gone.in_directory found_there)

  -- a used entry that is left was there, and is at another place
  from_left : (e : Entry) → e ∈ left → free_entry e ≡ false → (e ∈ entries) × (at q e ≡ false)
  unfolding left free_entry
  from_left e m used = go (from_clear (at q) no_entry entries m)
    where
      go : (e ≡ no_entry) ⊎ ((e ∈ entries) × (at q e ≡ false)) → (e ∈ entries) × (at q e ≡ false)
      go (inl i) = absurd (true≢false (rw i at used))
      go (inr i) = i

  -- just one entry that leads to n is removed, and none that leads elsewhere
  leading_less : leading_to left n + 1 ≡ leading_to entries n
  unfolding leading_to left
  leading_less =
      let e = entry_at entries q found_there in
      let m : Entry → Bool = λ x. at q x && eqb x.node n in
      let some : m e.0 ≡ true = both e.1.there (eq-eqb _ _ (e.1.node ∙ gone.found)) in
      let least = count_some m entries e.1.listed some in
      let most =
      count_alone free_entry same_entry m (λ x h. at_used q gone.in_directory x (and_left _ _ h))
      (λ x y h i. at_alike q x y (and_left _ _ h) (and_left _ _ i)) entries tree.distinct_entries
      in
      let sum = count_clear (λ (x : Entry). eqb x.node n) (at q) no_entry (ne_eqb 0 n (λ z. gone.there (sym z))) entries in
      omega arith

  leading_same : (m : ℕ) → m ≢ 0 → m ≢ n → leading_to left m ≡ leading_to entries m
  unfolding leading_to left
  leading_same m nz differ =
      let none =
      count_none (λ (x : Entry). at q x && eqb x.node m) entries
      (λ e i. is_false (at q e && eqb e.node m) (λ h. differ (other e i h)))
      in
      let sum = count_clear (λ (x : Entry). eqb x.node m) (at q) no_entry (ne_eqb 0 m (λ z. nz (sym z))) entries in
      omega arith
    where
      other : (e : Entry) → e ∈ entries → at q e && eqb e.node m ≡ true → m ≡ n
      other e i h =
          sym (eqb-true _ _ (and_right (at q e) _ h)) ∙ sym (lookup_only entries nodes tree q gone.in_directory e i (and_left _ _ h))
          ∙ gone.found

  node_left : node_at nodes_left n ≡ one_less (node_at nodes n)
  unfolding nodes_left
  node_left = let range = used_in_range nodes n node_used in node_set nodes n (one_less (node_at nodes n)) range.0 range.1

  node_other : (m : ℕ) → m ≢ n → node_at nodes_left m ≡ node_at nodes m
  unfolding nodes_left
  node_other m differ = node_set_other nodes n (one_less (node_at nodes n)) m differ

  -- other directories are as before
  pub directory_left : (d : ℕ) → d ≢ n → is_directory nodes d ≡ true → is_directory (set_node n (one_less (node_at nodes n)) nodes) d ≡ true
  unfolding is_directory nodes_left
  directory_left d differ h = rw (node_other d differ) h

  -- a node that an entry still leads to is used
  leads_left : (e : Entry) → e ∈ left → free_entry e ≡ false → free_node (node_at nodes_left e.node) ≡ false
  unfolding free_node leading_to
  leads_left e m used = go (equal_or_not e.node n) (less_cases (node_at nodes n))
    where
      go : (e.node ≡ n) ⊎ (e.node ≢ n) →
          Less (node_at nodes n) →
          free_node (node_at nodes_left e.node) ≡ false
      go (inl i) (cleared one l) =
          let some = count_some (λ (x : Entry). eqb x.node n) left m (eq-eqb e.node n i) in
          let less = leading_less in
          let counted = tree.counted n node_used in
          absurd (omega arith)
      go (inl i) (kept many l) = rw (i, node_left, l) node_used
      go (inr d) c = rw (node_other e.node d) (tree.leads e (from_left e m used).0 used)

  counted_left : (m : ℕ) → free_node (node_at nodes_left m) ≡ false → (node_at nodes_left m).count ≡ leading_to left m
  unfolding free_node
  counted_left m used = go (equal_or_not m n) (less_cases (node_at nodes n))
    where
      go : (m ≡ n) ⊎ (m ≢ n) →
          Less (node_at nodes n) →
          (node_at nodes_left m).count ≡ leading_to left m
      go (inl e) (cleared one l) = absurd (true≢false (rw (e, node_left, l) at used))
      go (inl e) (kept many l) =
          let less = leading_less in
          let counted = tree.counted n node_used in
          let same : (node_at nodes_left m).count ≡ (node_at nodes n).count - 1 = rw (e, node_left, l) in
          same ∙ rw e (omega arith)
      go (inr d) c =
          let same = node_other m d in
          ap (λ (y : Node). y.count) same ∙ tree.counted m (rw same at used)
          ∙ sym (leading_same m (used_in_range nodes_left m used).0 d)

  fits_left : (m : ℕ) → free_node (node_at nodes_left m) ≡ false → count_fits m (node_at nodes_left m) ≡ true
  unfolding free_node
  fits_left m used = go (equal_or_not m n) (less_cases (node_at nodes n))
    where
      go : (m ≡ n) ⊎ (m ≢ n) →
          Less (node_at nodes n) →
          count_fits m (node_at nodes_left m) ≡ true
      go (inl e) (cleared one l) = absurd (true≢false (rw (e, node_left, l) at used))
      go (inl e) (kept many l) =
          rw (e, node_left, l) (fits_with_less n (node_at nodes n) gone.not_top (tree.count_right n node_used) many)
      go (inr d) c = let same = node_other m d in rw same (tree.count_right m (rw same at used))

  target_left : (y : Node) → y ∈ nodes_left → free_node y ≡ false → target_fits y ≡ true
  unfolding nodes_left free_node target_fits
  target_left y m used = go (from_set_node nodes n (one_less (node_at nodes n)) m) (less_cases (node_at nodes n))
    where
      go : (y ≡ one_less (node_at nodes n)) ⊎ (y ∈ nodes) →
          Less (node_at nodes n) →
          target_fits y ≡ true
      go (inl e) (cleared one l) = absurd (true≢false (rw (e, l) at used))
      go (inl e) (kept many l) = rw (e, l) (tree.target_right (node_at nodes n) (node_in nodes n node_used) node_used)
      go (inr i) c = tree.target_right y i used

  pub tree_less : Tree (clear (at q) no_entry entries) (set_node n (one_less (node_at nodes n)) nodes)
  unfolding left nodes_left free_entry
  tree_less =
      record {
        distinct_entries = distinct_clear free_entry same_entry (at q) no_entry refl like_no_entry entries tree.distinct_entries;
        in_directory = λ e m used.
            let was = (from_left e m used).0 in
            directory_left e.place.directory (gone.nothing_inside e was) (tree.in_directory e was used);
        leads = leads_left;
        named = λ e m used. tree.named e (from_left e m used).0 used;
        counted = counted_left;
        count_right = fits_left;
        target_right = target_left;
        top = directory_left 1 (λ e. gone.not_top (sym e)) tree.top;
        top_count = ap (λ (y : Node). y.count) (node_other 1 (λ e. gone.not_top (sym e))) ∙ tree.top_count;
      }
