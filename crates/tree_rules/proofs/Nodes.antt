-- Entries and the nodes that they lead to: one row tested, and the entries counted in one pass. Assumes nothing.
use mathlib.Core.Path.{◌≡◌, refl, sym, ap, ◌∙◌}
use mathlib.Core.Bool.{Bool, true, false, not, ◌&&◌, ◌||◌}
use mathlib.Core.List.{List, [], ◌∷◌}
use Prim.Native.Nat.{ℕ, suc, ◌+◌, ◌≤◌, ◌<◌}
use native.Mathlib.Omega.{arith}
use native.Mathlib.Decide.{ℕ_discrete}
use borrow.Author.Tests.{eq-eqb, ne_eqb}
use lib.Dec.{eqb, leb}
use lib.ListN.{length, get_or, set, drop, replicate, get_or-replicate, length-replicate, length-set}
use lib.Seq.{get_or-set_same, get_or-set_other}
use Rattle.model.specs.Lists.{all, all_from, count}
use Rattle.model.specs.Tables.{Entry, Node, no_entry, free_entry, free_node, node_at, is_directory, entry_rows, node_rows}
use Rattle.model.specs.Sound.{each_used, entries_in_directories, entries_lead_to_nodes, leading_to, first_node_right, count_fits}
use Rattle.model.specs.Words.{unpack}
use Rattle.laws.proofs.AllRows.{all_both, all_alike}
use Rattle.laws.proofs.Bools.{or_right, or_and}
use Rattle.laws.proofs.Loops.{count_here, count_onward, count_done}
use Rattle.rows.specs.Stands.{entry_row}
use Rattle.rows.proofs.Parts.{entries_full}
use Rattle.tree_rules.specs.Tallied.{leads, counted_fit, counters, Tallied}

-- AN ENTRY

module _ (nodes : List Node) (e : Entry) where
  pub no_entry_there : {d : ℕ} → d ≡ e.place.directory → d ≡ 0 → eqb d 0 ≡ leads nodes e
  unfolding free_entry
  no_entry_there {d} p z = eq-eqb d 0 z ∙ rw (eq-eqb e.place.directory 0 (sym p ∙ z))

  module _ {d : ℕ} (p : d ≡ e.place.directory) (u : d ≡ 0 → ⊥) {k : ℕ} (q : k ≡ (node_at nodes d).kind) where
    pub no_directory : (k ≡ 2 → ⊥) → eqb k 2 ≡ leads nodes e
    unfolding free_entry is_directory
    no_directory n =
        ne_eqb k 2 n ∙ rw (ne_eqb e.place.directory 0 (λ z. u (p ∙ z)), ne_eqb (node_at nodes e.place.directory).kind 2 (λ z. n (q ∙ ap (λ x. (node_at nodes x).kind) p ∙ z)))

    pub leads_where : k ≡ 2 → {m : ℕ} → m ≡ (node_at nodes e.node).kind → not (eqb m 0) ≡ leads nodes e
    unfolding free_entry free_node is_directory
    leads_where z r =
        rw (ne_eqb e.place.directory 0 (λ y. u (p ∙ y)), eq-eqb (node_at nodes e.place.directory).kind 2 (sym (q ∙ ap (λ x. (node_at nodes x).kind) p) ∙ z), r)

-- a test that does not look at the rows' numbers
unnumbered : {A : Type 0} (f : A → Bool) (n : ℕ) (xs : List A) → all_from n (λ _. f) xs ≡ all f xs
unfolding all all_from
unnumbered f n [] = refl
unnumbered f n (x ∷ xs) = ap (λ b. f x && b) (unnumbered f (suc n) xs)

-- both rules in one pass
pub entry_rules : (w : List ℕ) → all_from 1 (λ _. leads (unpack w).nodes) (unpack w).entries ≡ (entries_in_directories (unpack w) && entries_lead_to_nodes (unpack w))
unfolding entries_in_directories entries_lead_to_nodes each_used
entry_rules w =
    let nodes = (unpack w).nodes in
    unnumbered (leads nodes) 1 (unpack w).entries
    ∙ all_alike (leads nodes) (λ e. (free_entry e || is_directory nodes e.place.directory) && (free_entry e || not (free_node (node_at nodes e.node))))
    (λ e. or_and (free_entry e) (is_directory nodes e.place.directory) (not (free_node (node_at nodes e.node)))) (unpack w).entries
    ∙ all_both (λ e. free_entry e || is_directory nodes e.place.directory) (λ e. free_entry e || not (free_node (node_at nodes e.node))) (unpack w).entries

-- THE COUNTS IN ONE PASS

abbrev leads_to : ℕ → Entry → Bool
leads_to n e = eqb e.node n

pub record Counting (w counts : List ℕ) (i : ℕ) : Type 0 where
  pub inside : i ≤ entry_rows
  pub long : length counts ≡ counters
  pub low : (n : ℕ) → n < counters → get_or counts n 0 ≤ i
  pub rest : (n : ℕ) → 0 < n → n < counters → get_or counts n 0 + count (leads_to n) (drop i (unpack w).entries) ≡ leading_to (unpack w).entries n

module _ (w counts : List ℕ) where
  pub counting_starts : counts ≡ replicate counters 0 → Counting w counts 0
  unfolding leading_to
  counting_starts e =
      record {
        inside = omega arith;
        long = ap length e ∙ length-replicate {A = ℕ} counters 0;
        low = λ n h. omega (arith, zeros n h);
        rest = λ n _ h. ap (λ x. x + count (leads_to n) (unpack w).entries) (zeros n h) ∙ omega arith;
      }
    where
      zeros : (n : ℕ) → n < counters → get_or counts n 0 ≡ 0
      zeros n h = ap (λ x. get_or x n 0) e ∙ get_or-replicate counters n 0 0 h

  module _ {i v : ℕ} (g : Counting w counts i) (r : i < entry_rows) (f : v ≡ (entry_row w i).node) where
    -- no node, or one that no table has
    pub counting_past : ((n : ℕ) → 0 < n → n < counters → v ≡ n → ⊥) → Counting w counts (i + 1)
    counting_past o =
        record {
          inside = omega arith;
          long = g.long;
          low = λ n h. omega (arith, g.low n h);
          rest = λ n u h. count_onward (leads_to n) no_entry (unpack w).entries i (get_or counts n 0) (omega (arith, entries_full w))
              (ne_eqb (entry_row w i).node n (λ q. o n u h (f ∙ q))) (g.rest n u h);
        }

    pub counting_more : v < counters → Counting w (set counts v (get_or counts v 0 + 1)) (i + 1)
    counting_more h =
        record {
          inside = omega arith;
          long = length-set counts v (get_or counts v 0 + 1) ∙ g.long;
          low = λ n a. elim (ℕ_discrete n v) [ yes q ↦ omega (arith, one_more n q, g.low n a) | no q ↦ omega (arith, as_before n q, g.low n a) ];
          rest = λ n u a. elim (ℕ_discrete n v) [
            | yes q ↦ ap (λ x. x + left n) (one_more n q)
                ∙ count_here (leads_to n) no_entry (unpack w).entries i (get_or counts n 0) (omega (arith, entries_full w)) (eq-eqb (entry_row w i).node n (sym f ∙ sym q)) (g.rest n u a)
            | no q ↦ ap (λ x. x + left n) (as_before n q)
                ∙ count_onward (leads_to n) no_entry (unpack w).entries i (get_or counts n 0) (omega (arith, entries_full w)) (ne_eqb (entry_row w i).node n (λ y. q (sym y ∙ sym f))) (g.rest n u a)
          ];
        }
      where
        left : ℕ → ℕ
        left n = count (leads_to n) (drop (i + 1) (unpack w).entries)

        one_more : (n : ℕ) → n ≡ v → get_or (set counts v (get_or counts v 0 + 1)) n 0 ≡ get_or counts n 0 + 1
        one_more n q =
            ap (λ x. get_or (set counts v (get_or counts v 0 + 1)) x 0) q ∙ get_or-set_same counts v (get_or counts v 0 + 1) 0 (omega (arith, g.long))
            ∙ ap (λ x. get_or counts x 0 + 1) (sym q)

        as_before : (n : ℕ) → (n ≡ v → ⊥) → get_or (set counts v (get_or counts v 0 + 1)) n 0 ≡ get_or counts n 0
        as_before n q = get_or-set_other counts v n (get_or counts v 0 + 1) 0 q

  pub counting_ends : {i : ℕ} → Counting w counts i → entry_rows ≤ i → Tallied w counts
  counting_ends {i} g h =
      record {
        long = g.long;
        right = λ n u a. count_done (leads_to n) no_entry (unpack w).entries i (get_or counts n 0) (omega (arith, entries_full w)) (g.rest n u a);
      }

-- what was counted for a row's node
pub counted : (w counts : List ℕ) (row : ℕ) → Tallied w counts → row < node_rows → get_or counts (row + 1) 0 ≡ leading_to (unpack w).entries (1 + row)
counted w counts row t h = let e : row + 1 ≡ 1 + row = omega arith in t.right (row + 1) (omega arith) (omega arith) ∙ ap (leading_to (unpack w).entries) e

-- A NODE'S COUNT

pub root_passes : (x : Node) {row : ℕ} → row ≡ 0 → true ≡ counted_fit (1 + row) x
unfolding count_fits
root_passes x z = rw z (sym (or_right (free_node x) refl))

module _ (x : Node) {k : ℕ} (p : k ≡ x.kind) where
  pub free_passes : (b : Bool) → k ≡ 0 → true ≡ (free_node x || b)
  unfolding free_node
  free_passes b z = rw (eq-eqb x.kind 0 (sym p ∙ z))

  pub used_decides : {b r : Bool} → (k ≡ 0 → ⊥) → r ≡ b → r ≡ (free_node x || b)
  unfolding free_node
  used_decides n e = rw (ne_eqb x.kind 0 (λ z. n (p ∙ z))) e

  module _ {row : ℕ} (n : row ≡ 0 → ⊥) {m : ℕ} (q : m ≡ x.count) where
    not_root : eqb (1 + row) 1 ≡ false
    not_root = ne_eqb (1 + row) 1 (λ z. n (omega arith))

    pub directory_fits : k ≡ 2 → eqb m 1 ≡ count_fits (1 + row) x
    unfolding count_fits
    directory_fits z = simp (not_root, eq-eqb x.kind 2 (sym p ∙ z), count_fits) (ap (λ y. eqb y 1) q)

    pub other_fits : (k ≡ 2 → ⊥) → leb 1 m ≡ count_fits (1 + row) x
    unfolding count_fits
    other_fits z = simp (not_root, ne_eqb x.kind 2 (λ y. z (p ∙ y)), count_fits) (ap (leb 1) q)

-- THE FIRST NODE

module _ (w : List ℕ) {k : ℕ} (p : k ≡ (node_at (unpack w).nodes 1).kind) where
  pub first_no_directory : (k ≡ 2 → ⊥) → eqb k 2 ≡ first_node_right (unpack w)
  unfolding first_node_right is_directory
  first_no_directory n = ne_eqb k 2 n ∙ rw (ne_eqb (node_at (unpack w).nodes 1).kind 2 (λ z. n (p ∙ z)))

  pub first_count : {m : ℕ} → k ≡ 2 → m ≡ (node_at (unpack w).nodes 1).count → eqb m 0 ≡ first_node_right (unpack w)
  unfolding first_node_right is_directory
  first_count z q = rw (eq-eqb (node_at (unpack w).nodes 1).kind 2 (sym p ∙ z), q)
