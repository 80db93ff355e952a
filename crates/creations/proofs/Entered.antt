-- The edits of an accepted creation one behind the other. Assumes nothing.
use mathlib.Core.Path.{◌≡◌, sym, ap, ◌∙◌}
use mathlib.Core.Bool.{Bool, false, ◌||◌}
use mathlib.Core.List.{List}
use Prim.Native.Nat.{ℕ, suc, ◌+◌, ◌≤◌, ◌<◌}
use native.Mathlib.Numerals.{add-one}
use borrow.Author.Tests.{eqb-false}
use lib.ListN.{set}
use Rattle.std.specs.Prelude.{None}
use Rattle.model.specs.Lists.{any, first}
use Rattle.model.specs.Tables.{Entry, Node, Hold, Tables, free_node, node_at, with_entries, with_nodes, with_holds}
use Rattle.model.specs.Walk.{Goal}
use Rattle.model.specs.Words.{unpack}
use Rattle.model.specs.Holds.{overruled, taking, wanted}
use Rattle.model.specs.Calls.{absent, no_free_entry, no_free_node, new_node, set_node, add_entry, with_entry, make_at}
use Rattle.model.specs.declared.Answer.{Answer}
use Rattle.rows.specs.Meets.{Meets}
use Rattle.laws.proofs.Bools.{clash, not_false, neither_right}
use Rattle.laws.proofs.Loops.{first_shift}
use Rattle.rows.specs.Stands.{Becomes}
use Rattle.edits.specs.Counts.{Countable}
use Rattle.search.specs.Rows.{first_row}
use Rattle.search.proofs.Rows.{found_none}

module _ (w : List ℕ) where
  -- where 15 does not apply there is a row for the node
  pub no_row_lacks : None ≡ first_row free_node (unpack w).nodes → {b : Bool} → b ≡ (no_free_entry (unpack w) || no_free_node (unpack w)) → b ≡ false → {A : Type 0} → A
  unfolding no_free_node
  no_row_lacks e q t =
      clash (not_false (any free_node (unpack w).nodes) (neither_right (no_free_entry (unpack w)) (no_free_node (unpack w)) (sym q ∙ t)))
      (found_none free_node (unpack w).nodes e)

  pub node_number : {k : ℕ} → k ≡ first free_node 0 (unpack w).nodes → k + 1 ≡ new_node (unpack w).nodes
  unfolding new_node
  node_number {k} e = add-one k ∙ ap suc e ∙ sym (first_shift free_node (unpack w).nodes 0)

  pub node_made : {k : ℕ} → k ≡ first free_node 0 (unpack w).nodes → (x : Node)
      → set (unpack w).nodes k x ≡ set_node (new_node (unpack w).nodes) x (unpack w).nodes
  unfolding set_node
  node_made {k} e x = ap (λ n. set_node n x (unpack w).nodes) (sym (add-one k) ∙ node_number e)

pub is_there : (g : Goal) {b : Bool} → b ≡ absent g → b ≡ false → g.node ≡ 0 → ⊥
unfolding absent
is_there g e t = eqb-false g.node 0 (sym e ∙ t)

-- the node that gets one entry more is still as it was when the holds and the entry are written
pub countable_still : {nodes kept : List Node} {n m : ℕ} → Countable nodes m → (m ≡ 0 → ⊥) → kept ≡ nodes → n ≡ m
    → (1 ≤ (node_at kept n).kind) × ((node_at kept n).count < 1023)
countable_still c there e q = rw (e, q) (c.used there, c.low)

pub nodes_stay : (t : Tables) {holds : List Hold} {entries : List Entry} {u v : List ℕ} → Becomes u (with_holds t holds)
    → Becomes v (with_entries (unpack u) entries) → (unpack v).nodes ≡ t.nodes
nodes_stay t a b = ap (λ (s : Tables). s.nodes) b.tables ∙ ap (λ (s : Tables). s.nodes) a.tables

-- the holds, then the entry, then the node
module _ (t : Tables) (g : Goal) where
  pub entered : (p : ℕ) (change : List Node → List Node) (x : Node) {n m : ℕ} {u v y : List ℕ} → n ≡ m
      → change t.nodes ≡ set_node m x t.nodes → Becomes u (with_holds t (taking t (wanted p g) (overruled t p g)))
      → Becomes v (with_entries (unpack u) (add_entry g.end n (unpack u).entries)) → Becomes y (with_nodes (unpack v) (change (unpack v).nodes))
      → Becomes y (with_entry t p g m x)
  unfolding with_entry
  entered p change x {n} {m} q k a b c =
      record {
        stands = c.stands;
        tables = c.tables
            ∙ ap (λ s. with_nodes s (change s.nodes)) (b.tables ∙ ap (λ s. with_entries s (add_entry g.end n s.entries)) a.tables)
            ∙ ap (λ l. with_holds (with_nodes (with_entries t (add_entry g.end n t.entries)) l) holds) k
            ∙ ap (λ i. with_holds (with_nodes (with_entries t (add_entry g.end i t.entries)) (set_node m x t.nodes)) holds) q;
      }
    where
      holds : List Hold
      holds = taking t (wanted p g) (overruled t p g)

-- a new node's target, by its bytes
pub target_as : (kind : ℕ) (t : Tables) (p : ℕ) (g : Goal) {l m : List ℕ} → l ≡ m → {w v : List ℕ} {a : Answer}
    → Meets w (make_at kind l t p g) a v → Meets w (make_at kind m t p g) a v
target_as kind t p g e m = rw (← e) m
