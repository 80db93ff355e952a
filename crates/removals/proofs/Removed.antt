-- The edits of an accepted removal one behind the other. Assumes nothing.
use mathlib.Core.Path.{◌≡◌, ap, ◌∙◌}
use mathlib.Core.List.{List}
use Prim.Native.Nat.{ℕ}
use Rattle.model.specs.Tables.{Hold, Tables, node_at, with_entries, with_nodes, with_holds}
use Rattle.model.specs.Walk.{Goal}
use Rattle.model.specs.Words.{unpack}
use Rattle.model.specs.Calls.{set_node, drop_entry, one_less, without_entry}
use Rattle.rows.specs.Stands.{Becomes}

-- the holds, then the entry, then the node
module _ (t : Tables) (g : Goal) where
  pub removed : {holds : List Hold} {n : ℕ} {u v x : List ℕ} → n ≡ g.node → Becomes u (with_holds t holds)
      → Becomes v (with_entries (unpack u) (drop_entry g.end (unpack u).entries))
      → Becomes x (with_nodes (unpack v) (set_node n (one_less (node_at (unpack v).nodes n)) (unpack v).nodes)) → Becomes x (without_entry t g holds)
  unfolding without_entry
  removed {holds} {n} m a b c =
      record {
        stands = c.stands;
        tables = c.tables
            ∙ ap (λ s. with_nodes s (set_node n (one_less (node_at s.nodes n)) s.nodes))
            (b.tables ∙ ap (λ s. with_entries s (drop_entry g.end s.entries)) a.tables)
            ∙ ap (λ k. with_holds (with_nodes gone (set_node k (one_less (node_at t.nodes k)) t.nodes)) holds) m;
      }
    where
      gone : Tables
      gone = with_entries t (drop_entry g.end t.entries)
