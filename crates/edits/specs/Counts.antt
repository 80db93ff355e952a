-- What link asks of the node that gets one entry more. Assumes nothing.
use Rattle.std.specs.Prelude.{◌≡◌, List, ℕ, ◌≤◌, ◌<◌}
use Rattle.model.specs.Tables.{Node, node_at}

-- it is used, and its count does not run over: sound tables have 512 entries, and a count has 10 bits
pub record Countable (nodes : List Node) (n : ℕ) : Type 0 where
  pub used : (n ≡ 0 → ⊥) → 1 ≤ (node_at nodes n).kind
  pub low : (node_at nodes n).count < 1023
