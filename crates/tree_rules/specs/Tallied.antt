-- What the tree's rules ask of one row, and how many entries lead to each node, counted in one pass. Assumes nothing.
use Rattle.std.specs.Prelude.{Bool, not, ◌&&◌, ◌||◌, ◌≡◌, List, ℕ, ◌+◌, ◌<◌, eqb, length, get_or}
use Rattle.model.specs.Tables.{Entry, Node, Tables, free_entry, free_node, is_directory, node_at, node_rows}
use Rattle.model.specs.Words.{unpack}
use Rattle.model.specs.Sound.{entries_in_directories, entries_lead_to_nodes, first_node_right, counts_right, counts_fit, count_fits, leading_to}

-- all rules of the tree, in the order in which they are tested
abbrev pub tree_rules : Tables → Bool
tree_rules t = (entries_in_directories t && entries_lead_to_nodes t) && (first_node_right t && (counts_right t && counts_fit t))

-- an entry is in a directory and leads to a node
abbrev pub leads : List Node → Entry → Bool
leads nodes e = free_entry e || (is_directory nodes e.place.directory && not (free_node (node_at nodes e.node)))

-- a node's count, by its number: it is that of the entries that lead to it, and one that its kind can have
abbrev pub counted_right : List Entry → ℕ → Node → Bool
counted_right entries n x = free_node x || eqb x.count (leading_to entries n)

abbrev pub counted_fit : ℕ → Node → Bool
counted_fit n x = free_node x || count_fits n x

-- a count for each node by its number, and one for none
abbrev pub counters : ℕ
counters = node_rows + 1

pub record Tallied (w counts : List ℕ) : Type 0 where
  pub long : length counts ≡ counters
  pub right : (n : ℕ) → 0 < n → n < counters → get_or counts n 0 ≡ leading_to (unpack w).entries n
