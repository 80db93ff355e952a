-- What lent words stand for, and what a write leaves: the two promises that every function over the words is written with. Assumes nothing.
use Rattle.std.specs.Prelude.{◌≡◌, List, ℕ, length, get_or}
use Rattle.model.specs.Tables.{Entry, Node, Hold, Process, Tables, no_entry, no_node, no_hold, no_process}
use Rattle.model.specs.Words.{word_count, pack, unpack}

-- the words are just those of the tables that they hold: half of what `sound` asks
pub record Stands (w : List ℕ) : Type 0 where
  pub long : length w ≡ word_count
  pub same : pack (unpack w) ≡ w

-- the words v now stand for these tables
pub record Becomes (v : List ℕ) (t : Tables) : Type 0 where
  pub stands : Stands v
  pub tables : unpack v ≡ t

-- the row of each table that words hold
abbrev pub entry_row : List ℕ → ℕ → Entry
entry_row w row = get_or (unpack w).entries row no_entry

abbrev pub node_row : List ℕ → ℕ → Node
node_row w row = get_or (unpack w).nodes row no_node

abbrev pub hold_row : List ℕ → ℕ → Hold
hold_row w row = get_or (unpack w).holds row no_hold

abbrev pub process_row : List ℕ → ℕ → Process
process_row w row = get_or (unpack w).processes row no_process
