-- The index of the entries that a call's lookups go by: chains by directory and name, made anew for each call. Assumes nothing.
use Rattle.std.specs.Prelude.{◌≡◌, Bool, true, not, List, ℕ, zero, suc, ◌+◌, ◌*◌, ◌%◌}
use Rattle.model.specs.Tables.{Place, Entry, no_entry, free_entry, at, entry_rows}
use Rattle.model.specs.Words.{unpack}
use Rattle.model.specs.Sound.{entries_distinct}
use Rattle.rows.specs.declared.Block.{Block}
use Rattle.rows.specs.Blocks.{block_of}
use Rattle.rows.specs.Stands.{Stands, entry_row}
use Rattle.index.specs.declared.Links.{Links}
use Rattle.index.specs.Buckets.{last_below, Chains, Chained}

-- how many chains there are
abbrev pub entry_buckets : ℕ
entry_buckets = 1021

-- the heads and links of the entries
abbrev pub Index : Type 0
Index = Links entry_buckets entry_rows

-- the sum that buckets go by; any function of a directory and a name would do
unfoldable pub sum_of : ℕ → Block → ℕ
sum_of d b = d * 577 + b.first * 211 + b.second * 863 + b.third * 389 + b.fourth * 727

unfoldable pub place_bucket : ℕ → Block → ℕ
place_bucket d b = sum_of d b % entry_buckets

abbrev pub entry_chains : List Entry → Chains Entry
entry_chains entries =
    record {
      every = entries;
      none = no_entry;
      chosen = λ x. not (free_entry x);
      bucket = λ x. place_bucket x.place.directory (block_of x.place.name);
      size = entry_buckets;
      rows = entry_rows;
    }

-- the entry of row k is at the place
abbrev pub row_at : List ℕ → Place → ℕ → Bool
row_at w q k = at q (entry_row w k)

-- one more than the row of the entry at the place, 0 for an absence; of the last, where several were there
unfoldable pub row_found : List ℕ → Place → ℕ
row_found w q = last_below (row_at w q) entry_rows

-- the node that the entry of a row leads to, where the row is told so
unfoldable pub node_in : List ℕ → ℕ → ℕ
node_in w zero = 0
node_in w (suc row) = (entry_row w row).node

-- the whole index, with what makes a place's last row its only one
pub record Indexed (w : List ℕ) (x : Index) : Type 0 where
  pub stands : Stands w
  pub chained : Chained (entry_chains (unpack w).entries) x.heads x.next entry_rows
  pub distinct : entries_distinct (unpack w) ≡ true
