-- The rows of the holds in use. Assumes nothing.
use Rattle.std.specs.Prelude.{Bool, not, List, ℕ}
use Rattle.model.specs.Tables.{free_hold, hold_rows}
use Rattle.rows.specs.Stands.{hold_row}
use Rattle.index.specs.Buckets.{last_below}

abbrev pub hold_used : List ℕ → ℕ → Bool
hold_used w k = not (free_hold (hold_row w k))

-- one more than the last, 0 for none
abbrev pub used_rows : List ℕ → ℕ
used_rows w = last_below (hold_used w) hold_rows
