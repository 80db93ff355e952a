-- What the test of soundness asks of a hold by itself. Assumes nothing.
use Rattle.std.specs.Prelude.{Bool, not, ◌&&◌, ◌||◌, List, ℕ, eqb}
use Rattle.model.specs.Tables.{Hold, Tables, free_hold, is_directory, listed}
use Rattle.model.specs.Words.{unpack}
use Rattle.rows.specs.Stands.{hold_row}

-- it is in a directory, and of a listed process
abbrev pub placed : Tables → Hold → Bool
placed t x = free_hold x || (is_directory t.nodes x.place.directory && (not (eqb x.process 0) && listed t.processes x.process))

abbrev pub row_placed : List ℕ → ℕ → Bool
row_placed w k = placed (unpack w) (hold_row w k)
