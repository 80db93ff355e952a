-- `search::free_hold_rows` meets its contract: the count so far and that of the rows left give the whole. Assumes nothing.
use mathlib.Core.Path.{◌≡◌}
use Prim.Native.Nat.{◌+◌, ◌≤◌}
use lib.ListN.{drop}
use Rattle.model.specs.Lists.{count}
use Rattle.model.specs.Tables.{free_hold}
use Rattle.model.specs.Words.{unpack}
use Rattle.search.proofs.free_hold_rows.Given as goal

abbrev pub invariant-loop-row : goal.invariant-loop-row
invariant-loop-row l = (l.free ≤ l.row) × (l.free + count free_hold (drop l.row (unpack l.words).holds) ≡ count free_hold (unpack l.words).holds)
