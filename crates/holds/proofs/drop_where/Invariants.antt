-- `holds::drop_where` meets its contract: the rows left to drop give what the whole drop gives. Assumes nothing.
use mathlib.Core.Bool.{Bool}
use mathlib.Core.List.{List}
use Rattle.model.specs.Tables.{Hold, Process}
use Rattle.rows.specs.Stands.{Stands}
use Rattle.holds.specs.Asks.{Tells}
use Rattle.holds.proofs.Dropping.{LeftToDrop}
use Rattle.holds.proofs.drop_where.Given as goal

abbrev pub invariant-loop-row : goal.invariant-loop-row
invariant-loop-row g l =
    Stands l.words × ((asks : List Process → Hold → Bool) → Tells (goal.F-post g l.test) asks → LeftToDrop asks l.initial.words l.row l.words)
