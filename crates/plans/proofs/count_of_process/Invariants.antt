-- `plans::count_of_process` meets its contract: the count so far and that of the rows left give the whole. Assumes nothing.
use mathlib.Core.Path.{◌≡◌}
use Prim.Native.Nat.{◌+◌, ◌≤◌}
use lib.ListN.{drop}
use Rattle.model.specs.Holds.{of_process}
use Rattle.model.specs.Lists.{count}
use Rattle.model.specs.Words.{unpack}
use Rattle.plans.proofs.count_of_process.Given as goal

abbrev pub invariant-loop-row : goal.invariant-loop-row
invariant-loop-row l =
    (l.count ≤ l.row)
    × (l.count + count (of_process l.process) (drop l.row (unpack l.words).holds) ≡ count (of_process l.process) (unpack l.words).holds)
