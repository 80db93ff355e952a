-- `edits::put_target` meets its contract: what is left to store gives the whole. Assumes nothing.
use mathlib.Core.Path.{◌≡◌}
use Prim.Native.Nat.{◌+◌}
use lib.ListN.{drop}
use lib.Seq.{sets}
use Rattle.model.specs.Lists.{filled}
use Rattle.model.specs.Words.{words}
use Rattle.model.specs.Paths.{longest_target}
use Rattle.edits.proofs.put_target.Given as goal

abbrev pub invariant-loop-k : goal.invariant-loop-k
invariant-loop-k l =
    sets l.nodes (l.at + l.k) (drop l.k (words (filled longest_target l.target))) ≡ sets l.initial.nodes l.at (words (filled longest_target l.target))
