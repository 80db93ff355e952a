-- `holds::others_hold` meets its contract: what passes from some row on is what passes at all. Assumes nothing.
use mathlib.Core.Path.{◌≡◌}
use mathlib.Core.Bool.{Bool, ◌&&◌}
use mathlib.Core.List.{List}
use Prim.Native.Nat.{◌*◌}
use lib.ListN.{drop}
use Rattle.model.specs.Lists.{any}
use Rattle.model.specs.Tables.{Hold, Process}
use Rattle.model.specs.Holds.{inside}
use Rattle.model.specs.Words.{unpack}
use Rattle.holds.specs.Asks.{Tells}
use Rattle.holds.proofs.others_hold.Given as goal

abbrev pub invariant-loop-pair : goal.invariant-loop-pair
invariant-loop-pair g l =
    (asks : List Process → Hold → Bool) → Tells (goal.F-post g l.test) asks
    → any (λ h. inside l.directory h && asks (unpack l.words).processes h) (drop (l.pair * 2) (unpack l.words).holds)
    ≡ any (λ h. inside l.directory h && asks (unpack l.words).processes h) (unpack l.words).holds
