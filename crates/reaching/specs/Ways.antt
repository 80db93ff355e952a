-- Where one path and where two paths lead a caller, as the calls go on with it. Assumes nothing.
use Rattle.std.specs.Prelude.{List, ℕ, Result, Ok, Err}
use Rattle.model.specs.Refusals.{Outcome, refused, granted}
use Rattle.model.specs.Tables.{Process}
use Rattle.model.specs.Walk.{Goal}
use Rattle.search.specs.Callers.{caller}
use Rattle.goals.specs.declared.Stop.{Stop}
use Rattle.goals.specs.declared.Stop.TheVariants as stops
use Rattle.goals.specs.declared.Walk.{Walk}
use Rattle.goals.specs.Goals.{walked}
use Rattle.goals.specs.declared.Reached.{Reached}
use Rattle.reaching.specs.declared.ReachedBoth.{ReachedBoth}

unfoldable pub way_by : Stop → Walk → Result Walk ℕ
way_by (stops.Refused n) walk = Err n
way_by stops.Root walk = Ok walk
way_by (stops.Entry q node) walk = Ok walk

-- a walk that was refused ends the call
abbrev pub way_behind : Walk → Result Walk ℕ
way_behind walk = way_by walk.stop walk

-- process p, where this is the outcome of its path
unfoldable pub reached : List Process → ℕ → Outcome Goal → Result Reached ℕ
reached processes p (refused n) = Err n
reached processes p (granted g) = Ok (record { caller = caller processes p; walk = walked (granted g) })

-- the same of two paths; the second is walked where the first leads somewhere, and its refusal is told beside the first walk
unfoldable pub reached_both : List Process → ℕ → Outcome Goal → Outcome Goal → Result ReachedBoth ℕ
reached_both processes p (refused n) second = Err n
reached_both processes p (granted g) second =
    Ok (record { new = record { caller = caller processes p; walk = walked (granted g) }; old = way_behind (walked second) })
