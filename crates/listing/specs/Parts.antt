-- A part of the input, listed as far as its bytes and the room for lines reach. Assumes nothing.
use Rattle.std.specs.Prelude.{Bool, List, ◌++◌, ℕ, zero, suc, ◌+◌, length, take, drop}
use Rattle.listing.specs.declared.Step.{Step}
use Rattle.listing.specs.declared.Step.TheVariants as step
use Rattle.listing.specs.declared.Stop.{Stop}
use Rattle.listing.specs.declared.Stop.TheVariants as stop
use Rattle.listing.specs.declared.Part.{Part}
use Rattle.listing.specs.Steps.{next_line}

-- what listing a part gives: what is answered, and the words and the destination after it
pub record Filled : Type 0 where
  pub part : Part
  pub words : List ℕ
  pub out : List ℕ

abbrev pub filled : Part → List ℕ → List ℕ → Filled
filled r w out = record { part = r; words = w; out = out }

-- no line was written
unfoldable pub no_line : ℕ → Stop → List ℕ → List ℕ → Filled
no_line place why w out = filled (record { taken = 0; length = 0; place = place; stop = why }) w out

-- bytes were taken and text was written before
unfoldable pub behind : ℕ → List ℕ → Filled → Filled
behind taken text y =
    filled
    (record {
      taken = taken + y.part.taken;
      length = length text + y.part.length;
      place = y.part.place;
      stop = y.part.stop;
    })
    y.words (text ++ y.out)

-- by what the step answers; `on` goes on after a line
unfoldable pub filled_by : (List ℕ → List ℕ → ℕ → List ℕ → Filled) → List ℕ → ℕ → List ℕ → List ℕ → Step → Filled
filled_by on s place w out step.Over = no_line place stop.Over w out
filled_by on s place w out step.More = no_line place stop.More w out
filled_by on s place w out step.Full = no_line place stop.Full w out
filled_by on s place w out (step.Line taken size) =
    behind taken (take size out) (on w (drop taken s) (suc place) (drop size out))
filled_by on s place w out (step.Last size) = behind 0 (take size out) (no_line place stop.Over w (drop size out))

-- step after step, at most n
unfoldable pub fill : ℕ → Bool → List ℕ → List ℕ → ℕ → List ℕ → Filled
fill zero last w s place out = no_line place stop.More w out
fill (suc n) last w s place out =
    let x = next_line w s last place out in filled_by (fill n last) s place x.words x.out x.step

-- The listing, a part: each line takes a byte or more, so as many steps as bytes and one are enough
unfoldable pub list_part : Bool → List ℕ → List ℕ → ℕ → List ℕ → Filled
list_part last w s place out = fill (suc (length s)) last w s place out
