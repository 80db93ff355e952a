-- A step of the listing: what is served, and what is written, from the bytes that are there. Assumes nothing.
use Rattle.std.specs.Prelude.{Bool, true, false, not, ◌&&◌, ◌||◌, List, ◌++◌, ℕ, eqb, ltb, length, drop}
use Rattle.model.specs.Lists.{empty}
use Rattle.model.specs.Records.{short}
use Rattle.model.specs.Serve.{Served, serve}
use Rattle.model.specs.Listing.{line}
pub use Rattle.lines.specs.Puts.{longest_line}
use Rattle.listing.specs.declared.Step.{Step}
use Rattle.listing.specs.declared.Step.TheVariants.{Over, More, Full, Line, Last}

-- the greatest number of 64 bits: the line at this place is the last
abbrev pub last_place : ℕ
last_place = 18446744073709551615

-- what a step gives: its answer, and the words and the destination after it
pub record Stepped : Type 0 where
  pub step : Step
  pub words : List ℕ
  pub out : List ℕ

abbrev pub stepped : Step → List ℕ → List ℕ → Stepped
stepped r w out = record { step = r; words = w; out = out }

-- the line at the front of the destination, all behind it as it was
unfoldable pub over_front : List ℕ → List ℕ → List ℕ
over_front new out = new ++ drop (length new) out

-- the answer of a step that wrote a line
unfoldable pub line_step : Bool → ℕ → ℕ → Step
line_step true taken size = Last size
line_step false taken size = Line taken size

-- The listing: a record was served, and its line is written. The line of a 17 is the last
unfoldable pub listed : Bool → ℕ → List ℕ → Served → Stepped
listed too_short place out o =
    let text = line place o.answer in
    stepped (line_step (too_short || eqb place last_place) o.taken (length text)) o.words (over_front text out)

-- The listing, a step: `last` says that no bytes come behind these
unfoldable pub next_line : List ℕ → List ℕ → Bool → ℕ → List ℕ → Stepped
next_line w s last place out =
    elim (empty s) [
      | true ↦ elim last [ true ↦ stepped Over w out | false ↦ stepped More w out ]
      | false ↦
          elim (ltb (length out) longest_line) [
            | true ↦ stepped Full w out
            | false ↦ elim (short s && not last) [ true ↦ stepped More w out | false ↦ listed (short s) place out (serve w s) ]
          ]
    ]
