-- Input that comes in parts, listed with the step: a machine keeps the bytes that it has not used yet, takes part after part, and is told the
-- end. Assumes nothing.
use Rattle.std.specs.Prelude.{Bool, true, false, List, [], ◌∷◌, ◌++◌, ℕ, zero, suc, length, take, drop}
use Rattle.model.specs.Serve.{fresh_words}
use Rattle.listing.specs.declared.Step.{Step}
use Rattle.listing.specs.declared.Step.TheVariants.{Over, More, Full, Line, Last}
use Rattle.listing.specs.Steps.{next_line}

-- the tables' words, the bytes that no line was written for, the next line's place, whether the listing is over, and the text so far
pub record Machine : Type 0 where
  pub words : List ℕ
  pub unread : List ℕ
  pub place : ℕ
  pub over : Bool
  pub text : List ℕ

-- the listing is over
unfoldable pub stopped : Machine → List ℕ → List ℕ → Machine
stopped m w text = record { words = w; unread = m.unread; place = m.place; over = true; text = m.text ++ text }

-- the machine after a step that left these words and this destination; after a line `on` goes on
unfoldable pub after_step : (Machine → Machine) → Machine → List ℕ → List ℕ → Step → Machine
after_step on m w out Over = stopped m w []
after_step on m w out More = m
after_step on m w out Full = m
after_step on m w out (Line taken size) =
    on (record {
      words = w;
      unread = drop taken m.unread;
      place = suc m.place;
      over = false;
      text = m.text ++ take size out;
    })
after_step on m w out (Last size) = stopped m w (take size out)

-- The listing: from fresh tables, places from 1
abbrev pub started : Machine
started = record { words = fresh_words; unread = []; place = 1; over = false; text = [] }

-- `out` is the destination that the step at each place is lent
module _ (out : ℕ → List ℕ) where
  -- step after step, at most n
  unfoldable pub run : Bool → ℕ → Machine → Machine
  run last zero m = m
  run last (suc n) m =
      let x = next_line m.words m.unread last m.place (out m.place) in after_step (run last n) m x.words x.out x.step

  -- steps until more bytes are needed or the listing is over: each line takes a byte or more
  unfoldable pub run_all : Bool → Machine → Machine
  run_all last m = elim m.over [ true ↦ m | false ↦ run last (suc (length m.unread)) m ]

  -- one more part
  unfoldable pub given : Machine → List ℕ → Machine
  given m part =
      run_all false (record { words = m.words; unread = m.unread ++ part; place = m.place; over = m.over; text = m.text })

  unfoldable pub all_given : Machine → List (List ℕ) → Machine
  all_given m [] = m
  all_given m (part ∷ parts) = all_given (given m part) parts

  -- the text for input that came in these parts
  unfoldable pub text_of : List (List ℕ) → List ℕ
  text_of parts = (run_all true (all_given started parts)).text
