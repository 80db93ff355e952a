-- What a test that is passed to a pass over the holds says of one hold, as the model says it. Assumes nothing.
use Rattle.std.specs.Prelude.{◌≡◌, ◌<◌, Bool, not, ◌&&◌, List, ℕ, eqb}
use Rattle.std.specs.Borrow.{Bor}
use Rattle.std.proofs.Math.Option.{some}
use Rattle.model.specs.Tables.{Hold, Process, hold_rows, free_hold, user_of}
use Rattle.model.specs.Sound.{is_end}
use Rattle.model.specs.Holds.{on}
use Rattle.model.specs.Words.{unpack}
use Rattle.rows.specs.Stands.{Stands, hold_row}
use Rattle.goals.specs.declared.Place.{Place}
use Rattle.goals.specs.Goals.{place_at}

-- the answers at the rows of words that stand for tables are those of the model's test, which may look at the processes
pub record Tells (answers : Bor (List ℕ) → ℕ → Bool → Type 0) (asks : List Process → Hold → Bool) : Type 0 where
  pub told : (w : Bor (List ℕ)) (row : ℕ) (r : Bool) → Stands w.now → row < hold_rows → answers w row r
      → r ≡ asks (unpack w.now).processes (hold_row w.now row)

-- a hold of another user than this
unfoldable pub of_another : List Process → ℕ → Hold → Bool
of_another processes user h = not (free_hold h) && not (eqb (user_of processes h.process) user)

-- one on this place, in either role
unfoldable pub holds_on : List Process → Place → ℕ → Hold → Bool
holds_on processes q user h = on (some (place_at q)) h && of_another processes user h

-- one that ends there
unfoldable pub ends_on : List Process → Place → ℕ → Hold → Bool
ends_on processes q user h = is_end h && holds_on processes q user h
