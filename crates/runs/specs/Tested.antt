-- Tables that were tested, once, and indexed where they are sound; and which answers leave the entries as they were. Assumes nothing.
use Rattle.std.specs.Prelude.{◌≡◌, Bool, true, false, not, ◌||◌, List, ℕ, Option, Some, None}
use Rattle.model.specs.Records.{keeps_entries, row_of, short}
use Rattle.model.specs.Sound.{sound}
use Rattle.model.specs.declared.Answer.{Answer}
use Rattle.model.specs.declared.Verdict.{Verdict}
use Rattle.invariants.specs.Accepts.{accepts}
use Rattle.index.specs.Indexed.{Index, Indexed}
use Rattle.service.specs.Serves.{Serves}

pub record Tested (w : List ℕ) (index : Index) (is_sound : Bool) : Type 0 where
  pub right : is_sound ≡ sound w
  pub indexed : is_sound ≡ true → Indexed w index

-- the record at the front is served where it is whole, and else no word is changed
abbrev pub ServesWhole : List ℕ → List ℕ → Option Verdict → List ℕ → Type 0
ServesWhole w s None v = (short s ≡ true) × (v ≡ w)
ServesWhole w s (Some r) v = (short s ≡ false) × Serves w s r v

-- The thirteen calls: those that make and remove entries do so where they are not refused
unfoldable pub leaves_entries : ℕ → Answer → Bool
leaves_entries call a = keeps_entries (row_of call).effect || not (accepts a)
