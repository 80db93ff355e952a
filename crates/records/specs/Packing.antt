-- What `pack` answers and what it leaves in the destination, by the model's packing. Assumes nothing.
use Rattle.std.specs.Prelude.{◌≡◌, List, ℕ, Result, Ok, Err}
use Rattle.model.specs.Refusals.{Outcome, refused, granted}
use Rattle.model.specs.Records.{Call, packing, packed}

-- Numbers given back: the record's length, or the number of a refusal; and back
unfoldable pub answered : Outcome ℕ → Result ℕ ℕ
answered (refused n) = Err n
answered (granted n) = Ok n

unfoldable pub outcome_of : Result ℕ ℕ → Outcome ℕ
outcome_of (Err n) = refused n
outcome_of (Ok n) = granted n

-- a call without zero bits, packed into a destination
abbrev pub called : ℕ → ℕ → ℕ → List ℕ → List ℕ → Call
called call process argument path1 path2 =
    record { call = call; process = process; argument = argument; path1 = path1; path2 = path2; zeros = 0 }

pub record Packs (c : Call) (before : List ℕ) (r : Result ℕ ℕ) (after : List ℕ) : Type 0 where
  pub answer : r ≡ answered (packing c before)
  pub bytes : after ≡ packed c before (packing c before)
