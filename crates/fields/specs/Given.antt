-- A call by the values of its fields, and the number that its fields are refused with. Assumes nothing.
use Rattle.std.specs.Prelude.{Bool, not, ◌&&◌, ◌||◌, List, ℕ, ◌+◌, ◌*◌, ◌^◌, ◌≤◌, ◌<◌, eqb, length, ⊤, Result, Ok, Err}
use Rattle.model.specs.Refusals.{Outcome, refused, granted}
use Rattle.model.specs.Words.{bits}
use Rattle.model.specs.Records.{Call, fork_call}
use Rattle.fields.specs.declared.Numbers.{Numbers}
use Rattle.fields.specs.declared.table.Row.{Row}
use Rattle.fields.specs.Rows.{is_call}

abbrev pub given : Numbers → List ℕ → List ℕ → Call
given n path1 path2 =
    record {
      call = n.call;
      process = n.process;
      argument = n.argument;
      path1 = path1;
      path2 = path2;
      zeros = n.zeros;
    }

-- The thirteen calls, a record's head: the numbers in it but for the paths' lengths
abbrev pub numbers_in : ℕ → Numbers
numbers_in head =
    record { call = bits 51 5 head; process = bits 35 16 head; argument = bits 19 16 head; zeros = bits 0 3 head }

-- Numbers given back, 2, but for what stands in a path's blank cell
unfoldable pub numbers_broken : Numbers → Row → Bool
numbers_broken n row =
    not (is_call row.0) || eqb n.process 0 || (eqb n.call fork_call && eqb n.argument 0)
    || (not row.1 && not (eqb n.argument 0))
    || not (eqb n.zeros 0)

-- the number of a refusal, or that nothing is refused
unfoldable pub fault_of : {A : Type 0} → Outcome A → Result ⊤ ℕ
fault_of (refused n) = Err n
fault_of (granted a) = Ok tt

-- the numbers that are within their fields' widths, and the number that they make
pub record HeadFits (n : Numbers) (length1 length2 : ℕ) : Type 0 where
  pub call : n.call < 2 ^ 5
  pub path1 : length1 < 2 ^ 8
  pub path2 : length2 < 2 ^ 8
  pub zeros : n.zeros < 2 ^ 3

unfoldable pub joined_head : Numbers → ℕ → ℕ → ℕ
joined_head n length1 length2 =
    n.call * 2 ^ 51 + n.process * 2 ^ 35 + n.argument * 2 ^ 19 + length1 * 2 ^ 11 + length2 * 2 ^ 3 + n.zeros

-- a destination with room for a record whose numbers fit
pub record Writes (n : Numbers) (path1 path2 destination : List ℕ) : Type 0 where
  pub fits : HeadFits n (length path1) (length path2)
  pub room : 7 + length path1 + length path2 ≤ length destination
