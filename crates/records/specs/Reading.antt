-- What `read` answers: the model's reading of the bytes, with where the paths stand in them; and what each answer means. Assumes nothing.
use Rattle.std.specs.Prelude.{Bool, false, List, ℕ, ◌+◌, eqb, length, take, drop, Result, Ok, Err}
use Rattle.model.specs.Refusals.{Outcome, refused, granted}
use Rattle.model.specs.Records as model
use Rattle.model.specs.Records.{taken}
pub use Rattle.paths.specs.declared.Part.{Part}
use Rattle.records.specs.declared.Fields.{Fields}
use Rattle.records.specs.declared.Accepted.{Accepted}
use Rattle.records.specs.declared.Rejected.{Rejected}

-- the fields of a record: path 1 stands behind the head, and path 2 behind path 1
abbrev pub fields_at : ℕ → ℕ → ℕ → ℕ → ℕ → Fields
fields_at call process argument length1 length2 =
    record {
      call = call;
      process = process;
      argument = argument;
      path1 = record { start = 7; length = length1 };
      path2 = record { start = 7 + length1; length = length2 };
    }

unfoldable pub fields_of : model.Call → Fields
fields_of r = fields_at r.call r.process r.argument (length r.path1) (length r.path2)

abbrev pub Reading : Type 0
Reading = Result Accepted Rejected

-- the model's outcome and the bytes taken, as one answer
unfoldable pub answered : ℕ → Outcome model.Call → Reading
answered taken (refused n) = Err (record { number = n; taken = taken })
answered taken (granted r) = Ok (record { fields = fields_of r; taken = taken })

unfoldable pub reading : List ℕ → Reading
reading s = answered (taken s) (model.read s)

-- Numbers given back: the number of a refusal, or the call with the bytes of its paths
unfoldable pub part_of : List ℕ → Part → List ℕ
part_of s p = take p.length (drop p.start s)

unfoldable pub outcome_of : List ℕ → Reading → Outcome model.Call
outcome_of s (Err e) = refused e.number
outcome_of s (Ok a) =
    granted
    (record {
      call = a.fields.call;
      process = a.fields.process;
      argument = a.fields.argument;
      path1 = part_of s a.fields.path1;
      path2 = part_of s a.fields.path2;
      zeros = 0;
    })

-- Numbers given back: the bytes taken
unfoldable pub taken_of : Reading → ℕ
taken_of (Err e) = e.taken
taken_of (Ok a) = a.taken

-- Numbers given back: 17 is the one refusal that comes before the test of the tables
unfoldable pub cut_short : Reading → Bool
cut_short (Err e) = eqb e.number 17
cut_short (Ok a) = false
