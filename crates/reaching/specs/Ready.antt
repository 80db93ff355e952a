-- What the calls of an accepted record go on with, and what their paths have to be. Assumes nothing.
use Rattle.std.specs.Prelude.{◌≡◌, true, List, ℕ, ◌+◌, ◌≤◌, length, Ok}
use Rattle.model.specs.Paths.{valid_path}
use Rattle.model.specs.Sound.{sound}
use Rattle.model.specs.Records.{Call, known, path, row_of}
use Rattle.laws.specs.Each.{Each, Byte}
use Rattle.records.specs.declared.Fields.{Fields}
use Rattle.records.specs.Reading.{Part, reading, part_of}
use Rattle.index.specs.Indexed.{Index, Indexed}

-- the call that a record's fields and bytes are
abbrev pub call_in : List ℕ → Fields → Call
call_in s f =
    record {
      call = f.call;
      process = f.process;
      argument = f.argument;
      path1 = part_of s f.path1;
      path2 = part_of s f.path2;
      zeros = 0;
    }

-- the tables are sound, their entries are indexed, and the bytes were read as these fields
pub record Ready (w : List ℕ) (x : Index) (s : List ℕ) (f : Fields) : Type 0 where
  pub sound : sound w ≡ true
  pub indexed : Indexed w x
  pub bytes : Each Byte s
  pub taken : ℕ
  pub read : reading s ≡ Ok (record { fields = f; taken = taken })

-- the same where the call's number is that of a call: the refusal of any other number rests on nothing
abbrev pub ReadyWhereKnown : List ℕ → Index → List ℕ → Fields → Type 0
ReadyWhereKnown w x s f = known f.call ≡ true → Ready w x s f

-- a part of the bytes that is a valid path
pub record PathIn (s : List ℕ) (p : Part) : Type 0 where
  pub within : p.start + p.length ≤ length s
  pub valid : valid_path (part_of s p) ≡ true

-- The thirteen calls: path 1 is wanted, and a path
unfoldable pub Walks : Fields → Type 0
Walks f = (row_of f.call).path1 ≡ path

-- The thirteen calls: path 2 is wanted, and a path
unfoldable pub WalksTwice : Fields → Type 0
WalksTwice f = (row_of f.call).path2 ≡ path
