-- The record of a call that is about processes alone. Assumes nothing.
use Rattle.std.specs.Prelude.{[], ℕ}
use Rattle.model.specs.Records.{Call}

-- a call that has no paths
abbrev pub process_call : ℕ → ℕ → ℕ → Call
process_call number process argument =
    record { call = number; process = process; argument = argument; path1 = []; path2 = []; zeros = 0 }
