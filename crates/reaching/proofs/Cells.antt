-- What a call's row in the table says of it, by the call's number: each fact about a number is computed where it is used. Assumes nothing.
use mathlib.Core.Path.{◌≡◌}
use mathlib.Core.Bool.{true}
use Prim.Native.Nat.{ℕ}
use Rattle.model.specs.Records.{Wanted, known, path, row_of}
use Rattle.records.specs.declared.Fields.{Fields}
use Rattle.reaching.specs.Ready.{Walks}

pub walks_by : (f : Fields) (n : ℕ) → (row_of n).path1 ≡ path → f.call ≡ n → Walks f
unfolding Walks
walks_by f n p e = rw e p

pub path2_by : {cell : Wanted} (f : Fields) (n : ℕ) → (row_of n).path2 ≡ cell → f.call ≡ n → (row_of f.call).path2 ≡ cell
path2_by f n p e = rw e p

pub known_by : (f : Fields) (n : ℕ) → known n ≡ true → f.call ≡ n → known f.call ≡ true
known_by f n p e = rw e p
