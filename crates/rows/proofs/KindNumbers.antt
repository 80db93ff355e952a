-- A node's kind and its number in the model: the one says the other. Assumes nothing.
use mathlib.Core.Path.{◌≡◌, refl}
use mathlib.Core.Bool.{false, not}
use Prim.Native.Nat.{◌≤◌, ◌<◌}
use native.Mathlib.Omega.{arith}
use lib.Dec.{eqb}
use Rattle.std.specs.Prelude.{Option, None, Some}
use Rattle.std.specs.Option.{is_some}
use Rattle.rows.specs.declared.Kind.{Kind}
use Rattle.rows.specs.declared.Kind.TheVariants.{File, Directory, Link}
use Rattle.rows.specs.Kinds.{kind_number, number_of}

-- no kind has the number of a free row, and two bits hold each
pub numbered : (k : Kind) → (1 ≤ number_of k) × (number_of k < 4)
numbered File = (omega arith, omega arith)
numbered Directory = (omega arith, omega arith)
numbered Link = (omega arith, omega arith)

-- a row with a kind is used
pub none_free : (k : Option Kind) → is_some k ≡ false → kind_number k ≡ 0
none_free None e = refl
none_free (Some j) e = cc

pub some_used : (k : Option Kind) → is_some k ≡ not (eqb (kind_number k) 0)
some_used None = refl
some_used (Some File) = refl
some_used (Some Directory) = refl
some_used (Some Link) = refl

-- two kinds with one number are the same
pub same_kind : (k j : Option Kind) → kind_number k ≡ kind_number j → k ≡ j
same_kind None None e = refl
same_kind None (Some File) e = cc
same_kind None (Some Directory) e = cc
same_kind None (Some Link) e = cc
same_kind (Some File) None e = cc
same_kind (Some File) (Some File) e = refl
same_kind (Some File) (Some Directory) e = cc
same_kind (Some File) (Some Link) e = cc
same_kind (Some Directory) None e = cc
same_kind (Some Directory) (Some File) e = cc
same_kind (Some Directory) (Some Directory) e = refl
same_kind (Some Directory) (Some Link) e = cc
same_kind (Some Link) None e = cc
same_kind (Some Link) (Some File) e = cc
same_kind (Some Link) (Some Directory) e = cc
same_kind (Some Link) (Some Link) e = refl
