-- A node's kind as the code has it, and the number that the model has for it. Assumes nothing.
use Rattle.std.specs.Prelude.{Option, None, Some, ℕ}
use Rattle.rows.specs.declared.Kind.{Kind}
use Rattle.rows.specs.declared.Kind.TheVariants.{File, Directory, Link}

-- The lent tables, a node's kind: 0 for a free row
abbrev pub number_of : Kind → ℕ
number_of File = 1
number_of Directory = 2
number_of Link = 3

abbrev pub kind_number : Option Kind → ℕ
kind_number None = 0
kind_number (Some k) = number_of k
