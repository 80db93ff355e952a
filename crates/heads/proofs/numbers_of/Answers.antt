-- `heads::numbers_of` meets its contract. Assumes nothing.
use native.Mathlib.Nat.{div-one}
use Rattle.model.specs.Words.{bits}
use Rattle.heads.proofs.numbers_of.Goals as goal

pub returns : goal.returns
unfolding bits
returns c = rw div-one
