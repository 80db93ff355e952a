-- `heads::joined_head` meets its contract. Assumes nothing.
use native.Mathlib.Omega.{arith}
use Rattle.fields.specs.Given.{joined_head}
use Rattle.heads.proofs.joined_head.Goals as goal

pub returns : goal.returns
unfolding joined_head
returns c = omega arith
