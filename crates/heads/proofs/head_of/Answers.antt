-- `heads::head_of` meets its contract. Assumes nothing.
use native.Mathlib.Omega.{arith}
use Rattle.heads.proofs.HeadBytes.{head_by_bytes}
use Rattle.heads.proofs.head_of.Goals as goal

pub returns : goal.returns
returns c = omega (arith, head_by_bytes c.args.bytes.now c.requires)
