-- `names::tops_of` meets its contract. Assumes nothing.
use native.Mathlib.Omega.{arith}
use Rattle.names.proofs.Eights.{tops_all, tops_some}
use Rattle.names.proofs.tops_of.Goals as goal

pub returns-then-count-lt8 : goal.returns-then-count-lt8
returns-then-count-lt8 c = tops_some c.args.count (omega arith)

pub returns-else-count-lt8 : goal.returns-else-count-lt8
returns-else-count-lt8 c = tops_all c.args.count c.if-count-lt8.false
