-- `shape::process_shaped` meets its contract. Assumes nothing.
use native.Mathlib.Omega.{arith}
use Rattle.shape.proofs.RowShapes.{process_blank, process_decides}
use Rattle.shape.proofs.process_shaped.Goals as goal

pub returns-then-word-eq0 : goal.returns-then-word-eq0
returns-then-word-eq0 c = process_blank c.args.word (omega arith)

pub returns-else-word-eq0 : goal.returns-else-word-eq0
returns-else-word-eq0 c = process_decides c.args.word (omega arith) c.if-word-eq0.false
