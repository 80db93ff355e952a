-- `shape::entry_shaped` meets its contract. Assumes nothing.
use mathlib.Core.Path.{◌∙◌}
use Prim.Native.Nat.{◌*◌}
use native.Mathlib.Omega.{arith}
use Rattle.model.specs.Words.{entry_words}
use Rattle.shape.proofs.RowShapes.{row_read, entry_blank_at, entry_good_at}
use Rattle.shape.proofs.entry_shaped.Goals as goal

pub returns-then-head-lt-UPPER_UNIT : goal.returns-then-head-lt-UPPER_UNIT
returns-then-head-lt-UPPER_UNIT c =
    c.is_blank.ensures
    ∙ entry_blank_at (row_read entry_words (c.args.row * entry_words) (omega arith) c.type_inv.words c.block_at-block.ensures) c.if-head-lt-UPPER_UNIT.true

pub returns-else-head-lt-UPPER_UNIT : goal.returns-else-head-lt-UPPER_UNIT
returns-else-head-lt-UPPER_UNIT c =
    c.is_good_name.ensures
    ∙ entry_good_at (row_read entry_words (c.args.row * entry_words) (omega arith) c.type_inv.words c.block_at-block.ensures) c.if-head-lt-UPPER_UNIT.false
