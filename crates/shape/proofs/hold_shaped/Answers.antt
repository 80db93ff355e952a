-- `shape::hold_shaped` meets its contract. Assumes nothing.
use mathlib.Core.Path.{refl, sym, ◌∙◌}
use Prim.Native.Nat.{◌+◌, ◌*◌}
use native.Mathlib.Omega.{arith}
use Rattle.model.specs.Words.{hold_words, first_hold_word}
use Rattle.laws.proofs.Bools.{stopped, passed}
use Rattle.shape.proofs.RowShapes.{row_read, hold_blank_at, no_role, role_there}
use Rattle.shape.proofs.hold_shaped.Goals as goal

pub returns-then-is_blank : goal.returns-then-is_blank
returns-then-is_blank c =
    passed (sym c.is_blank.ensures ∙ c.if-is_blank.true) refl
    ∙ hold_blank_at (row_read hold_words (first_hold_word + c.args.row * hold_words) (omega arith) c.type_inv.words c.block_at-name.ensures) c.if-head-lt-UPPER_UNIT.true

pub returns-else-is_blank : goal.returns-else-is_blank
returns-else-is_blank c =
    c.if-is_blank.false ∙ stopped _ (sym c.is_blank.ensures ∙ c.if-is_blank.false)
    ∙ hold_blank_at (row_read hold_words (first_hold_word + c.args.row * hold_words) (omega arith) c.type_inv.words c.block_at-name.ensures) c.if-head-lt-UPPER_UNIT.true

pub returns-then-is_role : goal.returns-then-is_role
returns-then-is_role c =
    role_there (row_read hold_words (first_hold_word + c.args.row * hold_words) (omega arith) c.type_inv.words c.block_at-name.ensures)
    c.if-head-lt-UPPER_UNIT.false (sym c.is_role.ensures ∙ c.if-is_role.true) c.is_good_name.ensures

pub returns-else-is_role : goal.returns-else-is_role
returns-else-is_role c =
    c.if-is_role.false
    ∙ no_role (row_read hold_words (first_hold_word + c.args.row * hold_words) (omega arith) c.type_inv.words c.block_at-name.ensures)
    c.if-head-lt-UPPER_UNIT.false (sym c.is_role.ensures ∙ c.if-is_role.false)
