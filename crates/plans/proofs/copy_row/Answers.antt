-- `plans::copy_row` meets its contract: the hold is copied where it is the parent's. Assumes nothing.
use native.Mathlib.Omega.{arith}
use Rattle.plans.proofs.Copying.{copy_fine, row_copied, row_passed}
use Rattle.plans.proofs.copy_row.Goals as goal

pub add_hold-requires : goal.add_hold-requires
add_hold-requires c = (
  c.requires.0,
  copy_fine c.args.words.now c.args.row c.args.child c.hold_directory.ensures c.hold_name.ensures c.hold_role-role.ensures
      c.hold_row.ensures c.hold_process.ensures c.if-hold_process-parent.true c.requires.1.1 (omega arith),
)

pub returns-then-hold_process-parent : goal.returns-then-hold_process-parent
returns-then-hold_process-parent c =
    row_copied c.args.words.now c.args.row c.args.child c.hold_directory.ensures c.hold_name.ensures
    c.hold_role-role.ensures c.hold_row.ensures c.hold_process.ensures c.if-hold_process-parent.true c.add_hold.ensures

pub returns-else-hold_process-parent : goal.returns-else-hold_process-parent
returns-else-hold_process-parent c = row_passed c.args.words.now c.requires.0 c.args.row c.args.parent c.args.child c.hold_process.ensures c.if-hold_process-parent.false
