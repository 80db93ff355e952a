-- `plans::count_of_process` meets its contract: the count so far and that of the rows left give the whole. Assumes nothing.
use mathlib.Core.Path.{◌∙◌, sym}
use Prim.Native.Nat.{◌<◌}
use native.Mathlib.Nat.{zero-add}
use native.Mathlib.Omega.{arith}
use borrow.Author.Rules.{rules}
use borrow.Author.Tests.{eq-eqb, ne_eqb}
use lib.ListN.{length}
use Rattle.laws.proofs.Loops.{count_done, count_here, count_onward}
use Rattle.model.specs.Holds.{of_process}
use Rattle.model.specs.Lists.{count}
use Rattle.model.specs.Tables.{no_hold}
use Rattle.model.specs.Words.{unpack}
use Rattle.rows.proofs.Parts.{holds_full}
use Rattle.plans.proofs.count_of_process.Goals as goal
use Rattle.plans.proofs.count_of_process.Goals.{then-hold_process-process, else-hold_process-process}

pub loop-row-init : goal.loop-row-init
loop-row-init c = (search rules, zero-add (count (of_process c.args.process) (unpack c.args.words.now).holds))

pub loop-row-preserved : goal.loop-row-preserved
unfolding of_process
loop-row-preserved c =
    let w = c.args.words.now in
    let process = c.args.process in
    let row = c.loop-row.row in
    let so_far = c.loop-row.count in
    let inside : row < length (unpack w).holds = omega (arith, holds_full w) in
    let left = c.loop-row.invariant.1 in
    elim c.if-hold_process-process.branch [
      | then-hold_process-process w' ↦
          let n = count_here (of_process process) no_hold (unpack w).holds row so_far inside (eq-eqb _ _ (sym c.hold_process.ensures ∙ w'.if-hold_process-process.true)) left in
          (omega arith, omega arith)
      | else-hold_process-process w' ↦
          let n = count_onward (of_process process) no_hold (unpack w).holds row so_far inside
          (ne_eqb _ _ (λ e. w'.if-hold_process-process.false (c.hold_process.ensures ∙ e))) left in
          (omega arith, omega arith)
    ]

pub returns : goal.returns
returns c =
    let w = c.args.words.now in
    count_done (of_process c.args.process) no_hold (unpack w).holds c.loop-row.row c.loop-row.count (omega (arith, holds_full w)) c.loop-row.invariant.1
