-- `search::free_hold_rows` meets its contract: the count so far and that of the rows left give the whole. Assumes nothing.
use mathlib.Core.Path.{◌∙◌, sym}
use Prim.Native.Nat.{◌<◌}
use native.Mathlib.Nat.{zero-add}
use native.Mathlib.Omega.{arith}
use borrow.Author.Rules.{rules}
use borrow.Author.Tests.{eq-eqb, ne_eqb}
use lib.ListN.{length}
use Rattle.laws.proofs.Loops.{count_done, count_here, count_onward}
use Rattle.model.specs.Lists.{count}
use Rattle.model.specs.Tables.{free_hold, no_hold}
use Rattle.model.specs.Words.{unpack}
use Rattle.rows.proofs.Parts.{holds_full}
use Rattle.search.proofs.free_hold_rows.Goals as goal
use Rattle.search.proofs.free_hold_rows.Goals.{then-hold_directory-eq0, else-hold_directory-eq0}

pub loop-row-init : goal.loop-row-init
loop-row-init c = (search rules, zero-add (count free_hold (unpack c.args.words.now).holds))

pub loop-row-preserved : goal.loop-row-preserved
unfolding free_hold
loop-row-preserved c =
    let w = c.args.words.now in
    let row = c.loop-row.row in
    let free = c.loop-row.free in
    let inside : row < length (unpack w).holds = omega (arith, holds_full w) in
    let left = c.loop-row.invariant.1 in
    elim c.if-hold_directory-eq0.branch [
      | then-hold_directory-eq0 w' ↦
          let n = count_here free_hold no_hold (unpack w).holds row free inside (eq-eqb _ _ (sym c.hold_directory.ensures ∙ w'.if-hold_directory-eq0.true)) left in
          (omega arith, omega arith)
      | else-hold_directory-eq0 w' ↦
          let n = count_onward free_hold no_hold (unpack w).holds row free inside
          (ne_eqb _ _ (λ e. w'.if-hold_directory-eq0.false (c.hold_directory.ensures ∙ e))) left in
          (omega arith, omega arith)
    ]

pub returns : goal.returns
returns c =
    let w = c.args.words.now in
    count_done free_hold no_hold (unpack w).holds c.loop-row.row c.loop-row.free (omega (arith, holds_full w)) c.loop-row.invariant.1
