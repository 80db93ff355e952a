-- `hold_rules::ends_agree` meets its contract: each end hold is compared with the last before it on its place, and then chained. Assumes nothing.
use mathlib.Core.Path.{sym, ◌∙◌}
use Prim.Native.Nat.{◌<◌}
use native.Mathlib.Omega.{arith}
use borrow.Author.Rules.{rules}
use Rattle.model.specs.Tables.{hold_rows}
use Rattle.hold_rules.proofs.Ends.{agreeing_starts, agreeing_past, ends_before, agreeing_more, agreeing_broken, agreeing_ends}
use Rattle.hold_rules.proofs.Used.{used_inside}
use Rattle.hold_rules.proofs.ends_agree.Goals as goal
use Rattle.hold_rules.proofs.ends_agree.Goals.{then-hold_role-eq-END+else-not-agrees_with_last, else-hold_role-eq-END}

pub loop-row-init : goal.loop-row-init
loop-row-init c = agreeing_starts c.args.words.now c.new-ends.ensures

pub hold_role-requires : goal.hold_role-requires
hold_role-requires c =
    let inside : c.loop-row.row < hold_rows = omega (arith, used_inside c.args.words.now c.requires.1) in
    (c.requires.0.stands, inside)

pub agrees_with_last-requires : goal.agrees_with_last-requires
agrees_with_last-requires c =
    let inside : c.loop-row.row < hold_rows = omega (arith, used_inside c.args.words.now c.requires.1) in
    let bucket = c.bucket_of_place-bucket.ensures in (
      c.requires.0,
      (
        inside,
        ends_before c.args.words.now c.loop-row.invariant inside c.hold_role.ensures c.if-hold_role-eq-END.true
            bucket.0 bucket.1,
      ),
    )

pub returns-then-not-agrees_with_last : goal.returns-then-not-agrees_with_last
returns-then-not-agrees_with_last c =
    let inside : c.loop-row.row < hold_rows = omega (arith, used_inside c.args.words.now c.requires.1) in
    agreeing_broken c.args.words.now c.loop-row.invariant inside c.hold_role.ensures c.if-hold_role-eq-END.true
    (sym c.agrees_with_last.ensures ∙ c.if-not-agrees_with_last.true)

pub link_row-requires : goal.link_row-requires
link_row-requires c =
    let inside : c.loop-row.row < hold_rows = omega (arith, used_inside c.args.words.now c.requires.1) in
    let bucket = c.bucket_of_place-bucket.ensures in
    search rules

pub loop-row-preserved : goal.loop-row-preserved
loop-row-preserved c =
    let inside : c.loop-row.row < hold_rows = omega (arith, used_inside c.args.words.now c.requires.1) in
    let role = c.hold_role.ensures in
    elim c.if-hold_role-eq-END.branch [
      | then-hold_role-eq-END+else-not-agrees_with_last w ↦
          let bucket = w.bucket_of_place-bucket.ensures in
          rw (w.ends-is ∙ w.link_row.ensures) (agreeing_more c.args.words.now c.loop-row.invariant inside role w.if-hold_role-eq-END.true
          (sym w.agrees_with_last.ensures ∙ w.if-not-agrees_with_last.false) bucket.0 bucket.1)
      | else-hold_role-eq-END w ↦
          rw w.ends-is (agreeing_past c.args.words.now c.loop-row.invariant inside role w.if-hold_role-eq-END.false)
    ]

pub returns : goal.returns
returns c = agreeing_ends c.args.words.now c.loop-row.invariant c.requires.1 c.loop-row-test.false
