-- `holds::drop_where` meets its contract: the rows left to drop give what the whole drop gives. Assumes nothing.
use mathlib.Core.Path.{sym, ◌∙◌}
use native.Mathlib.Omega.{arith}
use Rattle.holds.proofs.Dropping.{drop_begin, drop_end, drop_here, drop_past}
use Rattle.holds.proofs.drop_where.Goals as goal
use Rattle.holds.proofs.drop_where.Goals.{then-test, else-test}

pub loop-row-init : goal.loop-row-init
loop-row-init g c = (c.requires.words_stand, λ asks tells. drop_begin asks c.requires.words_stand)

pub loop-row-preserved : goal.loop-row-preserved
loop-row-preserved g c =
    let kept = c.loop-row.invariant in
    elim c.if-test.branch [
      | then-test w ↦ (
        rw w.words-is w.clear_hold.ensures.stands,
        λ asks tells. rw w.words-is
            (drop_here asks c.loop-row.row (kept.1 asks tells) (omega arith) (sym (tells.told _ _ _ kept.0 (omega arith) c.test.ensures) ∙ w.if-test.true) w.clear_hold.ensures),
      )
      | else-test w ↦ (
        rw w.words-is kept.0,
        λ asks tells. rw w.words-is
            (drop_past asks c.loop-row.row (kept.1 asks tells) (omega arith) (sym (tells.told _ _ _ kept.0 (omega arith) c.test.ensures) ∙ w.if-test.false)),
      )
    ]

pub returns : goal.returns
returns g c asks tells = drop_end asks c.loop-row.row (c.loop-row.invariant.1 asks tells) (omega arith)
