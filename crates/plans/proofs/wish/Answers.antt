-- `plans::wish` meets its contract: a hold that is there or planned is not planned again. Assumes nothing.
use Rattle.model.specs.Words.{unpack}
use Rattle.plans.proofs.Planning.{held_before, planned_before, planned_new}
use Rattle.plans.proofs.wish.Goals as goal
use Rattle.plans.proofs.wish.Goals.{else-not-has_hold-via-then-not-has_hold+else-not-is_planned, else-not-has_hold-via-else-not-has_hold}

pub returns-then-not-is_planned : goal.returns-then-not-is_planned
returns-then-not-is_planned c =
    planned_new (unpack c.args.words.now).holds c.args.plan.now c.requires.1.0 c.args.hold c.has_hold.ensures c.if-not-has_hold.true
    c.is_planned.ensures c.if-not-is_planned.true c.requires.1.1.0 c.requires.1.1.1 c.push.ensures

pub returns-else-not-has_hold : goal.returns-else-not-has_hold
returns-else-not-has_hold c =
    let have = (unpack c.args.words.now).holds in let plan = c.args.plan.now in
    elim c.else-not-has_hold.branch [
      | else-not-has_hold-via-then-not-has_hold+else-not-is_planned w ↦
          planned_before have plan c.requires.1.0 c.args.hold c.has_hold.ensures w.if-not-has_hold.true w.is_planned.ensures w.if-not-is_planned.false
      | else-not-has_hold-via-else-not-has_hold w ↦ held_before have plan c.requires.1.0 c.args.hold c.has_hold.ensures w.if-not-has_hold.false
    ]
