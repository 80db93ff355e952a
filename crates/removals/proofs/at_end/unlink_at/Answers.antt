-- `removals::at_end::unlink_at` meets its contract: 10, 12, 14, 16, and then the holds, the entry and its node. Assumes nothing.
use mathlib.Core.Path.{◌∙◌, ap}
use borrow.Author.Rules.{rules}
use Rattle.model.specs.Calls.{unlink_at}
use Rattle.model.specs.Holds.{no_room}
use Rattle.model.specs.Words.{unpack}
use Rattle.model.specs.declared.Answer.TheVariants.{Done}
use Rattle.rows.proofs.Meeting.{refuses, passes, grants}
use Rattle.goals.specs.Goals.{goal_of}
use Rattle.removals.proofs.Removed.{removed}
use Rattle.removals.proofs.at_end.unlink_at.Goals as goal

pub returns-then-is_absent : goal.returns-then-is_absent
unfolding unlink_at
returns-then-is_absent c = search (rules, refuses, passes)

pub returns-then-leads_to_directory : goal.returns-then-leads_to_directory
unfolding unlink_at
returns-then-leads_to_directory c = search (rules, refuses, passes)

pub returns-then-is_blocked : goal.returns-then-is_blocked
unfolding unlink_at
returns-then-is_blocked c = search (rules, refuses, passes)

pub returns-then-lacks_room : goal.returns-then-lacks_room
unfolding unlink_at
returns-then-lacks_room c =
    let room = c.lacks_room.ensures ∙ ap (no_room (unpack c.args.words.now)) c.plan_holds-plan.ensures.is in
    search (rules, refuses, passes) depth 8

pub returns : goal.returns
unfolding unlink_at
returns c =
    let t = unpack c.args.words.now in
    let room = c.lacks_room.ensures ∙ ap (no_room t) c.plan_holds-plan.ensures.is in
    let node = ap Done c.node_of-node.ensures in
    let changed = removed t (goal_of c.args.reached.walk) c.node_of-node.ensures c.take_overruling.ensures c.drop_entry.ensures c.drop_one_entry.ensures in
    search (rules, passes, grants) depth 9
