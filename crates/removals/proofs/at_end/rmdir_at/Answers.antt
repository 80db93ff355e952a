-- `removals::at_end::rmdir_at` meets its contract: 10, 12, 13, 14, 16, and then the holds, the entry and its node. Assumes nothing.
use mathlib.Core.Path.{◌∙◌, ap}
use borrow.Author.Rules.{rules}
use Rattle.model.specs.Calls.{has_entries, rmdir_at}
use Rattle.model.specs.Holds.{no_room}
use Rattle.model.specs.Words.{unpack}
use Rattle.model.specs.declared.Answer.TheVariants.{Done}
use Rattle.rows.proofs.Meeting.{refuses, passes, grants}
use Rattle.goals.specs.Goals.{goal_of}
use Rattle.removals.proofs.Removed.{removed}
use Rattle.removals.proofs.at_end.rmdir_at.Goals as goal

pub returns-then-is_absent : goal.returns-then-is_absent
unfolding rmdir_at
returns-then-is_absent c = search (rules, refuses, passes)

pub returns-then-is_no_directory : goal.returns-then-is_no_directory
unfolding rmdir_at
returns-then-is_no_directory c = search (rules, refuses, passes)

pub returns-then-has_any_entry : goal.returns-then-has_any_entry
unfolding rmdir_at
returns-then-has_any_entry c =
    let inside = c.has_any_entry.ensures ∙ ap (has_entries (unpack c.args.words.now).entries) c.node_of-node.ensures in
    search (rules, refuses, passes)

pub returns-then-is_directory_blocked : goal.returns-then-is_directory_blocked
unfolding rmdir_at
returns-then-is_directory_blocked c =
    let inside = c.has_any_entry.ensures ∙ ap (has_entries (unpack c.args.words.now).entries) c.node_of-node.ensures in
    search (rules, refuses, passes)

pub returns-then-lacks_room : goal.returns-then-lacks_room
unfolding rmdir_at
returns-then-lacks_room c =
    let inside = c.has_any_entry.ensures ∙ ap (has_entries (unpack c.args.words.now).entries) c.node_of-node.ensures in
    let room = c.lacks_room.ensures ∙ ap (no_room (unpack c.args.words.now)) c.plan_holds-plan.ensures.is in
    search (rules, refuses, passes) depth 8

pub returns : goal.returns
unfolding rmdir_at
returns c =
    let t = unpack c.args.words.now in
    let inside = c.has_any_entry.ensures ∙ ap (has_entries (unpack c.args.words.now).entries) c.node_of-node.ensures in
    let room = c.lacks_room.ensures ∙ ap (no_room t) c.plan_holds-plan.ensures.is in
    let node = ap Done c.node_of-node.ensures in
    let changed = removed t (goal_of c.args.reached.walk) c.node_of-node.ensures c.take_emptying.ensures c.drop_entry.ensures c.drop_one_entry.ensures in
    search (rules, passes, grants) depth 9
