-- `looks::at_end::look_at` meets its contract: 10, seen, 16, and then the holds. Assumes nothing.
use mathlib.Core.Path.{◌∙◌, ap}
use borrow.Author.Rules.{rules}
use Rattle.model.specs.Calls.{hold_at, look_at}
use Rattle.model.specs.Holds.{no_room}
use Rattle.model.specs.Words.{unpack}
use Rattle.model.specs.declared.Answer.TheVariants.{Held, Seen}
use Rattle.rows.proofs.Meeting.{refuses, passes, grants, meets_as, unchanged}
use Rattle.goals.specs.Goals.{goal_of}
use Rattle.looks.proofs.SeenOrHeld.{is_held, is_seen}
use Rattle.looks.proofs.at_end.look_at.Goals as goal

pub returns-then-is_missing : goal.returns-then-is_missing
unfolding look_at
returns-then-is_missing c = search (rules, refuses, passes)

pub returns-then-is_seen : goal.returns-then-is_seen
unfolding look_at
returns-then-is_seen c =
    let seen = is_seen (unpack c.args.words.now) c.args.reached.caller.process (goal_of c.args.reached.walk) c.is_seen.ensures c.if-is_seen.true in
    let node = ap Seen c.node_of-node.ensures in
    let same = unchanged c.requires.stands in
    search (rules, passes, meets_as, grants)

pub returns-then-lacks_room : goal.returns-then-lacks_room
unfolding look_at hold_at
returns-then-lacks_room c =
    let t = unpack c.args.words.now in
    let held = is_held t c.args.reached.caller.process (goal_of c.args.reached.walk) c.is_seen.ensures c.if-is_seen.false in
    let room = c.lacks_room.ensures ∙ ap (no_room t) c.plan_holds-plan.ensures.is in
    search (rules, refuses, passes, meets_as) depth 8

pub returns : goal.returns
unfolding look_at hold_at
returns c =
    let t = unpack c.args.words.now in
    let held = is_held t c.args.reached.caller.process (goal_of c.args.reached.walk) c.is_seen.ensures c.if-is_seen.false in
    let room = c.lacks_room.ensures ∙ ap (no_room t) c.plan_holds-plan.ensures.is in
    let node = ap Held c.node_of-node.ensures in
    search (rules, passes, meets_as, grants) depth 8
