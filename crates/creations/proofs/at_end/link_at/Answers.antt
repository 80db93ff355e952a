-- `creations::at_end::link_at` meets its contract: 10, 11, 12, 14, 15, 16, and then the holds, the entry and its node. Assumes nothing.
use mathlib.Core.Path.{◌∙◌, ap}
use mathlib.Core.List.{List}
use borrow.Author.Rules.{rules}
use Rattle.model.specs.Calls.{link_at, one_more, set_node}
use Rattle.model.specs.Holds.{no_room}
use Rattle.model.specs.Tables.{Node, node_at}
use Rattle.model.specs.Words.{unpack}
use Rattle.model.specs.declared.Answer.TheVariants.{Done}
use Rattle.rows.proofs.Meeting.{refuses, passes, grants}
use Rattle.goals.specs.Goals.{goal_of}
use Rattle.creations.proofs.Entered.{countable_still, entered, is_there, nodes_stay}
use Rattle.creations.proofs.at_end.link_at.Goals as goal

pub returns-then-is_absent : goal.returns-then-is_absent
unfolding link_at
returns-then-is_absent c = search (rules, refuses, passes)

pub returns-then-is_present : goal.returns-then-is_present
unfolding link_at
returns-then-is_present c = search (rules, refuses, passes)

pub returns-then-leads_to_directory : goal.returns-then-leads_to_directory
unfolding link_at
returns-then-leads_to_directory c = search (rules, refuses, passes)

pub returns-then-is_blocked : goal.returns-then-is_blocked
unfolding link_at
returns-then-is_blocked c = search (rules, refuses, passes)

pub returns-then-lacks_entry_row : goal.returns-then-lacks_entry_row
unfolding link_at
returns-then-lacks_entry_row c = search (rules, refuses, passes)

pub returns-then-lacks_room : goal.returns-then-lacks_room
unfolding link_at
returns-then-lacks_room c =
    let room = c.lacks_room.ensures ∙ ap (no_room (unpack c.args.words.now)) c.plan_holds-plan.ensures.is in
    search (rules, refuses, passes) depth 9

-- the node that gets one entry more was there, and is as it was
pub add_one_entry-requires : goal.add_one_entry-requires
add_one_entry-requires c =
    let stay = nodes_stay (unpack c.args.words.now) c.take_overruling.ensures c.add_entry.ensures in (
      c.add_entry.ensures.stands,
      countable_still c.requires.1 (is_there (goal_of c.args.old) c.is_absent.ensures c.if-is_absent.false) stay
          c.node_of-node.ensures,
    )

pub returns : goal.returns
unfolding link_at
returns c =
    let t = unpack c.args.words.now in
    let n = c.node_of-node.result in
    let is = c.node_of-node.ensures in
    let more : List Node → List Node = λ l. set_node n (one_more (node_at l n)) l in
    let old = one_more (node_at t.nodes (goal_of c.args.old).node) in
    let same = ap (λ k. set_node k (one_more (node_at t.nodes k)) t.nodes) is in
    let changed = entered t (goal_of c.args.new.walk) c.args.new.caller.process more old is same
    c.take_overruling.ensures c.add_entry.ensures c.add_one_entry.ensures in
    let room = c.lacks_room.ensures ∙ ap (no_room t) c.plan_holds-plan.ensures.is in
    let node = ap Done is in
    search (rules, passes, grants) depth 9
