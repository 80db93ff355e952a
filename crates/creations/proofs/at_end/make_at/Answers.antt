-- `creations::at_end::make_at` meets its contract: 11, 14, 15, 16, and then the holds, the entry and its node. Assumes nothing.
use mathlib.Core.Path.{◌∙◌, ap}
use native.Mathlib.Omega.{arith}
use borrow.Author.Rules.{rules}
use lib.ListN.{set}
use Rattle.model.specs.Calls.{make_at}
use Rattle.model.specs.Holds.{no_room}
use Rattle.model.specs.Tables.{Node, free_node}
use Rattle.model.specs.Words.{unpack}
use Rattle.model.specs.declared.Answer.TheVariants.{Done}
use Rattle.rows.proofs.Parts.{nodes_full}
use Rattle.search.proofs.Rows.{found_row}
use Rattle.rows.proofs.Meeting.{refuses, passes, grants}
use Rattle.goals.specs.Goals.{goal_of}
use Rattle.rows.specs.Kinds.{number_of}
use Rattle.creations.proofs.Entered.{entered, no_row_lacks, node_made, node_number}
use Rattle.creations.proofs.at_end.make_at.Goals as goal

pub returns-then-is_present : goal.returns-then-is_present
unfolding make_at
returns-then-is_present c = search (rules, refuses, passes)

pub returns-then-is_blocked : goal.returns-then-is_blocked
unfolding make_at
returns-then-is_blocked c = search (rules, refuses, passes)

pub returns-then-lacks_rows : goal.returns-then-lacks_rows
unfolding make_at
returns-then-lacks_rows c = search (rules, refuses, passes)

pub returns-then-lacks_room : goal.returns-then-lacks_room
unfolding make_at
returns-then-lacks_room c =
    let room = c.lacks_room.ensures ∙ ap (no_room (unpack c.args.words.now)) c.plan_holds-plan.ensures.is in
    search (rules, refuses, passes) depth 9

-- where 15 does not apply there is a row for the node
pub returns-in_default : goal.returns-in_default
returns-in_default c = no_row_lacks c.args.words.now c.in_default.ensures c.lacks_rows.ensures c.if-lacks_rows.false

pub overflow_add-node : goal.overflow_add-node
overflow_add-node c =
    let found = found_row free_node (unpack c.args.words.now).nodes c.in-Some.ensures in
    omega (arith, found.inside, nodes_full c.args.words.now)

pub overflow_cast-node : goal.overflow_cast-node
overflow_cast-node c =
    let found = found_row free_node (unpack c.args.words.now).nodes c.in-Some.ensures in
    omega (arith, found.inside, nodes_full c.args.words.now)

pub set_node-requires : goal.set_node-requires
set_node-requires c =
    let found = found_row free_node (unpack c.args.words.now).nodes c.in-Some.ensures in
    (c.add_entry.ensures.stands, (omega (arith, found.inside, nodes_full c.args.words.now), (omega arith, c.requires.1)))

pub returns : goal.returns
unfolding make_at
returns c =
    let w = c.args.words.now in
    let node : Node = record { kind = number_of c.args.kind; count = 1; target = c.args.target.now } in
    let found = found_row free_node (unpack w).nodes c.in-Some.ensures in
    let number = node_number w found.is in
    let changed = entered (unpack w) (goal_of c.args.reached.walk) c.args.reached.caller.process (λ l. set l c.in-Some.row node) node number
    (node_made w found.is node) c.take_overruling.ensures c.add_entry.ensures c.set_node.ensures in
    let room = c.lacks_room.ensures ∙ ap (no_room (unpack w)) c.plan_holds-plan.ensures.is in
    let told = ap Done number in
    search (rules, passes, grants) depth 9
