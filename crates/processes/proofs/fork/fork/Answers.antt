-- `processes::fork::fork` meets its contract: 4, 5, 6, 16, and then the copies and the child. Assumes nothing.
use mathlib.Core.Path.{refl}
use borrow.Author.Rules.{rules}
use Rattle.model.specs.Calls.{fork}
use Rattle.model.specs.Words.{unpack}
use Rattle.rows.proofs.Meeting.{grants, passes, refuses}
use Rattle.processes.proofs.Forking.{forked, told_4, told_not_4, told_user, two_processes}
use Rattle.processes.proofs.fork.fork.Goals as goal

pub returns-in_default : goal.returns-in_default
unfolding fork
returns-in_default c = refuses _ _ _ (told_4 (unpack c.args.words.now) c.args.process c.in_default.ensures) refl

pub returns-then-is_listed : goal.returns-then-is_listed
unfolding fork
returns-then-is_listed c =
    let listed = told_not_4 (unpack c.args.words.now) c.args.process c.in-Some.ensures in
    search (rules, refuses, passes)

pub returns-then-lacks_process_row : goal.returns-then-lacks_process_row
unfolding fork
returns-then-lacks_process_row c =
    let listed = told_not_4 (unpack c.args.words.now) c.args.process c.in-Some.ensures in
    search (rules, refuses, passes)

pub returns-then-lacks_room_for_copies : goal.returns-then-lacks_room_for_copies
unfolding fork
returns-then-lacks_room_for_copies c =
    let listed = told_not_4 (unpack c.args.words.now) c.args.process c.in-Some.ensures in
    search (rules, refuses, passes) depth 8

pub copy_holds-requires : goal.copy_holds-requires
copy_holds-requires c =
    let t = unpack c.args.words.now in
    let listed = told_not_4 t c.args.process c.in-Some.ensures in
    (c.requires.0, (c.requires.1.0, two_processes t c.args.process c.args.child listed refl c.is_listed.ensures c.if-is_listed.false))

pub returns : goal.returns
unfolding fork
returns c =
    let t = unpack c.args.words.now in
    let listed = told_not_4 t c.args.process c.in-Some.ensures in
    let done = forked c.args.words.now c.args.process c.args.child (told_user t c.args.process c.in-Some.ensures) c.copy_holds.ensures c.add_process.ensures in
    search (rules, passes, grants) depth 10
