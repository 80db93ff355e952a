-- `dispatch::dispatch` meets its contract: each number leads to its own call, and any other is refused with 2. Assumes nothing.
use mathlib.Core.Path.{refl}
use native.Mathlib.Omega.{arith}
use Rattle.model.specs.Calls.{enter, exec, exit, fork}
use Rattle.model.specs.Records.{calls, known, row_of}
use Rattle.rows.proofs.Meeting.{meets_as, refused_outright}
use Rattle.reaching.proofs.Accepting.{child_counts, process_counts}
use Rattle.reaching.proofs.Cells.{path2_by, walks_by}
use Rattle.reaching.proofs.Walking.{stands_sound}
use Rattle.reaching.specs.Ready.{WalksTwice}
use Rattle.dispatch.proofs.Arms.{at_call, step_enter, step_fork, step_exec, step_exit, step_check, step_look, step_use, step_create, step_mkdir, step_symlink, step_link, step_unlink, step_rmdir, step_none, step_beyond}
use Rattle.dispatch.proofs.dispatch.Goals as goal

pub enter-requires : goal.enter-requires
unfolding known row_of calls
enter-requires c =
    let read = at_call c.requires 1 refl c.in-1.is in
    (stands_sound c.args.words.now read.sound, process_counts read.bytes read.read)

pub fork-requires : goal.fork-requires
unfolding known row_of calls
fork-requires c =
    let read = at_call c.requires 2 refl c.in-2.is in
    (stands_sound c.args.words.now read.sound, (process_counts read.bytes read.read, child_counts read.bytes read.read c.in-2.is))

pub exec-requires : goal.exec-requires
unfolding known row_of calls
exec-requires c = stands_sound c.args.words.now (at_call c.requires 3 refl c.in-3.is).sound

pub exit-requires : goal.exit-requires
unfolding known row_of calls
exit-requires c = stands_sound c.args.words.now (at_call c.requires 4 refl c.in-4.is).sound

pub check-requires : goal.check-requires
unfolding known row_of calls
check-requires c = (at_call c.requires 5 refl c.in-5.is, walks_by c.args.call.fields 5 refl c.in-5.is)

pub look-requires : goal.look-requires
unfolding known row_of calls
look-requires c = (at_call c.requires 6 refl c.in-6.is, walks_by c.args.call.fields 6 refl c.in-6.is)

pub use_of-requires : goal.use_of-requires
unfolding known row_of calls
use_of-requires c = (at_call c.requires 7 refl c.in-7.is, walks_by c.args.call.fields 7 refl c.in-7.is)

pub create-requires : goal.create-requires
unfolding known row_of calls
create-requires c =
    let fields = c.args.call.fields in
    (at_call c.requires 8 refl c.in-8.is, (walks_by fields 8 refl c.in-8.is, path2_by fields 8 refl c.in-8.is))

pub mkdir-requires : goal.mkdir-requires
unfolding known row_of calls
mkdir-requires c =
    let fields = c.args.call.fields in
    (at_call c.requires 9 refl c.in-9.is, (walks_by fields 9 refl c.in-9.is, path2_by fields 9 refl c.in-9.is))

pub symlink-requires : goal.symlink-requires
unfolding known row_of calls
symlink-requires c =
    let fields = c.args.call.fields in
    (at_call c.requires 10 refl c.in-10.is, (walks_by fields 10 refl c.in-10.is, path2_by fields 10 refl c.in-10.is))

pub link-requires : goal.link-requires
unfolding known row_of calls WalksTwice
link-requires c =
    let fields = c.args.call.fields in
    (at_call c.requires 11 refl c.in-11.is, (walks_by fields 11 refl c.in-11.is, path2_by fields 11 refl c.in-11.is))

pub unlink-requires : goal.unlink-requires
unfolding known row_of calls
unlink-requires c = (at_call c.requires 12 refl c.in-12.is, walks_by c.args.call.fields 12 refl c.in-12.is)

pub rmdir-requires : goal.rmdir-requires
unfolding known row_of calls
rmdir-requires c = (at_call c.requires 13 refl c.in-13.is, walks_by c.args.call.fields 13 refl c.in-13.is)

pub returns-in-1 : goal.returns-in-1
unfolding enter
returns-in-1 c = meets_as (step_enter _ _ c.in-1.is) c.enter.ensures

pub returns-in-2 : goal.returns-in-2
unfolding fork
returns-in-2 c = meets_as (step_fork _ _ c.in-2.is) c.fork.ensures

pub returns-in-3 : goal.returns-in-3
unfolding exec
returns-in-3 c = meets_as (step_exec _ _ c.in-3.is) c.exec.ensures

pub returns-in-4 : goal.returns-in-4
unfolding exit
returns-in-4 c = meets_as (step_exit _ _ c.in-4.is) c.exit.ensures

pub returns-in-5 : goal.returns-in-5
returns-in-5 c = meets_as (step_check _ _ c.in-5.is) c.check.ensures

pub returns-in-6 : goal.returns-in-6
returns-in-6 c = meets_as (step_look _ _ c.in-6.is) c.look.ensures

pub returns-in-7 : goal.returns-in-7
returns-in-7 c = meets_as (step_use _ _ c.in-7.is) c.use_of.ensures

pub returns-in-8 : goal.returns-in-8
returns-in-8 c = meets_as (step_create _ _ c.in-8.is) c.create.ensures

pub returns-in-9 : goal.returns-in-9
returns-in-9 c = meets_as (step_mkdir _ _ c.in-9.is) c.mkdir.ensures

pub returns-in-10 : goal.returns-in-10
returns-in-10 c = meets_as (step_symlink _ _ c.in-10.is) c.symlink.ensures

pub returns-in-11 : goal.returns-in-11
returns-in-11 c = meets_as (step_link _ _ c.in-11.is) c.link.ensures

pub returns-in-12 : goal.returns-in-12
returns-in-12 c = meets_as (step_unlink _ _ c.in-12.is) c.unlink.ensures

pub returns-in-13 : goal.returns-in-13
returns-in-13 c = meets_as (step_rmdir _ _ c.in-13.is) c.rmdir.ensures

pub returns-in-0 : goal.returns-in-0
returns-in-0 c = meets_as (step_none _ _ (omega arith)) (refused_outright _ _)

pub returns-in-0-2 : goal.returns-in-0-2
returns-in-0-2 c = meets_as (step_beyond _ _ (omega arith)) (refused_outright _ _)
