-- What a granted call has passed: for each call the tests that did not apply, by name, and the answer and the tables that it gave.
-- `step_cases` has a case for each of the thirteen calls, so a proof about all calls goes by cases on it. Assumes nothing.
use mathlib.Core.Path.{◌≡◌, refl, sym, ap, ◌∙◌}
use mathlib.Core.Bool.{Bool, true, false, not, ◌&&◌}
use mathlib.Core.List.{List, []}
use Prim.Native.Nat.{ℕ}
use native.Mathlib.Omega.{arith}
use Rattle.model.specs.Refusals.{granted}
use Rattle.model.specs.Tables.{Tables, Hold, a_file, a_directory, a_link, node_at, is_directory, listed, user_of, with_processes, with_holds}
use Rattle.model.specs.Records.{Call}
use Rattle.model.specs.Walk.{Goal, walk}
use Rattle.model.specs.Holds.{root, of_process, end_held, wanted, lacking, no_room, add_holds, copies, drop_holds, preempted, overruled, emptied, taking}
use Rattle.model.specs.Calls.{Change, grant, unlisted, Ends, reaching, reaching_both, no_free_process, add_process, drop_process, enter, fork, exec, exit, absent, hold_at, seen_or_held, look_at, looking, check, look, use_of, blocked, no_free_entry, no_free_node, new_node, one_more, with_entry, make_at, make, create, mkdir, symlink, link_at, link, without_entry, unlink_at, unlink, at_root, has_entries, directory_blocked, rmdir_at, rmdir, step}
use Rattle.model.specs.declared.Answer.{Answer}
use Rattle.model.specs.declared.Answer.TheVariants.{Held, Seen, Done}
use Rattle.laws.proofs.Bools.{neither_left, neither_right}
use Rattle.laws.proofs.Grants.{not_granted, same_grant, passed, both_granted, no_more, ◌or◌, by_number}

-- the answer and the tables that a granted call gave
pub record Gives (c : Change) (a : Answer) (t : Tables) : Type 0 where
  pub answer : c.answer ≡ a
  pub tables : c.tables ≡ t

gives : {c : Change} {a : Answer} {t : Tables} → grant a t ≡ granted c → Gives c a t
gives e =
    record { answer = sym (ap (λ (x : Change). x.answer) (same_grant e)); tables = sym (ap (λ (x : Change). x.tables) (same_grant e)) }

-- the holds that process p lacks for goal g
abbrev pub new_holds : Tables → ℕ → Goal → List Hold
new_holds t p g = lacking t.holds (wanted p g)

-- CALLS 1 TO 4

pub record Entered (t : Tables) (r : Call) (c : Change) : Type 0 where
  pub new : listed t.processes r.process ≡ false
  pub row : no_free_process t ≡ false
  pub gives :
      Gives c (Done r.process)
      (with_processes t (add_process r.process r.argument t.processes))

pub entered : (t : Tables) (r : Call) (c : Change) → enter t r ≡ granted c → Entered t r c
unfolding enter
entered t r c e =
    let new = passed 5 _ _ e in
    let row = passed 6 _ _ new.then in
    record { new = new.missed; row = row.missed; gives = gives row.then }

pub record Forked (t : Tables) (r : Call) (c : Change) : Type 0 where
  pub caller : unlisted t r.process ≡ false
  pub new : listed t.processes r.argument ≡ false
  pub row : no_free_process t ≡ false
  pub room : no_room t (copies r.process r.argument t.holds) ≡ false
  pub gives :
      Gives c (Done r.argument)
      (with_processes (with_holds t (add_holds (copies r.process r.argument t.holds) t.holds)) (add_process r.argument (user_of t.processes r.process) t.processes))

pub forked : (t : Tables) (r : Call) (c : Change) → fork t r ≡ granted c → Forked t r c
unfolding fork
forked t r c e =
    let caller = passed 4 _ _ e in
    let new = passed 5 _ _ caller.then in
    let row = passed 6 _ _ new.then in
    let room = passed 16 _ _ row.then in
    record { caller = caller.missed; new = new.missed; row = row.missed; room = room.missed; gives = gives room.then }

pub record Execed (t : Tables) (r : Call) (c : Change) : Type 0 where
  pub caller : unlisted t r.process ≡ false
  pub gives :
      Gives c (Done r.process)
      (with_holds t (drop_holds (of_process r.process) t.holds))

pub execed : (t : Tables) (r : Call) (c : Change) → exec t r ≡ granted c → Execed t r c
unfolding exec
execed t r c e =
    let caller = passed 4 _ _ e in
    record { caller = caller.missed; gives = gives caller.then }

pub record Exited (t : Tables) (r : Call) (c : Change) : Type 0 where
  pub caller : unlisted t r.process ≡ false
  pub gives :
      Gives c (Done r.process)
      (with_processes (with_holds t (drop_holds (of_process r.process) t.holds)) (drop_process r.process t.processes))

pub exited : (t : Tables) (r : Call) (c : Change) → exit t r ≡ granted c → Exited t r c
unfolding exit
exited t r c e =
    let caller = passed 4 _ _ e in
    record { caller = caller.missed; gives = gives caller.then }

-- WHERE PATHS LEAD

-- the caller is listed, and its path leads to the goal
pub record Came (t : Tables) (p : ℕ) (last : Bool) (path : List ℕ) (g : Goal) : Type 0 where
  pub caller : unlisted t p ≡ false
  pub walked : walk t.entries t.nodes last path ≡ granted g

came : (t : Tables) (p : ℕ) (last : Bool) (path : List ℕ) {g : Goal} → reaching t p last path ≡ granted g → Came t p last path g
unfolding reaching
came t p last path e = let caller = passed 4 _ _ e in record { caller = caller.missed; walked = caller.then }

-- the same of two paths
pub record BothCame (t : Tables) (p : ℕ) (path1 path2 : List ℕ) (ends : Ends) : Type 0 where
  pub new : Came t p false path1 ends.new
  pub old_walked : walk t.entries t.nodes false path2 ≡ granted ends.old

both_came : (t : Tables) (p : ℕ) (path1 path2 : List ℕ) (ends : Ends) → reaching_both t p path1 path2 ≡ granted ends →
    BothCame t p path1 path2 ends
unfolding reaching_both
both_came t p path1 path2 ends e =
    let new = both_granted _ _ e in
    let old = both_granted _ _ new.then in
    let is_new : new.what ≡ ends.new = ap (λ (x : Ends). x.new) (same_grant old.then) in
    let is_old : old.what ≡ ends.old = ap (λ (x : Ends). x.old) (same_grant old.then) in
    record { new = came t p false path1 (new.first ∙ ap granted is_new); old_walked = old.first ∙ ap granted is_old }

-- CALLS 5 TO 7

-- what stands at the end of the walk is held, or only seen where another user's end hold is in the way
pub data Saw (t : Tables) (p : ℕ) (g : Goal) (c : Change) : Type 0 where
  seen : (end_held t p g && not (root t p)) ≡ true → Gives c (Seen g.node) t → Saw t p g c
  held :
      (end_held t p g && not (root t p)) ≡ false → no_room t (new_holds t p g) ≡ false →
      Gives c (Held g.node)
      (with_holds t (taking t (wanted p g) (preempted t p g))) →
      Saw t p g c

saw : (t : Tables) (p : ℕ) (g : Goal) (c : Change) → seen_or_held t p g ≡ granted c → Saw t p g c
unfolding seen_or_held hold_at
saw t p g c e = go (end_held t p g && not (root t p)) refl e
  where
    go : (b : Bool) → (end_held t p g && not (root t p)) ≡ b →
        elim b [ true ↦ grant (Seen g.node) t | false ↦ hold_at t p g ] ≡ granted c → Saw t p g c
    go true way f = seen way (gives f)
    go false way f =
        let room = passed 16 _ _ f in
        held way room.missed (gives room.then)

pub record Looked (last must_exist : Bool) (t : Tables) (r : Call) (c : Change) : Type 0 where
  pub caller : unlisted t r.process ≡ false
  pub goal : Goal
  pub walked : walk t.entries t.nodes last r.path1 ≡ granted goal
  pub there : (must_exist && absent goal) ≡ false
  pub saw : Saw t r.process goal c

pub looked : (last must_exist : Bool) (t : Tables) (r : Call) (c : Change) → looking last must_exist t r ≡ granted c →
    Looked last must_exist t r c
unfolding looking look_at
looked last must_exist t r c e =
    let trip = both_granted _ _ e in
    let came = came t r.process last r.path1 trip.first in
    let there = passed 10 _ _ trip.then in
    record {
      caller = came.caller;
      goal = trip.what;
      walked = came.walked;
      there = there.missed;
      saw = saw t r.process trip.what c there.then;
    }

-- CALLS 8 TO 11

pub record Made (kind : ℕ) (target : List ℕ) (t : Tables) (r : Call) (c : Change) : Type 0 where
  pub caller : unlisted t r.process ≡ false
  pub goal : Goal
  pub walked : walk t.entries t.nodes false r.path1 ≡ granted goal
  pub absence : not (absent goal) ≡ false
  pub way : blocked t r.process goal ≡ false
  pub entry_row : no_free_entry t ≡ false
  pub node_row : no_free_node t ≡ false
  pub room : no_room t (new_holds t r.process goal) ≡ false
  pub gives :
      Gives c (Done (new_node t.nodes))
      (with_entry t r.process goal (new_node t.nodes) (record { kind = kind; count = 1; target = target }))

pub made : (kind : ℕ) (target : List ℕ) (t : Tables) (r : Call) (c : Change) → make kind target t r ≡ granted c →
    Made kind target t r c
unfolding make make_at
made kind target t r c e =
    let trip = both_granted _ _ e in
    let came = came t r.process false r.path1 trip.first in
    let absence = passed 11 _ _ trip.then in
    let way = passed 14 _ _ absence.then in
    let rows = passed 15 _ _ way.then in
    let room = passed 16 _ _ rows.then in
    record {
      caller = came.caller;
      goal = trip.what;
      walked = came.walked;
      absence = absence.missed;
      way = way.missed;
      entry_row = neither_left _ _ rows.missed;
      node_row = neither_right (no_free_entry t) _ rows.missed;
      room = room.missed;
      gives = gives room.then;
    }

pub record Linked (t : Tables) (r : Call) (c : Change) : Type 0 where
  pub caller : unlisted t r.process ≡ false
  pub goal : Goal
  pub walked : walk t.entries t.nodes false r.path1 ≡ granted goal
  pub old : Goal
  pub old_walked : walk t.entries t.nodes false r.path2 ≡ granted old
  pub old_there : absent old ≡ false
  pub absence : not (absent goal) ≡ false
  pub old_no_directory : is_directory t.nodes old.node ≡ false
  pub way : blocked t r.process goal ≡ false
  pub entry_row : no_free_entry t ≡ false
  pub room : no_room t (new_holds t r.process goal) ≡ false
  pub gives :
      Gives c (Done old.node)
      (with_entry t r.process goal old.node (one_more (node_at t.nodes old.node)))

pub linked : (t : Tables) (r : Call) (c : Change) → link t r ≡ granted c → Linked t r c
unfolding link link_at
linked t r c e =
    let both = both_granted _ _ e in
    let way = both_came t r.process r.path1 r.path2 both.what both.first in
    let old_there = passed 10 _ _ both.then in
    let absence = passed 11 _ _ old_there.then in
    let old_kind = passed 12 _ _ absence.then in
    let no_hold = passed 14 _ _ old_kind.then in
    let entry_row = passed 15 _ _ no_hold.then in
    let room = passed 16 _ _ entry_row.then in
    record {
      caller = way.new.caller;
      goal = both.what.new;
      walked = way.new.walked;
      old = both.what.old;
      old_walked = way.old_walked;
      old_there = old_there.missed;
      absence = absence.missed;
      old_no_directory = old_kind.missed;
      way = no_hold.missed;
      entry_row = entry_row.missed;
      room = room.missed;
      gives = gives room.then;
    }

-- CALLS 12 AND 13

pub record Unlinked (t : Tables) (r : Call) (c : Change) : Type 0 where
  pub caller : unlisted t r.process ≡ false
  pub goal : Goal
  pub walked : walk t.entries t.nodes false r.path1 ≡ granted goal
  pub there : absent goal ≡ false
  pub no_directory : is_directory t.nodes goal.node ≡ false
  pub way : blocked t r.process goal ≡ false
  pub room : no_room t (new_holds t r.process goal) ≡ false
  pub gives :
      Gives c (Done goal.node)
      (without_entry t goal (taking t (wanted r.process goal) (overruled t r.process goal)))

pub unlinked : (t : Tables) (r : Call) (c : Change) → unlink t r ≡ granted c → Unlinked t r c
unfolding unlink unlink_at
unlinked t r c e =
    let trip = both_granted _ _ e in
    let came = came t r.process false r.path1 trip.first in
    let there = passed 10 _ _ trip.then in
    let kind = passed 12 _ _ there.then in
    let way = passed 14 _ _ kind.then in
    let room = passed 16 _ _ way.then in
    record {
      caller = came.caller;
      goal = trip.what;
      walked = came.walked;
      there = there.missed;
      no_directory = kind.missed;
      way = way.missed;
      room = room.missed;
      gives = gives room.then;
    }

pub record Rmdired (t : Tables) (r : Call) (c : Change) : Type 0 where
  pub caller : unlisted t r.process ≡ false
  pub goal : Goal
  pub walked : walk t.entries t.nodes false r.path1 ≡ granted goal
  pub there : absent goal ≡ false
  pub not_root : at_root goal ≡ false
  pub a_directory_there : not (is_directory t.nodes goal.node) ≡ false
  pub empty : has_entries t.entries goal.node ≡ false
  pub way : directory_blocked t r.process goal ≡ false
  pub room : no_room t (new_holds t r.process goal) ≡ false
  pub gives :
      Gives c (Done goal.node)
      (without_entry t goal (taking t (wanted r.process goal) (emptied t r.process goal)))

pub rmdired : (t : Tables) (r : Call) (c : Change) → rmdir t r ≡ granted c → Rmdired t r c
unfolding rmdir rmdir_at
rmdired t r c e =
    let trip = both_granted _ _ e in
    let came = came t r.process false r.path1 trip.first in
    let there = passed 10 _ _ trip.then in
    let kind = passed 12 _ _ there.then in
    let empty = passed 13 _ _ kind.then in
    let way = passed 14 _ _ empty.then in
    let room = passed 16 _ _ way.then in
    record {
      caller = came.caller;
      goal = trip.what;
      walked = came.walked;
      there = there.missed;
      not_root = neither_left _ _ kind.missed;
      a_directory_there = neither_right (at_root trip.what) _ kind.missed;
      empty = empty.missed;
      way = way.missed;
      room = room.missed;
      gives = gives room.then;
    }

-- ALL CALLS

pub data Step (t : Tables) (r : Call) (c : Change) : Type 0 where
  by_enter : r.call ≡ 1 → Entered t r c → Step t r c
  by_fork : r.call ≡ 2 → Forked t r c → Step t r c
  by_exec : r.call ≡ 3 → Execed t r c → Step t r c
  by_exit : r.call ≡ 4 → Exited t r c → Step t r c
  by_check : r.call ≡ 5 → Looked true false t r c → Step t r c
  by_look : r.call ≡ 6 → Looked false false t r c → Step t r c
  by_use : r.call ≡ 7 → Looked true true t r c → Step t r c
  by_create : r.call ≡ 8 → Made a_file [] t r c → Step t r c
  by_mkdir : r.call ≡ 9 → Made a_directory [] t r c → Step t r c
  by_symlink : r.call ≡ 10 → Made a_link r.path2 t r c → Step t r c
  by_link : r.call ≡ 11 → Linked t r c → Step t r c
  by_unlink : r.call ≡ 12 → Unlinked t r c → Step t r c
  by_rmdir : r.call ≡ 13 → Rmdired t r c → Step t r c

pub step_cases : (t : Tables) (r : Call) (c : Change) → step t r ≡ granted c → Step t r c
unfolding step check look use_of create mkdir symlink
step_cases t r c e =
    by_number
    ((λ i f. not_granted f)
    or (λ i f. by_enter i (entered t r c f))
    or (λ i f. by_fork i (forked t r c f))
    or (λ i f. by_exec i (execed t r c f))
    or (λ i f. by_exit i (exited t r c f))
    or (λ i f. by_check i (looked true false t r c f))
    or (λ i f. by_look i (looked false false t r c f))
    or (λ i f. by_use i (looked true true t r c f))
    or (λ i f. by_create i (made a_file [] t r c f))
    or (λ i f. by_mkdir i (made a_directory [] t r c f))
    or (λ i f. by_symlink i (made a_link r.path2 t r c f))
    or (λ i f. by_link i (linked t r c f))
    or (λ i f. by_unlink i (unlinked t r c f))
    or (λ i f. by_rmdir i (rmdired t r c f))
    or no_more)
    2 r.call (omega arith) e
