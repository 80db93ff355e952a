-- Calls 1 to 4, enter, fork, exec and exit, leave what process p pins. Enter and fork ask nothing of the caller: the process that they list is
-- not p, for p is listed. Assumes nothing.
use mathlib.Core.Path.{◌≡◌, refl, sym}
use mathlib.Core.Bool.{false}
use mathlib.Core.Logic.{◌≢◌}
use Prim.Native.Nat.{ℕ}
use borrow.Author.Tests.{ne_eqb}
use Rattle.model.specs.Tables.{Place, Tables, listed, user_of}
use Rattle.model.specs.Records.{Call}
use Rattle.model.specs.Holds.{of_process, hold_by, add_holds, copies, drop_holds}
use Rattle.model.specs.Calls.{Change, add_process, drop_process}
use Rattle.laws.proofs.Bools.{clash}
use Rattle.invariants.proofs.Cases.{Entered, Forked, Execed, Exited}
use Rattle.guard.proofs.Pins.{Has, Frame}
use Rattle.guard.proofs.Edits.{mine_add, has_drop, listed_add, user_add, listed_drop, user_drop}
use Rattle.guard.proofs.AnotherUser.{Present, OfAnotherUser, apart, tree_frame}
use Rattle.guard.proofs.Seen.{of_process_sees}

module _ (p : ℕ) (t : Tables) (r : Call) (c : Change) where
  unlisted_other : (q : ℕ) → Present p t → listed t.processes q ≡ false → q ≢ p
  unlisted_other q present e same = clash present.listing (rw same at e)

  pub enter_frame : Present p t → Entered t r c → Frame p t c.tables
  enter_frame present e =
      let other = unlisted_other r.process present e.new in
      rw e.gives.tables
      (tree_frame p t t.holds (add_process r.process r.argument t.processes)
      (listed_add p r.process present.used other r.argument t.processes)
      (user_add p r.process present.used other r.argument t.processes) (λ role q used h. h))

  pub fork_frame : Present p t → Forked t r c → Frame p t c.tables
  fork_frame present e =
      let other = unlisted_other r.argument present e.new in
      let user = user_of t.processes r.process in
      let new = copies r.process r.argument t.holds in
      rw e.gives.tables
      (tree_frame p t (add_holds new t.holds) (add_process r.argument user t.processes)
      (listed_add p r.argument present.used other user t.processes)
      (user_add p r.argument present.used other user t.processes)
      (mine_add p new t.holds))

  -- the caller drops its own holds
  keeps_mine : OfAnotherUser p r.process t → (role : ℕ) (q : Place) → q.directory ≢ 0 → Has t.holds (hold_by p role q) →
      Has (drop_holds (of_process r.process) t.holds) (hold_by p role q)
  unfolding of_process hold_by
  keeps_mine another role q used h =
      has_drop (hold_by p role q) used (of_process r.process) (of_process_sees r.process) t.holds
      (ne_eqb p r.process (λ e. apart p r.process t another (sym e))) h

  pub exec_frame : OfAnotherUser p r.process t → Execed t r c → Frame p t c.tables
  exec_frame another e =
      rw e.gives.tables
      (tree_frame p t (drop_holds (of_process r.process) t.holds) t.processes refl refl (keeps_mine another))

  pub exit_frame : OfAnotherUser p r.process t → Exited t r c → Frame p t c.tables
  exit_frame another e =
      let used = another.present.used in
      let other = apart p r.process t another in
      rw e.gives.tables
      (tree_frame p t (drop_holds (of_process r.process) t.holds) (drop_process r.process t.processes)
      (listed_drop p r.process used other t.processes) (user_drop p r.process used other t.processes) (keeps_mine another))
