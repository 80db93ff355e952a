-- Every call by another user leaves what process p pins: one frame for each call. Assumes nothing.
use mathlib.Core.Path.{◌≡◌}
use mathlib.Core.Logic.{◌≢◌}
use Prim.Native.Nat.{ℕ}
use native.Mathlib.Omega.{arith}
use Rattle.model.specs.Refusals.{granted}
use Rattle.model.specs.Tables.{Tables}
use Rattle.model.specs.Records.{Call}
use Rattle.model.specs.Calls.{Change, step}
use Rattle.invariants.proofs.Cases.{Step, by_enter, by_fork, by_exec, by_exit, by_check, by_look, by_use, by_create, by_mkdir, by_symlink, by_link, by_unlink, by_rmdir, step_cases}
use Rattle.guard.proofs.Demand3.{enter_call}
use Rattle.guard.proofs.Pins.{Frame}
use Rattle.guard.proofs.AnotherUser.{Present, OfAnotherUser}
use Rattle.guard.proofs.Steady.{Steady}
use Rattle.guard.proofs.ProcessFrames.{enter_frame, fork_frame, exec_frame, exit_frame}
use Rattle.guard.proofs.LookFrames.{look_frame}
use Rattle.guard.proofs.CreationFrames.{make_frame, link_frame}
use Rattle.guard.proofs.RemovalFrames.{unlink_frame, rmdir_frame}

-- `another`: any other call than an enter is by a process of another user, not root
frame : (p : ℕ) (t : Tables) (r : Call) (c : Change) → Steady t → Present p t → (r.call ≢ enter_call → OfAnotherUser p r.process t) → Step t r c →
    Frame p t c.tables
frame p t r c steady present another (by_enter n e) = enter_frame p t r c present e
frame p t r c steady present another (by_fork n e) = fork_frame p t r c present e
frame p t r c steady present another (by_exec n e) = exec_frame p t r c (another (omega arith)) e
frame p t r c steady present another (by_exit n e) = exit_frame p t r c (another (omega arith)) e
frame p t r c steady present another (by_check n e) = look_frame p t r c (another (omega arith)) e
frame p t r c steady present another (by_look n e) = look_frame p t r c (another (omega arith)) e
frame p t r c steady present another (by_use n e) = look_frame p t r c (another (omega arith)) e
frame p t r c steady present another (by_create n e) = make_frame p t r c steady (another (omega arith)) e
frame p t r c steady present another (by_mkdir n e) = make_frame p t r c steady (another (omega arith)) e
frame p t r c steady present another (by_symlink n e) = make_frame p t r c steady (another (omega arith)) e
frame p t r c steady present another (by_link n e) = link_frame p t r c steady (another (omega arith)) e
frame p t r c steady present another (by_unlink n e) = unlink_frame p t r c steady (another (omega arith)) e
frame p t r c steady present another (by_rmdir n e) = rmdir_frame p t r c steady (another (omega arith)) e

pub step_frame : (p : ℕ) (t : Tables) (r : Call) (c : Change) → Steady t → Present p t → (r.call ≢ enter_call → OfAnotherUser p r.process t) →
    step t r ≡ granted c → Frame p t c.tables
step_frame p t r c steady present another e = frame p t r c steady present another (step_cases t r c e)
