-- Calls 5 to 7, check, look and use: tables in order stay in order. Assumes nothing.
use mathlib.Core.Path.{◌≡◌}
use mathlib.Core.Bool.{Bool, true, false, not, ◌&&◌}
use Prim.Native.Nat.{ℕ}
use Rattle.model.specs.Paths.{valid_path}
use Rattle.model.specs.Tables.{Tables, with_holds}
use Rattle.model.specs.Records.{Call}
use Rattle.model.specs.Walk.{Goal}
use Rattle.model.specs.Holds.{root, end_held, preempted, taking, wanted}
use Rattle.model.specs.Calls.{Change}
use Rattle.invariants.proofs.Cases.{Saw, seen, held, Looked}
use Rattle.invariants.proofs.Walks.{Arrived}
use Rattle.invariants.proofs.Order.{InOrder, rows_same, same_tree, Proper, Caller, caller_of}
use Rattle.invariants.proofs.Goals.{Valid, goal_arrives, holding_after, taken_kept}
use Rattle.invariants.proofs.InTheWay.{held_ours}

module _ (t : Tables) (order : InOrder t) (p : ℕ) (caller : Caller t.processes p) (g : Goal)
    (arrived : Arrived Valid t.entries t.nodes g) where
  held_order : (end_held t p g && not (root t p)) ≡ false →
      InOrder (with_holds t (taking t (wanted p g) (preempted t p g)))
  held_order way =
      same_tree t (taking t (wanted p g) (preempted t p g)) t.processes order
      (holding_after t order p caller g arrived t.nodes (preempted t p g) (λ h m used kept d. d) (λ q met d. d) (held_ours t p g way)) order.sound.distinct_processes
      (taken_kept t order p caller g arrived (preempted t p g)) (rows_same order.fits.processes_fit)

  saw_order : (c : Change) → Saw t p g c → InOrder c.tables
  saw_order c (seen way gives) = rw gives.tables order
  saw_order c (held way room gives) = rw gives.tables (held_order way)

pub look_keeps : (t : Tables) → InOrder t → (r : Call) → Proper r → valid_path r.path1 ≡ true → (last must_exist : Bool) (c : Change) →
    Looked last must_exist t r c → InOrder c.tables
look_keeps t order r proper valid last must_exist c is =
    saw_order t order r.process (caller_of t r proper is.caller) is.goal
    (goal_arrives t order last r.path1 is.goal proper.path1 valid is.walked) c is.saw
