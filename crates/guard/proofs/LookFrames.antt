-- Calls 5 to 7, check, look and use, leave what process p pins: another user only adds holds of its own. Assumes nothing.
use mathlib.Core.Path.{refl}
use mathlib.Core.Bool.{Bool}
use Prim.Native.Nat.{ℕ}
use Rattle.model.specs.Tables.{Tables}
use Rattle.model.specs.Records.{Call}
use Rattle.model.specs.Holds.{preempted, taking, wanted}
use Rattle.model.specs.Walk.{Goal}
use Rattle.model.specs.Calls.{Change}
use Rattle.invariants.proofs.Cases.{Saw, seen, held, Looked}
use Rattle.guard.proofs.Pins.{Frame}
use Rattle.guard.proofs.Edits.{mine_taking}
use Rattle.guard.proofs.AnotherUser.{OfAnotherUser, same_frame, tree_frame, preempts_none}
use Rattle.guard.proofs.Seen.{preempted_sees}

saw_frame : (p q : ℕ) (t : Tables) (g : Goal) (c : Change) → OfAnotherUser p q t → Saw t q g c → Frame p t c.tables
saw_frame p q t g c another (seen way gives) = rw gives.tables (same_frame p t)
saw_frame p q t g c another (held way room gives) =
    rw gives.tables
    (tree_frame p t (taking t (wanted q g) (preempted t q g)) t.processes refl refl
    (λ role at used. mine_taking p t (wanted q g) (preempted t q g) (preempted_sees t q g) role at used (preempts_none p q t another g _)))

pub look_frame : (p : ℕ) (t : Tables) (r : Call) (c : Change) {last must_exist : Bool} → OfAnotherUser p r.process t →
    Looked last must_exist t r c → Frame p t c.tables
look_frame p t r c another e = saw_frame p r.process t e.goal c another e.saw
