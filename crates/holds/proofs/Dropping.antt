-- The loop that drops holds: a row, and what is left from there on. Assumes nothing.
use mathlib.Core.Path.{◌≡◌, ap, ◌∙◌}
use mathlib.Core.Bool.{Bool, true, false}
use mathlib.Core.List.{List}
use Prim.Native.Nat.{ℕ, ◌+◌, ◌≤◌, ◌<◌}
use native.Mathlib.Omega.{arith}
use lib.ListN.{set}
use Rattle.model.specs.Tables.{hold_rows, Tables, Hold, Process, no_hold, with_holds}
use Rattle.model.specs.Words.{unpack}
use Rattle.model.specs.Holds.{drop_holds}
use Rattle.laws.proofs.Loops.{clear_from, clear_start, clear_here, clear_onward, clear_done}
use Rattle.rows.specs.Stands.{Stands, Becomes, hold_row}
use Rattle.rows.proofs.Parts.{holds_full}
use Rattle.holds.proofs.Towards.{Towards, begin, go_on, arrive}

-- the test may look at the processes, which no drop changes
abbrev pub dropping : (List Process → Hold → Bool) → ℕ → Tables → Tables
dropping f i t = with_holds t (clear_from (f t.processes) no_hold i t.holds)

-- what is left to drop from row i on gives what the whole drop gives
abbrev pub LeftToDrop : (List Process → Hold → Bool) → List ℕ → ℕ → List ℕ → Type 0
LeftToDrop f w i v = Towards (dropping f) (with_holds (unpack w) (drop_holds (f (unpack w).processes) (unpack w).holds)) i v

module _ (f : List Process → Hold → Bool) where
  pub drop_begin : {w : List ℕ} → Stands w → LeftToDrop f w 0 w
  unfolding drop_holds
  drop_begin {w} s = begin (dropping f) s (ap (with_holds (unpack w)) (clear_start (f (unpack w).processes) no_hold (unpack w).holds))

  module _ (i : ℕ) {t : Tables} {v : List ℕ} (a : Towards (dropping f) t i v) where
    -- row i passes, and is cleared
    pub drop_here : {u : List ℕ} → i < hold_rows → f (unpack v).processes (hold_row v i) ≡ true
        → Becomes u (with_holds (unpack v) (set (unpack v).holds i no_hold)) → Towards (dropping f) t (i + 1) u
    drop_here h e b =
        go_on (dropping f) i a b
        (ap (with_holds (unpack v)) (clear_here (f (unpack v).processes) no_hold no_hold i (unpack v).holds (omega (arith, holds_full v)) e))

    -- it does not
    pub drop_past : i < hold_rows → f (unpack v).processes (hold_row v i) ≡ false → Towards (dropping f) t (i + 1) v
    drop_past h e =
        record {
          stands = a.stands;
          rest = ap (with_holds (unpack v)) (clear_onward (f (unpack v).processes) no_hold no_hold i (unpack v).holds (omega (arith, holds_full v)) e) ∙ a.rest;
        }

    pub drop_end : hold_rows ≤ i → Becomes v t
    drop_end h = arrive (dropping f) i a (ap (with_holds (unpack v)) (clear_done (f (unpack v).processes) no_hold i (unpack v).holds (omega (arith, holds_full v))))
