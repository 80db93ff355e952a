-- Bytes moved to the front are those that stood behind, and the lines of what is held fit. Assumes nothing.
use mathlib.Core.Path.{◌≡◌, sym, ap, ◌∙◌}
use mathlib.Core.Bool.{Bool}
use mathlib.Core.List.{List, ◌++◌}
use Prim.Native.Nat.{ℕ, ◌+◌, ◌≤◌}
use native.Mathlib.Omega.{arith}
use lib.ListN.{length, take, drop, length-take, length-drop}
use lib.Seq.{paste, sets-eq, length-take-le}
use Rattle.listing.specs.declared.Part.{Part}
use Rattle.lines.specs.Puts.{Puts}
use Rattle.listing.specs.Parts.{filled, list_part}
use Rattle.lines.proofs.Runs.{puts_length}
use Rattle.listing.proofs.PartFacts.{answered_facts}

-- what `copy_within` leaves is as many stores at the front
pub put_front : (l : List ℕ) (from kept : ℕ) {m : List ℕ} → kept ≤ length (drop from l) → m ≡ paste l 0 (drop from l) kept → Puts l 0 (take kept (drop from l)) kept m
put_front l from kept {m} h e =
    let n : length (take kept (drop from l)) ≡ kept = length-take-le kept (drop from l) h in
    let k : 0 + length (take kept (drop from l)) ≤ length l = omega (arith, length-drop from l) in
    record {
      end_is = omega arith;
      bytes_are = e ∙ ap (λ j. take 0 l ++ take kept (drop from l) ++ drop (0 + j) l) (sym n) ∙ sym (sets-eq (take kept (drop from l)) l 0 k);
    }

-- what was kept is within the buffer
pub kept_fits : (l : List ℕ) (from kept : ℕ) {m : List ℕ} {end : ℕ} → Puts l 0 (take kept (drop from l)) end m → end ≤ length m
kept_fits l from kept p = omega (arith, p.end_is, puts_length p, length-take kept (drop from l), length-drop from l)

-- THE LINES OF WHAT IS HELD: they fit the destination, and the bytes taken are among those held
module _ (last : Bool) (w bytes : List ℕ) (held place : ℕ) (out : List ℕ) {r : Part} {v o : List ℕ}
    (e : filled r v o ≡ list_part last w (take held bytes) place out) where
  pub lines_fit : length o ≡ length out → (r.length ≤ length o) × (r.length ≡ length (take r.length o))
  lines_fit k =
      let h : r.length ≤ length o = omega (arith, (answered_facts last w (take held bytes) place out e).fits_out) in
      (h, sym (length-take-le r.length o h))

  pub taken_held : r.taken ≤ held
  taken_held = omega (arith, (answered_facts last w (take held bytes) place out e).takes_there, length-take held bytes)
