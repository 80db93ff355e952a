-- Tests on one hold put together otherwise, as the model has them. Assumes nothing.
use mathlib.Core.Path.{◌≡◌, refl, sym, ap, ◌∙◌}
use mathlib.Core.Bool.{Bool, true, false, not, ◌&&◌}
use mathlib.Core.List.{List}
use mathlib.Core.Option.{some}
use Prim.Native.Nat.{ℕ, ◌+◌, ◌<◌}
use native.Mathlib.Omega.{arith}
use borrow.Author.Tests.{eq-eqb, ne_eqb}
use lib.Dec.{eqb}
use lib.ListN.{drop}
use Rattle.model.specs.Lists.{any, same}
use Rattle.model.specs.Words.{unpack}
use Rattle.model.specs.Tables.{Tables, Hold, hold_rows, no_hold, free_hold, same_place, user_of}
use Rattle.model.specs.Sound.{is_end}
use Rattle.model.specs.Holds.{foreign, on, inside}
use Rattle.laws.proofs.Bools.{and_left, and_right, and_false, both, and_joins, stopped}
use Rattle.laws.proofs.Loops.{any_found, any_onward}
use Rattle.rows.specs.Blocks.{place_of}
use Rattle.rows.specs.Stands.{hold_row}
use Rattle.rows.proofs.Parts.{holds_full}
use Rattle.search.specs.declared.Caller.{Caller}
use Rattle.search.specs.Callers.{Known}
use Rattle.goals.specs.declared.Place.{Place}
use Rattle.goals.specs.Goals.{place_at}
use Rattle.holds.specs.Asks.{of_another, holds_on, ends_on}

implied : (p x : Bool) → (x ≡ true → p ≡ true) → (p && x) ≡ x
implied true x h = refl
implied false true h = h refl
implied false false h = refl

pub another_is : (h : Hold) (t : Tables) (c : Caller) → Known t.processes c → of_another t.processes c.user h ≡ foreign t c.process h
unfolding of_another foreign
another_is h t c known = ap (λ u. not (free_hold h) && not (eqb (user_of t.processes h.process) u)) known.user

module _ (q : Place) (h : Hold) where
  -- what is on a place is inside its directory
  on_inside : on (some (place_at q)) h ≡ true → inside q.directory h ≡ true
  unfolding on inside same_place place_at place_of
  on_inside e = and_left (eqb h.place.directory q.directory) (same h.place.name (place_at q).name) e

  module _ (t : Tables) (c : Caller) (known : Known t.processes c) where
    pub held_is : holds_on t.processes q c.user h ≡ (on (some (place_at q)) h && foreign t c.process h)
    unfolding holds_on
    held_is = ap (λ b. on (some (place_at q)) h && b) (another_is h t c known)

    pub ended_is : ends_on t.processes q c.user h ≡ (is_end h && on (some (place_at q)) h && foreign t c.process h)
    unfolding ends_on
    ended_is = ap (λ b. is_end h && b) held_is ∙ and_joins (is_end h) (on (some (place_at q)) h) (foreign t c.process h)

    -- so that the directory need not be asked for
    pub held_inside : (inside q.directory h && holds_on t.processes q c.user h) ≡ (on (some (place_at q)) h && foreign t c.process h)
    held_inside =
        ap (λ b. inside q.directory h && b) held_is
        ∙ implied (inside q.directory h) (on (some (place_at q)) h && foreign t c.process h)
        (λ e. on_inside (and_left (on (some (place_at q)) h) (foreign t c.process h) e))

    pub ended_inside : (inside q.directory h && ends_on t.processes q c.user h) ≡ (is_end h && on (some (place_at q)) h && foreign t c.process h)
    ended_inside =
        ap (λ b. inside q.directory h && b) ended_is
        ∙ implied (inside q.directory h) (is_end h && on (some (place_at q)) h && foreign t c.process h)
        (λ e. on_inside (and_right (is_end h) (on (some (place_at q)) h) (and_left (is_end h && on (some (place_at q)) h) (foreign t c.process h) e)))

-- A ROW that a pass looked at: its directory was asked, and then the test

module _ (w : List ℕ) (d : ℕ) (asks : Hold → Bool) (i : ℕ) (below : i < hold_rows) {k : ℕ} (e : k ≡ (hold_row w i).place.directory) {v : Bool}
    (so_far : any (λ h. inside d h && asks h) (drop i (unpack w).holds) ≡ v) where
  passed_over : (inside d (hold_row w i) && asks (hold_row w i)) ≡ false → any (λ h. inside d h && asks h) (drop (i + 1) (unpack w).holds) ≡ v
  passed_over n = any_onward (λ h. inside d h && asks h) no_hold (unpack w).holds i (omega (arith, holds_full w)) n so_far

  pub row_elsewhere : (k ≡ d → ⊥) → any (λ h. inside d h && asks h) (drop (i + 1) (unpack w).holds) ≡ v
  unfolding inside
  row_elsewhere n = passed_over (sym (stopped (asks (hold_row w i)) (ne_eqb (hold_row w i).place.directory d (λ q. n (e ∙ q)))))

  module _ {b : Bool} (told : b ≡ asks (hold_row w i)) where
    pub row_missed : b ≡ false → any (λ h. inside d h && asks h) (drop (i + 1) (unpack w).holds) ≡ v
    row_missed n = passed_over (and_false (inside d (hold_row w i)) (asks (hold_row w i)) (λ _. sym told ∙ n))

    pub row_met : k ≡ d → b ≡ true → true ≡ v
    unfolding inside
    row_met q t =
        any_found (λ h. inside d h && asks h) no_hold (unpack w).holds i (omega (arith, holds_full w))
        (both (eq-eqb (hold_row w i).place.directory d (sym e ∙ q)) (sym told ∙ t)) so_far
