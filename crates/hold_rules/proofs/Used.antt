-- The rows of the holds in use: how the last is found, and that those behind it are free. Assumes nothing.
use mathlib.Core.Path.{◌≡◌, refl, sym, ap, ◌∙◌}
use mathlib.Core.Bool.{true, not}
use mathlib.Core.List.{List}
use Prim.Native.Nat.{ℕ, suc, ◌+◌, ◌-◌, ◌≤◌, ◌<◌}
use native.Mathlib.Omega.{arith}
use native.Mathlib.Numerals.{add-one}
use borrow.Author.Tests.{eq-eqb, ne_eqb}
use Rattle.model.specs.Tables.{free_hold, hold_rows}
use Rattle.laws.proofs.Bools.{not_false, is_false}
use Rattle.rows.specs.Stands.{hold_row}
use Rattle.index.specs.Buckets.{last_below}
use Rattle.index.proofs.Buckets.{last_here, last_earlier, last_of_none, last_within, last_covers}
use Rattle.hold_rules.specs.Used.{hold_used, used_rows}

-- the rows from i on are free
pub record FreeFrom (w : List ℕ) (i : ℕ) : Type 0 where
  pub inside : i ≤ hold_rows
  pub same : last_below (hold_used w) i ≡ used_rows w

module _ (w : List ℕ) where
  pub free_from_starts : FreeFrom w hold_rows
  free_from_starts = record { inside = omega arith; same = refl }

  module _ {i : ℕ} (g : FreeFrom w i) (some : 0 < i) {d : ℕ} (e : d ≡ (hold_row w (i - 1)).place.directory) where
    this : suc (i - 1) ≡ i
    this = omega arith

    pub free_from_below : d ≡ 0 → FreeFrom w (i - 1)
    unfolding free_hold
    free_from_below f =
        record {
          inside = omega (arith, g.inside);
          same =
              sym (last_earlier (hold_used w) (i - 1) (ap not (eq-eqb (hold_row w (i - 1)).place.directory 0 (sym e ∙ f))))
              ∙ ap (last_below (hold_used w)) this ∙ g.same;
        }

    pub last_used : (d ≡ 0 → ⊥) → i - 1 + 1 ≡ used_rows w
    unfolding free_hold
    last_used f =
        add-one (i - 1) ∙ sym (last_here (hold_used w) (i - 1) (ap not (ne_eqb (hold_row w (i - 1)).place.directory 0 (λ y. f (e ∙ y)))))
        ∙ ap (last_below (hold_used w)) this ∙ g.same

  pub none_used : {i : ℕ} → FreeFrom w i → i ≤ 0 → 0 ≡ used_rows w
  none_used {i} g h =
      let z : 0 ≡ i = omega arith in
      sym (last_of_none (hold_used w)) ∙ ap (last_below (hold_used w)) z ∙ g.same

  module _ {rows : ℕ} (e : rows ≡ used_rows w) where
    pub used_inside : rows ≤ hold_rows
    used_inside = omega (arith, last_within (hold_used w) hold_rows)

    pub free_behind : (k : ℕ) → rows ≤ k → k < hold_rows → free_hold (hold_row w k) ≡ true
    free_behind k h l =
        not_false (free_hold (hold_row w k)) (is_false (hold_used w k) (λ t.
        let c = last_covers (hold_used w) hold_rows k l t in
        let x : ⊥ = omega arith in x))
