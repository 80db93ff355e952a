-- Places and holds compared: the test that two are the same says that all of them is equal that it asks. Assumes nothing.
use mathlib.Core.Path.{◌≡◌, refl, ap, ap₂}
use mathlib.Core.Bool.{true, false, ◌&&◌}
use mathlib.Core.Logic.{◌≢◌}
use Prim.Native.Nat.{ℕ}
use borrow.Author.Tests.{eqb-true, eq-eqb, ne_eqb}
use lib.Dec.{eqb}
use Rattle.model.specs.Paths.{Name}
use Rattle.model.specs.Tables.{Place, Hold, free_hold, same_place}
use Rattle.model.specs.Sound.{same_hold}
use Rattle.laws.proofs.Bools.{and_left, and_right, both, is_false}
use Rattle.laws.proofs.Pieces.{same_self, same_equal}

pub same_place_self : (a : Place) → same_place a a ≡ true
unfolding same_place
same_place_self a = both (eq-eqb a.directory a.directory refl) (same_self a.name)

pub same_place_directory : (a b : Place) → same_place a b ≡ true → a.directory ≡ b.directory
unfolding same_place
same_place_directory a b e = eqb-true a.directory b.directory (and_left _ _ e)

pub same_place_equal : (a b : Place) → same_place a b ≡ true → a ≡ b
unfolding same_place
same_place_equal a b e =
    ap₂ (λ (d : ℕ) (n : Name). record { directory = d; name = n }) (eqb-true a.directory b.directory (and_left _ _ e))
    (same_equal a.name b.name (and_right (eqb a.directory b.directory) _ e))

pub other_place : (a b : Place) → a ≢ b → same_place a b ≡ false
other_place a b differ = is_false (same_place a b) (λ e. differ (same_place_equal a b e))

pub other_directory : (a b : Place) → a.directory ≢ b.directory → same_place a b ≡ false
unfolding same_place
other_directory a b differ = rw (ne_eqb a.directory b.directory differ)

pub same_hold_self : (h : Hold) → same_hold h h ≡ true
unfolding same_hold
same_hold_self h =
    both (both (eq-eqb h.process h.process refl) (eq-eqb h.role h.role refl)) (same_place_self h.place)

-- Two holds with equal place, process and role are one, whatever else a row may have.
pub record OneHold (a b : Hold) : Type 0 where
  pub place : a.place ≡ b.place
  pub process : a.process ≡ b.process
  pub role : a.role ≡ b.role

pub same_hold_one : (a b : Hold) → same_hold a b ≡ true → OneHold a b
unfolding same_hold
same_hold_one a b e =
    let numbers = and_left (eqb a.process b.process && eqb a.role b.role) _ e in
    record {
      place = same_place_equal a.place b.place (and_right (eqb a.process b.process && eqb a.role b.role) _ e);
      process = eqb-true a.process b.process (and_left _ _ numbers);
      role = eqb-true a.role b.role (and_right (eqb a.process b.process) _ numbers);
    }

pub same_hold_turned : (a b : Hold) → same_hold a b ≡ true → same_hold b a ≡ true
unfolding same_hold
same_hold_turned a b e = let one = same_hold_one a b e in rw (one.place, one.process, one.role) (same_hold_self b)

-- it is free or used in both rows
pub free_together : (a b : Hold) → same_hold a b ≡ true → free_hold a ≡ free_hold b
unfolding free_hold
free_together a b e = ap (λ (q : Place). eqb q.directory 0) (same_hold_one a b e).place
