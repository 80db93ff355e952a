-- One row tested as the model tests it, and what a search's row gives. Assumes nothing.
use mathlib.Core.Path.{◌≡◌, refl, sym, ap, ◌∙◌}
use mathlib.Core.Bool.{Bool, true, false, ◌&&◌}
use mathlib.Core.Option.{some}
use mathlib.Core.List.{List, [], ◌∷◌}
use Prim.Native.Nat.{ℕ}
use borrow.Author.Tests.{eq-eqb, ne_eqb, eqb-true, eqb-false}
use lib.Dec.{eqb}
use Rattle.model.specs.Lists.{same, first}
use Rattle.model.specs.Tables.{Place, Hold, Process, no_process, same_place, is_process, user_of}
use Rattle.model.specs.Holds.{on}
use Rattle.model.specs.Sound.{same_hold}
use Rattle.model.specs.Words.{unpack}
use Rattle.laws.proofs.Loops.{find_first}
use Rattle.laws.proofs.Words.{NameFits, name_back as name_comes_back}
use Rattle.rows.specs.declared.Block.{Block}
use Rattle.rows.specs.declared.HoldRow.{HoldRow}
use Rattle.rows.specs.Blocks.{Named, block_of, same_block, place_of}
use Rattle.rows.specs.Rows.{hold_of}
use Rattle.rows.specs.Stands.{process_row}
use Rattle.rows.proofs.Blocks.{same_name_block}

-- A PLACE: the directory is compared first, then the block of the name

module _ (q : Place) (f : NameFits q.name) (d : ℕ) (b : Block) where
  pub place_differs : {k : ℕ} → k ≡ q.directory → (k ≡ d → ⊥) → false ≡ same_place q (place_of d b)
  unfolding same_place place_of
  place_differs e n = simp (ne_eqb q.directory d (λ p. n (e ∙ p)))

  pub name_decides : Named b → {k : ℕ} {m : Block} {r : Bool} → k ≡ q.directory → k ≡ d → m ≡ block_of q.name → r ≡ same_block m b
      → r ≡ same_place q (place_of d b)
  unfolding same_place place_of
  name_decides g e p n t =
      simp (eq-eqb q.directory d (sym e ∙ p)) (t ∙ ap (λ m. same_block m b) n ∙ same_name_block q.name (name_comes_back f) b g)

-- A HOLD: process and role are compared, and then the place

eqb_turned : (a b : ℕ) → eqb a b ≡ eqb b a
eqb_turned a b = go (eqb a b) refl (eqb b a) refl
  where
    go : (u : Bool) → eqb a b ≡ u → (v : Bool) → eqb b a ≡ v → u ≡ v
    go true e true f = refl
    go true e false f = absurd (eqb-false b a f (sym (eqb-true a b e)))
    go false e true f = absurd (eqb-false a b e (sym (eqb-true b a f)))
    go false e false f = refl

same_turned : (s t : List ℕ) → same s t ≡ same t s
unfolding same
same_turned [] [] = refl
same_turned [] (y ∷ t) = refl
same_turned (x ∷ s) [] = refl
same_turned (x ∷ s) (y ∷ t) = ap (λ b. elim b as (λ _. Bool) [ true ↦ same s t | false ↦ false ]) (eqb_turned x y)
    ∙ ap (λ r. elim (eqb y x) as (λ _. Bool) [ true ↦ r | false ↦ false ]) (same_turned s t)

place_turned : (p q : Place) → same_place p q ≡ same_place q p
unfolding same_place
place_turned p q = rw (eqb_turned p.directory q.directory, same_turned p.name q.name)

-- a test that is made where the one before it passed
pub tested_on : {a b v : Bool} → a ≡ true → v ≡ b → v ≡ (a && b)
tested_on e is = rw e is

pub tested_off : (b : Bool) {a v : Bool} → a ≡ false → v ≡ false → v ≡ (a && b)
tested_off b e is = rw e is

module _ (h : HoldRow) (x : Hold) where
  abbrev pub same_holder : Bool
  same_holder = eqb h.process x.process && eqb h.role x.role

  place_last : same_hold (hold_of h) x ≡ (same_holder && on (some (place_of h.directory h.name)) x)
  unfolding same_hold hold_of on
  place_last = ap (λ b. same_holder && b) (place_turned (place_of h.directory h.name) x.place)

  module _ {v : Bool} (is : v ≡ same_holder) where
    pub hold_differs : v ≡ false → v ≡ same_hold (hold_of h) x
    hold_differs e = sym (place_last ∙ rw (sym is ∙ e, e))

    pub place_decides : v ≡ true → {r : Bool} → r ≡ on (some (place_of h.directory h.name)) x → r ≡ same_hold (hold_of h) x
    place_decides e t = t ∙ sym (place_last ∙ rw (sym is ∙ e))

-- WHAT THE FOUND ROW GIVES

pub user_by_row : (w : List ℕ) (p : ℕ) {k u : ℕ} → k ≡ first (is_process p) 0 (unpack w).processes → u ≡ (process_row w k).user
    → u ≡ user_of (unpack w).processes p
unfolding user_of
user_by_row w p e h =
    h ∙ ap (λ n. (process_row w n).user) e ∙ ap (λ (x : Process). x.user) (sym (find_first (is_process p) no_process (unpack w).processes))
