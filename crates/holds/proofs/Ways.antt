-- Where a walk stopped, and by that the model's own tests: who is in the way, and what root drops. Assumes nothing.
use mathlib.Core.Path.{◌≡◌, refl, sym, ap, subst, ◌∙◌}
use mathlib.Core.Bool.{Bool, true, false, ◌&&◌}
use mathlib.Core.Option.{none, some}
use mathlib.Core.List.{List}
use Prim.Native.Nat.{ℕ}
use lib.Dec.{eqb}
use Rattle.model.specs.Lists.{any}
use Rattle.model.specs.Tables.{Tables, Hold, no_hold, with_holds}
use Rattle.model.specs.Sound.{is_end}
use Rattle.model.specs.Words.{unpack}
use Rattle.model.specs.Walk.{Goal}
use Rattle.model.specs.Holds.{root, foreign, on, inside, end_held, entry_held, inside_held, drop_holds, preempted, overruled}
use Rattle.laws.proofs.Bools.{and_false}
use Rattle.laws.proofs.Searches.{any_none, any_alike, clear_none}
use Rattle.laws.proofs.Clears.{clear_alike}
use Rattle.rows.specs.Stands.{Stands, Becomes}
use Rattle.search.specs.declared.Caller.{Caller}
use Rattle.search.specs.Callers.{Known}
use Rattle.goals.specs.declared.Place.{Place}
use Rattle.goals.specs.declared.Stop.{Stop}
use Rattle.goals.specs.declared.Stop.TheVariants.{Refused, Root, Entry}
use Rattle.goals.specs.declared.Walk.{Walk}
use Rattle.goals.specs.Goals.{goal_of, end_at, place_at, PlaceNamed, StopNamed, WalkNamed}
use Rattle.holds.specs.Asks.{of_another, holds_on, ends_on}
use Rattle.holds.proofs.Tests.{another_is, held_is, ended_is, held_inside, ended_inside}

-- WHERE A WALK STOPPED

module _ (w : Walk) where
  pub refused_end : {k : ℕ} → w.stop ≡ Refused k → (goal_of w).end ≡ none
  unfolding goal_of end_at
  refused_end e = ap end_at e

  pub root_end : w.stop ≡ Root → (goal_of w).end ≡ none
  unfolding goal_of end_at
  root_end e = ap end_at e

  pub entry_end : {q : Place} {k : ℕ} → w.stop ≡ Entry q k → (goal_of w).end ≡ some (place_at q)
  unfolding goal_of end_at
  entry_end e = ap end_at e

  pub no_entry_end : ((q : Place) (k : ℕ) → w.stop ≡ Entry q k → ⊥) → (goal_of w).end ≡ none
  unfolding goal_of end_at
  no_entry_end n = go w.stop n
    where
      go : (s : Stop) → ((q : Place) (k : ℕ) → s ≡ Entry q k → ⊥) → end_at s ≡ none
      go (Refused k) m = refl
      go Root m = refl
      go (Entry q k) m = absurd (m q k refl)

  module _ (n : WalkNamed w) {q : Place} {k : ℕ} (e : w.stop ≡ Entry q k) where
    pub end_named : PlaceNamed q
    unfolding PlaceNamed StopNamed
    end_named = subst StopNamed e n.stop

-- A WALK THAT STOPPED AT NO ENTRY: nothing is on its end

module _ (t : Tables) (p : ℕ) (g : Goal) (e : g.end ≡ none) where
  on_none : (h : Hold) → on g.end h ≡ false
  unfolding on
  on_none h = ap (λ o. on o h) e

  and_there : (a : Bool) (h : Hold) → (a && on g.end h && foreign t p h) ≡ false
  and_there a h = ap (λ b. b && foreign t p h) (and_false a (on g.end h) (λ _. on_none h))

  pub none_end_held : false ≡ end_held t p g
  unfolding end_held
  none_end_held = sym (any_none (λ h. is_end h && on g.end h && foreign t p h) (λ h. and_there (is_end h) h) t.holds)

  pub none_entry_held : false ≡ entry_held t p g
  unfolding entry_held
  none_entry_held = sym (any_none (λ h. on g.end h && foreign t p h) (λ h. ap (λ b. b && foreign t p h) (on_none h)) t.holds)

  pub none_preempted_there : (h : Hold) → preempted t p g h ≡ false
  unfolding preempted
  none_preempted_there h = and_there (root t p && is_end h) h

  pub none_overruled_there : (h : Hold) → overruled t p g h ≡ false
  unfolding overruled
  none_overruled_there h = and_there (root t p) h

-- WHO IS IN THE WAY

module _ (t : Tables) (c : Caller) (known : Known t.processes c) where
  pub inside_held_is : (d : ℕ) {r : Bool} → r ≡ any (λ h. inside d h && of_another t.processes c.user h) t.holds → r ≡ inside_held t c.process d
  unfolding inside_held
  inside_held_is d q = q ∙ any_alike _ (λ h. inside d h && foreign t c.process h) (λ h. ap (λ b. inside d h && b) (another_is h t c known)) t.holds

  pub root_is : {b : Bool} → b ≡ eqb c.user 0 → b ≡ root t c.process
  unfolding root
  root_is e = e ∙ ap (λ u. eqb u 0) known.user

  module _ (g : Goal) where
    module _ (q : Place) (e : g.end ≡ some (place_at q)) where
      pub end_held_is : {r : Bool} → r ≡ any (λ h. inside q.directory h && ends_on t.processes q c.user h) t.holds → r ≡ end_held t c.process g
      unfolding end_held
      end_held_is s =
          s ∙ any_alike _ (λ h. is_end h && on (some (place_at q)) h && foreign t c.process h) (λ h. ended_inside q h t c known) t.holds
          ∙ ap (λ o. any (λ h. is_end h && on o h && foreign t c.process h) t.holds) (sym e)

      pub entry_held_is : {r : Bool} → r ≡ any (λ h. inside q.directory h && holds_on t.processes q c.user h) t.holds → r ≡ entry_held t c.process g
      unfolding entry_held
      entry_held_is s =
          s ∙ any_alike _ (λ h. on (some (place_at q)) h && foreign t c.process h) (λ h. held_inside q h t c known) t.holds
          ∙ ap (λ o. any (λ h. on o h && foreign t c.process h) t.holds) (sym e)

      -- WHAT ROOT DROPS

      module _ {b : Bool} (r : b ≡ eqb c.user 0) (z : b ≡ true) where
        is_root : true ≡ root t c.process
        is_root = sym z ∙ root_is r

        pub preempts : (h : Hold) → ends_on t.processes q c.user h ≡ preempted t c.process g h
        unfolding preempted
        preempts h = ended_is q h t c known ∙ ap (λ o. is_end h && on o h && foreign t c.process h) (sym e)
            ∙ ap (λ x. x && is_end h && on g.end h && foreign t c.process h) is_root

        pub overrules : (h : Hold) → holds_on t.processes q c.user h ≡ overruled t c.process g h
        unfolding overruled
        overrules h = held_is q h t c known ∙ ap (λ o. on o h && foreign t c.process h) (sym e) ∙ ap (λ x. x && on g.end h && foreign t c.process h) is_root

    module _ {b : Bool} (r : b ≡ eqb c.user 0) (z : b ≡ false) where
      not_root : root t c.process ≡ false
      not_root = sym (root_is r) ∙ z

      pub none_preempted : (h : Hold) → preempted t c.process g h ≡ false
      unfolding preempted
      none_preempted h = ap (λ x. x && is_end h && on g.end h && foreign t c.process h) not_root

      pub none_overruled : (h : Hold) → overruled t c.process g h ≡ false
      unfolding overruled
      none_overruled h = ap (λ x. x && on g.end h && foreign t c.process h) not_root

pub drops_alike : (t : Tables) (f g : Hold → Bool) → ((h : Hold) → f h ≡ g h) → {v : List ℕ} → Becomes v (with_holds t (drop_holds f t.holds))
    → Becomes v (with_holds t (drop_holds g t.holds))
unfolding drop_holds
drops_alike t f g alike b =
    record { stands = b.stands; tables = b.tables ∙ ap (with_holds t) (clear_alike f g no_hold alike t.holds) }

pub drops_nothing : (w : List ℕ) (f : Hold → Bool) → Stands w → ((h : Hold) → f h ≡ false)
    → Becomes w (with_holds (unpack w) (drop_holds f (unpack w).holds))
unfolding drop_holds
drops_nothing w f s e =
    record {
      stands = s;
      tables = ap (with_holds (unpack w)) (sym (clear_none f no_hold (unpack w).holds (any_none f e (unpack w).holds)));
    }
