-- Where no hold is in the way of a call, or root has dropped those that are, the end holds left on the end entry are of the caller's user.
-- Assumes nothing.
use mathlib.Core.Path.{◌≡◌, refl, sym}
use mathlib.Core.Bool.{Bool, true, false, not, ◌&&◌, ◌||◌, true≢false}
use mathlib.Core.Option.{some}
use Prim.Native.Nat.{ℕ}
use borrow.Author.Tests.{eqb-true}
use lib.Dec.{eqb}
use Rattle.model.specs.Tables.{Hold, Tables, free_hold, user_of}
use Rattle.model.specs.Sound.{is_end}
use Rattle.model.specs.Walk.{Goal}
use Rattle.model.specs.Holds.{root, foreign, on, end_held, entry_held, inside_held, preempted, overruled}
use Rattle.model.specs.Calls.{blocked, directory_blocked}
use Rattle.laws.proofs.Bools.{clash}
use Rattle.laws.proofs.Members.{◌∈◌, in_any}
use Rattle.laws.proofs.Places.{same_place_self}

-- the end holds on the end entry that are not gone are of process p's user
abbrev pub EndsOurs : Tables → ℕ → Goal → (Hold → Bool) → Type 0
EndsOurs t p g gone =
    (k : Hold) → k ∈ t.holds → gone k ≡ false → free_hold k ≡ false → is_end k ≡ true → g.end ≡ some k.place →
    user_of t.processes p ≡ user_of t.processes k.process

-- a hold that is not of another user is of the caller's
ours : (t : Tables) (p : ℕ) (k : Hold) → free_hold k ≡ false → foreign t p k ≡ false →
    user_of t.processes p ≡ user_of t.processes k.process
unfolding foreign
ours t p k used not_foreign = go (eqb (user_of t.processes k.process) (user_of t.processes p)) refl not_foreign
  where
    go : (b : Bool) → eqb (user_of t.processes k.process) (user_of t.processes p) ≡ b → (not (free_hold k) && not b) ≡ false →
        user_of t.processes p ≡ user_of t.processes k.process
    go true e f = sym (eqb-true _ _ e)
    go false e f = absurd (true≢false (rw used at f))

on_end : (g : Goal) (k : Hold) → g.end ≡ some k.place → on g.end k ≡ true
unfolding on
on_end g k e = rw e (same_place_self k.place)

-- a hold that would be in the way: root's call dropped it, or another's was stopped
not_in_the_way : (mine way gone : Bool) → (way && not mine) ≡ false → gone ≡ false → (foreign_there : Bool) →
    (foreign_there ≡ true → way ≡ true) →
    (mine ≡ true → foreign_there ≡ true → gone ≡ true) → foreign_there ≡ false
not_in_the_way true way gone w d true held drops = clash (drops refl refl) d
not_in_the_way true way gone w d false held drops = refl
not_in_the_way false way gone w d true held drops = absurd (true≢false (rw (held refl) at w))
not_in_the_way false way gone w d false held drops = refl

module _ (t : Tables) (p : ℕ) (g : Goal) where
  -- check, look and use that hold
  pub held_ours : (end_held t p g && not (root t p)) ≡ false → EndsOurs t p g (preempted t p g)
  unfolding end_held preempted
  held_ours way k m kept used end_k at_end =
      ours t p k used
      (not_in_the_way (root t p) (end_held t p g) (preempted t p g k) way kept (foreign t p k)
      (λ f. in_any (λ h. is_end h && on g.end h && foreign t p h) m (simp (end_k, on_end g k at_end, f)))
      (λ r f. simp (r, end_k, on_end g k at_end, f)))

  -- creation and removal
  pub entry_ours : blocked t p g ≡ false → EndsOurs t p g (overruled t p g)
  unfolding blocked entry_held overruled
  entry_ours way k m kept used end_k at_end =
      ours t p k used
      (not_in_the_way (root t p) (entry_held t p g) (overruled t p g k) way kept (foreign t p k)
      (λ f. in_any (λ h. on g.end h && foreign t p h) m (simp (on_end g k at_end, f))) (λ r f. simp (r, on_end g k at_end, f)))

  -- rmdir asks for more than other removals
  pub directory_way : directory_blocked t p g ≡ false → blocked t p g ≡ false
  unfolding directory_blocked blocked
  directory_way way = go (entry_held t p g) (inside_held t p g.node) (root t p) way
    where
      go : (a b c : Bool) → ((a || b) && not c) ≡ false → (a && not c) ≡ false
      go true b c w = w
      go false b c w = refl
