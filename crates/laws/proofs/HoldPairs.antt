-- When two holds agree: just where they have one user, if both are end holds on one place. Assumes nothing.
use mathlib.Core.Path.{◌≡◌, refl}
use mathlib.Core.Bool.{Bool, true, false, not, ◌&&◌, ◌||◌}
use mathlib.Core.List.{List}
use borrow.Author.Tests.{eqb-true, eq-eqb}
use lib.Dec.{eqb}
use Rattle.model.specs.Tables.{Hold, Process, same_place, user_of}
use Rattle.model.specs.Sound.{is_end, agree}
use Rattle.laws.proofs.Places.{same_place_self, same_place_equal}

module _ (processes : List Process) (x y : Hold) where
  pub agree_when : (is_end x ≡ true → is_end y ≡ true → x.place ≡ y.place → user_of processes x.process ≡ user_of processes y.process)
      → agree processes x y ≡ true
  unfolding agree
  agree_when one_user = go (is_end x) refl (is_end y) refl (same_place x.place y.place) refl
    where
      go : (a : Bool) → is_end x ≡ a → (b : Bool) → is_end y ≡ b → (c : Bool) → same_place x.place y.place ≡ c
          → (not (a && b && c) || eqb (user_of processes x.process) (user_of processes y.process)) ≡ true
      go true p true q true s = eq-eqb _ _ (one_user p q (same_place_equal x.place y.place s))
      go true p true q false s = refl
      go true p false q c s = refl
      go false p b q c s = refl

  pub agreed_users : agree processes x y ≡ true → is_end x ≡ true → is_end y ≡ true → x.place ≡ y.place
      → user_of processes x.process ≡ user_of processes y.process
  unfolding agree
  agreed_users a p q e =
      let there : same_place x.place y.place ≡ true = rw e (same_place_self y.place) in
      eqb-true _ _ (rw (p, q, there) at a)
