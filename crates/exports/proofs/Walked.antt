-- What walking answers, as the number that is told. Assumes nothing.
use mathlib.Core.Path.{◌≡◌}
use mathlib.Core.List.{List}
use Prim.Native.Nat.{ℕ}
use Rattle.model.specs.Refusals.{Outcome, refused, granted}
use Rattle.model.specs.Walk.{Goal}
use Rattle.walk_told.specs.Arrivals.{arrival_of, Arrives}
use Rattle.std.proofs.Common.{Ok, Err}
use Rattle.exports.specs.Numbers.{answer_number, walking_number}

pub node_told : {o : Outcome Goal} {n : ℕ} {goal : List ℕ} → Arrives o (Ok n) goal → answer_number 2 n 0 ≡ walking_number o
unfolding walking_number arrival_of
node_told {o} {n} h = go o h.answer
  where
    go : (o : Outcome Goal) → Ok n ≡ arrival_of o → answer_number 2 n 0 ≡ walking_number o
    go (refused k) e = cc
    go (granted g) e = let is : n ≡ g.node = cc in rw is

pub refusal_told : {o : Outcome Goal} {n : ℕ} {goal : List ℕ} → Arrives o (Err n) goal → answer_number 3 n 0 ≡ walking_number o
unfolding walking_number arrival_of
refusal_told {o} {n} h = go o h.answer
  where
    go : (o : Outcome Goal) → Err n ≡ arrival_of o → answer_number 3 n 0 ≡ walking_number o
    go (refused k) e = let is : n ≡ k = cc in rw is
    go (granted g) e = cc
