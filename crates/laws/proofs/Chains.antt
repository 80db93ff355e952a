-- A chain of tests joined by `&&` is true where every one of them is. Assumes nothing.
use mathlib.Core.Path.{◌≡◌}
use mathlib.Core.Bool.{Bool, true, ◌&&◌}
use mathlib.Core.List.{List, [], ◌∷◌}
use Rattle.laws.proofs.Bools.{and_left, and_right, both}
use Rattle.laws.proofs.Each.{Each, none, one}

-- the tests, grouped from the left as `&&` groups them
abbrev pub chain : Bool → List Bool → Bool
chain a [] = a
chain a (b ∷ rest) = chain (a && b) rest

abbrev pub True : Bool → Type 0
True b = b ≡ true

first_true : (a : Bool) (rest : List Bool) → chain a rest ≡ true → a ≡ true
first_true a [] e = e
first_true a (b ∷ rest) e = and_left a b (first_true (a && b) rest e)

rest_true : (a : Bool) (rest : List Bool) → chain a rest ≡ true → Each True rest
rest_true a [] e = none
rest_true a (b ∷ rest) e = one (and_right a b (first_true (a && b) rest e)) (rest_true (a && b) rest e)

pub chain_each : (a : Bool) (rest : List Bool) → chain a rest ≡ true → Each True (a ∷ rest)
chain_each a rest e = one (first_true a rest e) (rest_true a rest e)

pub each_chain : {a : Bool} {rest : List Bool} → Each True (a ∷ rest) → chain a rest ≡ true
each_chain (one p ps) = go p ps
  where
    go : {a : Bool} {rest : List Bool} → a ≡ true → Each True rest → chain a rest ≡ true
    go p none = p
    go p (one q qs) = go (both p q) qs
