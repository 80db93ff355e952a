-- `names::is_good_name` meets its contract. Assumes nothing.
use mathlib.Core.Logic.{◌⊎◌, inl, inr}
use mathlib.Core.Bool.{false}
use mathlib.Core.Path.{◌≡◌, ◌∙◌}
use Prim.Native.Nat.{◌/◌, ◌≤◌, ◌<◌}
use Rattle.std.proofs.Common.{arith}
use Rattle.std.proofs.lemmas.Bool.Decides.{nat_tests}
use Rattle.laws.proofs.Each.{none, one}
use Rattle.names.specs.Fits.{good_name}
use Rattle.names.proofs.Fits.{no_length, too_long, one_dot, two_dots, good_is}
use Rattle.names.proofs.is_good_name.Goals as goal
use Rattle.names.proofs.is_good_name.Goals.{then-name-ne-ONE_DOT, else-name-ne-ONE_DOT}

pub returns-then-name-ne-TWO_DOTS : goal.returns-then-name-ne-TWO_DOTS
returns-then-name-ne-TWO_DOTS c =
    let low : 1 ≤ c.args.name.first / 16777216 = grind (arith, nat_tests) in
    let high : c.args.name.first / 16777216 ≤ 14 = grind (arith, nat_tests) in
    c.words_fit.ensures
    ∙ good_is c.args.name (omega arith) (omega arith) (omega arith) (one (omega arith) (one (omega arith) (one (omega arith) (one (omega arith) none))))
    c.if-name-ne-TWO_DOTS.true.1 c.if-name-ne-TWO_DOTS.true.2

pub returns-else-name-ne-TWO_DOTS : goal.returns-else-name-ne-TWO_DOTS
returns-else-name-ne-TWO_DOTS c =
    let bad : false ≡ good_name c.args.name =
    elim c.if-name-ne-TWO_DOTS.either [
      | inl e ↦ two_dots c.args.name e.2
      | inr f ↦
          elim f [
            | inl e ↦ one_dot c.args.name e.1
            | inr o ↦
                let out : (c.args.name.first / 16777216 < 1) ⊎ (14 < c.args.name.first / 16777216) = grind (arith, nat_tests) in
                elim out [ inl l ↦ no_length c.args.name (omega arith) | inr l ↦ too_long c.args.name (omega arith) (omega arith) ]
          ]
    ] in
    elim c.if-name-ne-ONE_DOT.branch [
      | then-name-ne-ONE_DOT w ↦ grind (arith, nat_tests) ∙ bad
      | else-name-ne-ONE_DOT w ↦ grind (arith, nat_tests) ∙ bad
    ]
