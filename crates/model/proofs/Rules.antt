-- A second table of examples beside the edges, over rows: one or more for each rule that the edges do not reach, with a single claim,
-- `rules_hold`. Small tables bring each table to its brim. Assumes nothing.
use mathlib.Core.Path.{◌≡◌, refl}
use mathlib.Core.Bool.{Bool, true, false, ◌&&◌}
use mathlib.Core.List.{List, [], ◌∷◌, ◌++◌}
use Rattle.model.specs.Lists.{all}
use Rattle.model.proofs.Telling.{Example, holds_true, computing_examples}
use Rattle.model.proofs.RecordRules.{record_rules, computing_record_rules}
use Rattle.model.proofs.WalkRules.{tree, walk_rules}
use Rattle.model.proofs.HoldRules.{mill, hold_rules}
use Rattle.model.proofs.CallRules.{call_rules}
use Rattle.model.proofs.SoundRules.{rows, sound_words, sound_examples}

records_hold : all holds_true record_rules ≡ true
unfolding computing_examples computing_record_rules
records_hold = refl

walks_hold : all holds_true walk_rules ≡ true
unfolding computing_examples tree walk_rules
walks_hold = refl

holds_hold : all holds_true hold_rules ≡ true
unfolding computing_examples mill hold_rules
holds_hold = refl

calls_hold : all holds_true call_rules ≡ true
unfolding computing_examples call_rules
calls_hold = refl

soundness_holds : all holds_true sound_examples ≡ true
unfolding computing_examples rows sound_words sound_examples
soundness_holds = refl

unfoldable pub rules : List Example
rules = record_rules ++ (walk_rules ++ (hold_rules ++ (call_rules ++ sound_examples)))

all_joined : (xs ys : List Example) → all holds_true xs ≡ true → all holds_true ys ≡ true → all holds_true (xs ++ ys) ≡ true
unfolding all
all_joined [] ys p q = q
all_joined (x ∷ xs) ys p q = after_first (holds_true x) p (λ r. all_joined xs ys r q)
  where
    after_first : (b : Bool) → (b && all holds_true xs) ≡ true → (all holds_true xs ≡ true → all holds_true (xs ++ ys) ≡ true)
        → (b && all holds_true (xs ++ ys)) ≡ true
    after_first true r rest = rest r
    after_first false r rest = r

-- THE CLAIM: every example of the table holds
pub rules_hold : all holds_true rules ≡ true
unfolding rules
rules_hold =
    all_joined record_rules _ records_hold
    (all_joined walk_rules _ walks_hold (all_joined hold_rules _ holds_hold (all_joined call_rules _ calls_hold soundness_holds)))
