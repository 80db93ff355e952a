-- What a call on the lent words promises: the answer and every word are those of the model's outcome. Assumes nothing.
use Rattle.std.specs.Prelude.{◌≡◌, List, ℕ}
use Rattle.model.specs.Refusals.{Outcome, refused, granted}
use Rattle.model.specs.Words.{pack}
use Rattle.model.specs.Calls.{Change}
use Rattle.model.specs.declared.Answer.{Answer}
use Rattle.model.specs.declared.Answer.TheVariants.{Refused}

unfoldable pub answer_of : Outcome Change → Answer
answer_of (refused n) = Refused n
answer_of (granted c) = c.answer

-- Numbers given back: a refusal changes no word
unfoldable pub words_of : List ℕ → Outcome Change → List ℕ
words_of w (refused n) = w
words_of w (granted c) = pack c.tables

-- r and the words v are what the outcome o over the words w gives
pub record Meets (w : List ℕ) (o : Outcome Change) (r : Answer) (v : List ℕ) : Type 0 where
  pub answer : r ≡ answer_of o
  pub words : v ≡ words_of w o
