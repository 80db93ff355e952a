-- `runs::told` meets its contract: the sum is that of the definition. Assumes nothing.
use borrow.Author.Rules.{rules}
use Rattle.model.specs.Answers.{answer_number}
use Rattle.runs.proofs.told.Goals as goal

pub returns : goal.returns
unfolding answer_number
returns c = search rules
