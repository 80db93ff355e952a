-- `runs::told_answer` meets its contract: each arm tells its word. Assumes nothing.
use Rattle.model.specs.Answers.{number_of, word_number}
use Rattle.runs.proofs.told_answer.Goals as goal

pub returns-in-Held : goal.returns-in-Held
unfolding word_number number_of
returns-in-Held c = rw c.in-Held.is (cc)

pub returns-in-Seen : goal.returns-in-Seen
unfolding word_number number_of
returns-in-Seen c = rw c.in-Seen.is (cc)

pub returns-in-Done : goal.returns-in-Done
unfolding word_number number_of
returns-in-Done c = rw c.in-Done.is (cc)

pub returns-in-Refused : goal.returns-in-Refused
unfolding word_number number_of
returns-in-Refused c = rw c.in-Refused.is (cc)
