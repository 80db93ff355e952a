-- `fresh::fresh` meets its contract: all words are cleared, then node 1 is written. Assumes nothing.
use Rattle.fresh.proofs.Made.{prepares, refuses}
use Rattle.fresh.proofs.fresh.Goals as goal

pub returns-then-words-ne-WORD_COUNT : goal.returns-then-words-ne-WORD_COUNT
returns-then-words-ne-WORD_COUNT c = refuses c.args.words.now c.if-words-ne-WORD_COUNT.true

pub returns : goal.returns
returns c = prepares c.args.words.now c.if-words-ne-WORD_COUNT.false c.clear_all.ensures
