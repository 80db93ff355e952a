-- `runs::index_anew` meets its contract: sound tables have distinct entries. Assumes nothing.
use mathlib.Core.Path.{◌∙◌}
use Rattle.reaching.proofs.Walking.{stands_sound}
use Rattle.runs.proofs.Keeping.{entries_apart}
use Rattle.runs.proofs.index_anew.Goals as goal

pub index_entries-requires : goal.index_entries-requires
index_entries-requires c = (stands_sound c.args.words.now c.requires, c.new.ensures)

pub returns : goal.returns
returns c = c.index_entries.ensures.1 (c.index_entries.ensures.0 ∙ entries_apart c.args.words.now c.requires)
