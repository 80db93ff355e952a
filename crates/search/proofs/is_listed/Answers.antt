-- `search::is_listed` meets its contract: a row is found. Assumes nothing.
use mathlib.Core.Path.{◌∙◌}
use Rattle.model.specs.Tables.{is_process, listed}
use Rattle.model.specs.Words.{unpack}
use Rattle.search.proofs.Rows.{found_any}
use Rattle.search.proofs.is_listed.Goals as goal

pub returns : goal.returns
unfolding listed
returns c = c.is_some.ensures ∙ found_any (is_process c.args.process) (unpack c.args.words.now).processes c.find_process.ensures
