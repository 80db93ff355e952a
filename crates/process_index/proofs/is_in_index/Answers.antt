-- `process_index::is_in_index` meets its contract: a row is found just where the process is listed. Assumes nothing.
use mathlib.Core.Path.{◌∙◌}
use Rattle.process_index.proofs.Processes.{found_decides}
use Rattle.process_index.proofs.is_in_index.Goals as goal

pub returns : goal.returns
returns c = c.is_some.ensures ∙ found_decides c.args.words.now c.args.process _ c.find_in_index.ensures
