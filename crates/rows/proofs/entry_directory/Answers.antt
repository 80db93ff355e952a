-- `rows::entry_directory` meets its contract: the upper half of the row's first word. Assumes nothing.
use mathlib.Core.Path.{◌∙◌}
use Rattle.rows.proofs.Fields.{entry_directory_is}
use Rattle.rows.proofs.entry_directory.Goals as goal

pub returns : goal.returns
returns c = c.upper_half.ensures ∙ entry_directory_is c.requires.0 c.args.row c.requires.1
