-- `rows::entry_name` meets its contract: the four words behind the row's first. Assumes nothing.
use mathlib.Core.Path.{◌∙◌}
use Rattle.rows.proofs.Fields.{entry_name_is}
use Rattle.rows.proofs.entry_name.Goals as goal

pub returns : goal.returns
returns c = c.block_at.ensures ∙ entry_name_is c.requires.0 c.args.row c.requires.1
