-- `rows::hold_name` meets its contract: the four words behind the row's first. Assumes nothing.
use mathlib.Core.Path.{◌∙◌}
use Rattle.rows.proofs.Fields.{hold_name_is}
use Rattle.rows.proofs.hold_name.Goals as goal

pub returns : goal.returns
returns c = c.block_at.ensures ∙ hold_name_is c.requires.0 c.args.row c.requires.1
