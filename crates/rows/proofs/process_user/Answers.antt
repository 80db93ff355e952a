-- `rows::process_user` meets its contract: the lower half of the row's word. Assumes nothing.
use mathlib.Core.Path.{◌∙◌}
use Rattle.rows.proofs.Fields.{process_user_is}
use Rattle.rows.proofs.process_user.Goals as goal

pub returns : goal.returns
returns c = c.lower_half.ensures ∙ process_user_is c.requires.0 c.args.row c.requires.1
