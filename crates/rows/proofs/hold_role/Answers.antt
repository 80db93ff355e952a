-- `rows::hold_role` meets its contract: the top two bits of the row's last word. Assumes nothing.
use mathlib.Core.Path.{◌∙◌}
use Rattle.rows.proofs.Fields.{hold_role_is}
use Rattle.rows.proofs.hold_role.Goals as goal

pub returns : goal.returns
returns c = c.top_bits.ensures ∙ hold_role_is c.requires.0 c.args.row c.requires.1
