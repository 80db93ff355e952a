-- `rows::hold_process` meets its contract: the lower half of the row's first word. Assumes nothing.
use mathlib.Core.Path.{◌∙◌}
use Rattle.rows.proofs.Fields.{hold_process_is}
use Rattle.rows.proofs.hold_process.Goals as goal

pub returns : goal.returns
returns c = c.lower_half.ensures ∙ hold_process_is c.requires.0 c.args.row c.requires.1
