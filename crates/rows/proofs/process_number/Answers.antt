-- `rows::process_number` meets its contract: the upper half of the row's word. Assumes nothing.
use mathlib.Core.Path.{◌∙◌}
use Rattle.rows.proofs.Fields.{process_number_is}
use Rattle.rows.proofs.process_number.Goals as goal

pub returns : goal.returns
returns c = c.upper_half.ensures ∙ process_number_is c.requires.0 c.args.row c.requires.1
