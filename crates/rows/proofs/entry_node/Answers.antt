-- `rows::entry_node` meets its contract: the lower half of the row's first word. Assumes nothing.
use mathlib.Core.Path.{◌∙◌}
use Rattle.rows.proofs.Fields.{entry_node_is}
use Rattle.rows.proofs.entry_node.Goals as goal

pub returns : goal.returns
returns c = c.lower_half.ensures ∙ entry_node_is c.requires.0 c.args.row c.requires.1
