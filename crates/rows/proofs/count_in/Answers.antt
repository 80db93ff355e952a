-- `rows::count_in` meets its contract: the ten bits above the zero bits of the row's first word. Assumes nothing.
use mathlib.Core.Path.{◌∙◌}
use Rattle.rows.proofs.Fields.{node_count_is}
use Rattle.rows.proofs.count_in.Goals as goal

pub returns : goal.returns
returns c = c.count_bits.ensures ∙ node_count_is c.requires.0 c.args.row c.requires.1
