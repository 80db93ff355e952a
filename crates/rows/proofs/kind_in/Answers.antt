-- `rows::kind_in` meets its contract: the top two bits of the row's first word. Assumes nothing.
use mathlib.Core.Path.{◌∙◌}
use Rattle.rows.proofs.Fields.{node_kind_is}
use Rattle.rows.proofs.kind_in.Goals as goal

pub returns : goal.returns
returns c = c.kind_of.ensures ∙ c.top_bits.ensures ∙ node_kind_is c.requires.0 c.args.row c.requires.1
