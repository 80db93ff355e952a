-- `rows::target_length_in` meets its contract: the seven bits below the kind. Assumes nothing.
use mathlib.Core.Path.{◌∙◌}
use Rattle.rows.proofs.Fields.{target_length_is}
use Rattle.rows.proofs.target_length_in.Goals as goal

pub returns : goal.returns
returns c = c.length_bits.ensures ∙ target_length_is c.requires.0 c.args.row c.requires.1
