-- `rows::target_in` meets its contract: the 16 words behind the row's first. Assumes nothing.
use mathlib.Core.Path.{◌∙◌}
use Rattle.rows.proofs.Bytes.{target_bytes_are, target_made}
use Rattle.rows.specs.Stands.{node_row}
use Rattle.rows.proofs.target_in.Goals as goal

pub returns : goal.returns
returns c =
    let row = c.args.row in
    target_made (node_row c.args.words.now row).target c.target_length_in.ensures
    (c.bytes_at.ensures ∙ target_bytes_are c.requires.0 row c.requires.1)
