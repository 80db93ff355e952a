-- `rows::node_kind` meets its contract: a node is read from its row, and no node has another number. Assumes nothing.
use mathlib.Core.Path.{◌∙◌, ap, sym}
use Rattle.model.specs.Tables.{Node}
use Rattle.model.specs.Words.{unpack}
use Rattle.rows.proofs.Fields.{no_such_node, node_of_row}
use Rattle.rows.specs.Kinds.{kind_number}
use Rattle.rows.proofs.node_kind.Goals as goal

pub returns-in_err-row : goal.returns-in_err-row
returns-in_err-row c =
    ap kind_number c.from_residual.ensures ∙ ap (λ (x : Node). x.kind) (sym (no_such_node c.args.words.now c.args.node c.in_err-row.ensures))

pub returns : goal.returns
returns c = c.kind_in.ensures ∙ ap (λ (x : Node). x.kind) (sym (node_of_row (unpack c.args.words.now).nodes c.in_ok-row.row c.in_ok-row.ensures.0))
