-- `tree_rules::entry_leads` meets its contract. Assumes nothing.
use mathlib.Core.Path.{refl, sym, ap, ◌∙◌}
use borrow.Author.Tests.{eqb-true, eqb-false}
use Rattle.model.specs.Tables.{node_at}
use Rattle.model.specs.Words.{unpack}
use Rattle.rows.specs.Stands.{entry_row}
use Rattle.rows.proofs.KindNumbers.{some_used}
use Rattle.tree_rules.proofs.Nodes.{no_entry_there, no_directory, leads_where}
use Rattle.tree_rules.proofs.entry_leads.Goals as goal

pub returns-then-directory-eq0 : goal.returns-then-directory-eq0
returns-then-directory-eq0 c = no_entry_there _ (entry_row c.args.words.now c.args.row) c.entry_directory-directory.ensures c.if-directory-eq0.true

pub returns-then-is_kind : goal.returns-then-is_kind
returns-then-is_kind c =
    let nodes = (unpack c.args.words.now).nodes in
    let kind = c.node_kind.ensures ∙ ap (λ n. (node_at nodes n).kind) c.entry_node.ensures in
    c.is_some.ensures ∙ some_used c.node_kind.result
    ∙ leads_where nodes (entry_row c.args.words.now c.args.row) c.entry_directory-directory.ensures c.if-directory-eq0.false refl
    (eqb-true _ 2 (sym c.is_kind.ensures ∙ c.if-is_kind.true)) kind

pub returns-else-is_kind : goal.returns-else-is_kind
returns-else-is_kind c =
    c.is_kind.ensures
    ∙ no_directory (unpack c.args.words.now).nodes (entry_row c.args.words.now c.args.row) c.entry_directory-directory.ensures c.if-directory-eq0.false refl
    (eqb-false _ 2 (sym c.is_kind.ensures ∙ c.if-is_kind.false))
