-- `tree_rules::first_right` meets its contract. Assumes nothing.
use mathlib.Core.Path.{refl, sym, ◌∙◌}
use borrow.Author.Tests.{eqb-true, eqb-false}
use Rattle.tree_rules.proofs.Nodes.{first_no_directory, first_count}
use Rattle.tree_rules.proofs.first_right.Goals as goal

pub returns-then-is_kind : goal.returns-then-is_kind
returns-then-is_kind c =
    first_count c.args.words.now refl (eqb-true _ 2 (sym c.is_kind.ensures ∙ c.if-is_kind.true)) c.node_count.ensures

pub returns-else-is_kind : goal.returns-else-is_kind
returns-else-is_kind c =
    c.is_kind.ensures ∙ first_no_directory c.args.words.now refl (eqb-false _ 2 (sym c.is_kind.ensures ∙ c.if-is_kind.false))
