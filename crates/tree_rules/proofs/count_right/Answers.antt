-- `tree_rules::count_right` meets its contract. Assumes nothing.
use mathlib.Core.Path.{sym, ap₂, ◌∙◌}
use borrow.Author.Tests.{eqb-false}
use lib.Dec.{eqb}
use Rattle.laws.proofs.Bools.{not_true}
use Rattle.rows.specs.Kinds.{kind_number}
use Rattle.rows.specs.Stands.{node_row}
use Rattle.rows.proofs.KindNumbers.{none_free, some_used}
use Rattle.tree_rules.proofs.Nodes.{free_passes, used_decides, counted}
use Rattle.tree_rules.proofs.count_right.Goals as goal

pub returns-then-is_none : goal.returns-then-is_none
returns-then-is_none c =
    c.if-is_none.true ∙ free_passes (node_row c.args.words.now c.args.row) c.kind_in.ensures _ (none_free c.kind_in.result c.if-is_none.ensures)

pub returns-else-is_none : goal.returns-else-is_none
returns-else-is_none c =
    let used = eqb-false (kind_number c.kind_in.result) 0 (not_true _ (sym (some_used c.kind_in.result) ∙ c.if-is_none.ensures)) in
    let tallied = counted c.args.words.now _ c.args.row c.requires.1.0 c.requires.1.1 in
    used_decides (node_row c.args.words.now c.args.row) c.kind_in.ensures used (ap₂ eqb c.count_in.ensures tallied)
