-- `tree_rules::all_counts_fit` meets its contract: node after node. Assumes nothing.
use mathlib.Core.Path.{refl, sym}
use borrow.Author.Rules.{rules}
use borrow.Author.Tests.{tests}
use Rattle.model.specs.Sound.{each_node, counts_fit}
use Rattle.model.specs.Tables.{no_node}
use Rattle.model.specs.Words.{unpack}
use Rattle.rows.proofs.Parts.{nodes_full}
use Rattle.tree_rules.specs.Tallied.{counted_fit}
use Rattle.tree_rules.proofs.RowByRow.{all_gives}
use Rattle.tree_rules.proofs.all_counts_fit.Goals as goal

pub returns : goal.returns
unfolding counts_fit each_node
returns c =
    let w = c.args.words.now in
    all_gives counted_fit no_node (unpack w).nodes refl (sym (nodes_full w)) _ c.all.result c.all.ensures.ran (λ x b q k. search (rules, tests))
