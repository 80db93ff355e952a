-- `tree_rules::entries_lead` meets its contract: entry after entry. Assumes nothing.
use mathlib.Core.Path.{refl, sym, ◌∙◌}
use borrow.Author.Rules.{rules}
use borrow.Author.Tests.{tests}
use Rattle.model.specs.Tables.{no_entry}
use Rattle.model.specs.Words.{unpack}
use Rattle.rows.proofs.Parts.{entries_full}
use Rattle.tree_rules.specs.Tallied.{leads}
use Rattle.tree_rules.proofs.Nodes.{entry_rules}
use Rattle.tree_rules.proofs.RowByRow.{all_gives}
use Rattle.tree_rules.proofs.entries_lead.Goals as goal

pub returns : goal.returns
returns c =
    let w = c.args.words.now in
    all_gives (λ _. leads (unpack w).nodes) no_entry (unpack w).entries refl (sym (entries_full w)) _ c.all.result c.all.ensures.ran (λ x b q k. search (rules, tests))
    ∙ entry_rules w
