-- `search::find_process` meets its contract: the row found is the first of that number. Assumes nothing.
use mathlib.Core.Path.{refl, sym}
use borrow.Author.Rules.{rules}
use borrow.Author.Tests.{tests}
use Rattle.laws.proofs.RowChains.{find_gives}
use Rattle.model.specs.Tables.{is_process, no_process}
use Rattle.model.specs.Words.{unpack}
use Rattle.rows.proofs.Parts.{processes_full}
use Rattle.search.proofs.find_process.Goals as goal

pub returns : goal.returns
unfolding is_process
returns c =
    let w = c.args.words.now in
    find_gives (is_process c.args.process) no_process (unpack w).processes refl (sym (processes_full w)) _ c.find.result c.find.ensures.ran (λ x b q h. search (rules, tests))
