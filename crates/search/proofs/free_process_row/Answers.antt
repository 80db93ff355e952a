-- `search::free_process_row` meets its contract: the row found is the first that is free. Assumes nothing.
use mathlib.Core.Path.{refl, sym}
use borrow.Author.Rules.{rules}
use borrow.Author.Tests.{tests}
use Rattle.laws.proofs.RowChains.{find_gives}
use Rattle.model.specs.Tables.{free_process, no_process}
use Rattle.model.specs.Words.{unpack}
use Rattle.rows.proofs.Parts.{processes_full}
use Rattle.search.proofs.free_process_row.Goals as goal

pub returns : goal.returns
unfolding free_process
returns c =
    let w = c.args.words.now in
    find_gives free_process no_process (unpack w).processes refl (sym (processes_full w)) _ c.find.result c.find.ensures.ran (λ x b q h. search (rules, tests))
