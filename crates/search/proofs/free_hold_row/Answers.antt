-- `search::free_hold_row` meets its contract: the row found is the first that is free. Assumes nothing.
use mathlib.Core.Path.{refl, sym}
use borrow.Author.Rules.{rules}
use borrow.Author.Tests.{tests}
use Rattle.laws.proofs.RowChains.{find_gives}
use Rattle.model.specs.Tables.{free_hold, no_hold}
use Rattle.model.specs.Words.{unpack}
use Rattle.rows.proofs.Parts.{holds_full}
use Rattle.search.proofs.free_hold_row.Goals as goal

pub returns : goal.returns
unfolding free_hold
returns c =
    let w = c.args.words.now in
    find_gives free_hold no_hold (unpack w).holds refl (sym (holds_full w)) _ c.find.result c.find.ensures.ran (λ x b q h. search (rules, tests))
