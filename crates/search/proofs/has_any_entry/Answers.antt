-- `search::has_any_entry` meets its contract: some row is of an entry in the directory. Assumes nothing.
use mathlib.Core.Path.{refl, sym}
use borrow.Author.Rules.{rules}
use borrow.Author.Tests.{tests}
use lib.Dec.{eqb}
use Rattle.laws.proofs.RowChains.{any_gives}
use Rattle.model.specs.Calls.{has_entries}
use Rattle.model.specs.Tables.{no_entry}
use Rattle.model.specs.Words.{unpack}
use Rattle.rows.proofs.Parts.{entries_full}
use Rattle.search.proofs.has_any_entry.Goals as goal

pub returns : goal.returns
unfolding has_entries
returns c =
    let w = c.args.words.now in
    any_gives (λ e. eqb e.place.directory c.args.directory) no_entry (unpack w).entries refl (sym (entries_full w)) _ c.any.result c.any.ensures.ran
    (λ x b q h. search (rules, tests))
