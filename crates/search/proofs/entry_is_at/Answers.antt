-- `search::entry_is_at` meets its contract: the directory is compared, then the name. Assumes nothing.
use mathlib.Core.Path.{◌∙◌}
use borrow.Author.Tests.{ne_eqb}
use Rattle.model.specs.Tables.{at}
use Rattle.rows.proofs.Fields.{entry_row_fits}
use Rattle.rows.specs.Stands.{entry_row}
use Rattle.search.proofs.Tests.{name_decides, place_differs}
use Rattle.search.proofs.entry_is_at.Goals as goal

pub returns-else-entry_directory-directory : goal.returns-else-entry_directory-directory
unfolding at
returns-else-entry_directory-directory c =
    let w = c.args.words.now in
    let row = c.args.row in
    ne_eqb _ _ c.if-entry_directory-directory.false
    ∙ place_differs (entry_row w row).place (entry_row_fits w row).name c.args.directory c.args.name c.entry_directory.ensures c.if-entry_directory-directory.false

pub returns-then-entry_directory-directory : goal.returns-then-entry_directory-directory
unfolding at
returns-then-entry_directory-directory c =
    let w = c.args.words.now in
    let row = c.args.row in
    name_decides (entry_row w row).place (entry_row_fits w row).name c.args.directory c.args.name c.requires.1.1
    c.entry_directory.ensures c.if-entry_directory-directory.true c.entry_name.ensures c.same_blocks.ensures
