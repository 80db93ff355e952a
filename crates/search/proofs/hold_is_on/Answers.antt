-- `search::hold_is_on` meets its contract: the directory is compared, then the name. Assumes nothing.
use mathlib.Core.Path.{◌∙◌}
use borrow.Author.Tests.{ne_eqb}
use Rattle.model.specs.Holds.{on}
use Rattle.rows.proofs.Fields.{hold_row_fits}
use Rattle.rows.specs.Stands.{hold_row}
use Rattle.search.proofs.Tests.{name_decides, place_differs}
use Rattle.search.proofs.hold_is_on.Goals as goal

pub returns-else-hold_directory-directory : goal.returns-else-hold_directory-directory
unfolding on
returns-else-hold_directory-directory c =
    let w = c.args.words.now in
    let row = c.args.row in
    ne_eqb _ _ c.if-hold_directory-directory.false
    ∙ place_differs (hold_row w row).place (hold_row_fits w row).name c.args.directory c.args.name c.hold_directory.ensures c.if-hold_directory-directory.false

pub returns-then-hold_directory-directory : goal.returns-then-hold_directory-directory
unfolding on
returns-then-hold_directory-directory c =
    let w = c.args.words.now in
    let row = c.args.row in
    name_decides (hold_row w row).place (hold_row_fits w row).name c.args.directory c.args.name c.requires.1.1
    c.hold_directory.ensures c.if-hold_directory-directory.true c.hold_name.ensures c.same_blocks.ensures
