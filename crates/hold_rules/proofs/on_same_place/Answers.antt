-- `hold_rules::on_same_place` meets its contract: one row's place is looked for at the other. Assumes nothing.
use mathlib.Core.Path.{ap, ◌∙◌}
use Rattle.model.specs.Tables.{same_place}
use Rattle.model.specs.Holds.{on}
use Rattle.rows.specs.Stands.{hold_row}
use Rattle.rows.proofs.Fields.{hold_row_fits}
use Rattle.index.proofs.Places.{block_names, place_again}
use Rattle.hold_rules.proofs.on_same_place.Goals as goal

pub hold_is_on-requires : goal.hold_is_on-requires
hold_is_on-requires c =
    let row = hold_row c.args.words.now c.args.b in
    (c.requires.0, (c.requires.1.0, block_names row.place (hold_row_fits c.args.words.now c.args.b).name c.hold_name.ensures))

pub returns : goal.returns
unfolding on
returns c =
    let words = c.args.words.now in
    c.hold_is_on.ensures
    ∙ ap (same_place (hold_row words c.args.a).place)
    (place_again (hold_row words c.args.b).place (hold_row_fits words c.args.b).name c.hold_name.ensures
    c.hold_directory.ensures)
