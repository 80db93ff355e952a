-- `fields::fault` meets its contract: 2 comes before 3. Assumes nothing.
use mathlib.Core.Path.{sym, ◌∙◌}
use Rattle.fields.proofs.FieldTests.{fields_by_row, paths_by_row, fields_first, paths_second, nothing_third}
use Rattle.fields.proofs.fault.Goals as goal

pub returns-then-fields_broken : goal.returns-then-fields_broken
returns-then-fields_broken c = sym (fields_first _ (fields_by_row _ _ _ _ c.row_of-row.ensures c.fields_broken.ensures ∙ c.if-fields_broken.true))

pub returns-then-paths_broken : goal.returns-then-paths_broken
returns-then-paths_broken c =
    let row = c.row_of-row.ensures in
    let right = fields_by_row _ _ _ _ row c.fields_broken.ensures ∙ c.if-fields_broken.false in
    sym (paths_second _ right (paths_by_row _ _ _ _ row c.paths_broken.ensures ∙ c.if-paths_broken.true))

pub returns : goal.returns
returns c =
    let row = c.row_of-row.ensures in
    let right = fields_by_row _ _ _ _ row c.fields_broken.ensures ∙ c.if-fields_broken.false in
    sym (nothing_third _ right (paths_by_row _ _ _ _ row c.paths_broken.ensures ∙ c.if-paths_broken.false))
