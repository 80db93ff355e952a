-- `fields::table::row_of` meets its contract: the table, computed once as a whole, is the model's. Assumes nothing.
use mathlib.Core.Path.{sym}
use Rattle.model.specs.Records.{calls, row_of}
use Rattle.fields.specs.Rows.{coded_class, coded_cell, coded_row}
use Rattle.fields.proofs.TableRows.{below_the_table, behind_the_table, in_the_table}
use Rattle.fields.proofs.table.row_of.Goals as goal
use Rattle.fields.proofs.table.row_of.Goals.{then-place-lt1-via-then-place-lt1, then-place-lt1-via-else-place-lt1+then-place-gt-CALLS}

pub returns-then-place-lt1 : goal.returns-then-place-lt1
unfolding calls row_of coded_class coded_cell coded_row
returns-then-place-lt1 c =
    elim c.then-place-lt1.branch [
      | then-place-lt1-via-then-place-lt1 w ↦ sym (below_the_table _ w.if-place-lt1.true)
      | then-place-lt1-via-else-place-lt1+then-place-gt-CALLS w ↦ sym (behind_the_table _ w.if-place-gt-CALLS.true)
    ]

pub returns : goal.returns
unfolding calls row_of coded_class coded_cell coded_row
returns c = in_the_table _ _ c.if-place-lt1.false c.if-place-gt-CALLS.false
