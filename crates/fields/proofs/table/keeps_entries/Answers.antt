-- `fields::table::keeps_entries` meets its contract: by the class. Assumes nothing.
use mathlib.Core.Path.{sym, ap, ◌∙◌}
use mathlib.Core.Bool.{not}
use Rattle.fields.proofs.TableRows.{entries_change, entries_stay, effect_cell}
use Rattle.fields.proofs.table.keeps_entries.Goals as goal
use Rattle.fields.proofs.table.keeps_entries.Goals.{in-Creation, in_default}

pub returns : goal.returns
returns c =
    let cell = effect_cell _ _ c.row_of-class.ensures in
    elim c.match-matches.branch [
      | in-Creation w ↦ ap not w.matches-is ∙ sym (entries_change _ w.in-Creation.is) ∙ cell
      | in_default w ↦ ap not w.matches-is ∙ sym (entries_stay _ w.in_default.not-Creation w.in_default.not-Removal) ∙ cell
    ]
