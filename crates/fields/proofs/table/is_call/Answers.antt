-- `fields::table::is_call` meets its contract. Assumes nothing.
use mathlib.Core.Path.{sym, ap, ◌∙◌}
use mathlib.Core.Bool.{not}
use Rattle.fields.proofs.TableRows.{class_known, class_unknown}
use Rattle.fields.proofs.table.is_call.Goals as goal
use Rattle.fields.proofs.table.is_call.Goals.{in-Unknown, in_default}

pub returns : goal.returns
returns c =
    elim c.match-matches.branch [
      | in-Unknown w ↦ ap not w.matches-is ∙ sym (class_unknown _ w.in-Unknown.is)
      | in_default w ↦ ap not w.matches-is ∙ sym (class_known _ w.in_default.not-Unknown)
    ]
