-- `fields::filled_blank` meets its contract: a cell that is to be blank is filled where there is a byte, and no other is. Assumes nothing.
use mathlib.Core.Path.{sym, ap, ◌∙◌}
use mathlib.Core.Bool.{not}
use Rattle.fields.proofs.FieldTests.{filled_at_blank, filled_elsewhere}
use Rattle.fields.proofs.filled_blank.Goals as goal
use Rattle.fields.proofs.filled_blank.Goals.{in-Blank, in_default}

pub returns-then-matches : goal.returns-then-matches
returns-then-matches c =
    elim c.match-matches.branch [ in-Blank w ↦ ap not c.is_empty.ensures ∙ sym (filled_at_blank _ _ w.in-Blank.is) | in_default w ↦ (cc) ]

pub returns-else-matches : goal.returns-else-matches
returns-else-matches c =
    elim c.match-matches.branch [ in-Blank w ↦ (cc) | in_default w ↦ w.matches-is ∙ sym (filled_elsewhere _ _ w.in_default.not-Blank) ]
