-- `walk_told::end_place` meets its contract: the entry where there is one, else the blank place. Assumes nothing.
use mathlib.Core.Path.{sym, ap, ◌∙◌}
use mathlib.Core.Logic.{inl, inr}
use Rattle.goals.proofs.Blanks.{blank_made}
use Rattle.walk_told.specs.Arrivals.{end_place}
use Rattle.walk_told.proofs.end_place.Goals as goal

pub returns-in-Entry : goal.returns-in-Entry
unfolding end_place
returns-in-Entry c = ap end_place (sym c.in-Entry.is)

pub returns-in-Root : goal.returns-in-Root
unfolding end_place
returns-in-Root c =
    blank_made c.default.ensures
    ∙ elim c.in-Root.is [
      | inl e ↦ sym (ap end_place e)
      | inr h ↦ sym (ap end_place h.1)
    ]
