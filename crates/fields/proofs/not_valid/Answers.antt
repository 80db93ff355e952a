-- `fields::not_valid` meets its contract. Assumes nothing.
use mathlib.Core.Path.{sym, ap, ◌∙◌}
use mathlib.Core.Bool.{not}
use Rattle.fields.proofs.FieldTests.{valid_at_blank, valid_at_path, valid_at_target}
use Rattle.fields.proofs.not_valid.Goals as goal

pub returns-in-Blank : goal.returns-in-Blank
returns-in-Blank c = sym (valid_at_blank _ _ c.in-Blank.is)

pub returns-in-Path : goal.returns-in-Path
returns-in-Path c = ap not c.valid_path.ensures ∙ sym (valid_at_path _ _ c.in-Path.is)

pub returns-in-Target : goal.returns-in-Target
returns-in-Target c = ap not c.valid_target.ensures ∙ sym (valid_at_target _ _ c.in-Target.is)
