-- `paths::valid_names` meets its contract. Assumes nothing.
use mathlib.Core.Path.{sym, ap, ◌∙◌}
use borrow.Author.Tests.{eqb-true, eqb-false}
use Rattle.model.specs.Lists.{all}
use Rattle.model.specs.Paths.{valid_name}
use Rattle.paths.proofs.Validity.{names_stripped, none_behind, parts_behind}
use Rattle.paths.proofs.valid_names.Goals as goal

pub returns-then-is_empty : goal.returns-then-is_empty
returns-then-is_empty c =
    let behind = names_stripped c.args.path c.strip_prefix.result (rw c.as_slice.ensures at c.strip_prefix.ensures.cases) in
    let nothing = eqb-true _ _ (sym c.is_empty.ensures ∙ c.if-is_empty.true) in
    c.if-is_empty.true ∙ sym (ap (all valid_name) behind ∙ rw (← c.unwrap_or-behind.ensures) (none_behind _ nothing))

pub returns-else-is_empty : goal.returns-else-is_empty
returns-else-is_empty c =
    let behind = names_stripped c.args.path c.strip_prefix.result (rw c.as_slice.ensures at c.strip_prefix.ensures.cases) in
    let something = eqb-false _ _ (sym c.is_empty.ensures ∙ c.if-is_empty.false) in
    c.valid_parts.ensures ∙ ap (all valid_name) (sym (behind ∙ rw (← c.unwrap_or-behind.ensures) (parts_behind _ something)))
