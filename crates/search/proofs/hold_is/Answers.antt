-- `search::hold_is` meets its contract: process and role are compared, and then the place. Assumes nothing.
use mathlib.Core.Path.{◌≡◌, sym, ap, ◌∙◌}
use borrow.Author.Tests.{eq-eqb, ne_eqb}
use lib.Dec.{eqb}
use Rattle.rows.specs.Stands.{hold_row}
use Rattle.search.proofs.Tests.{hold_differs, place_decides, same_holder, tested_off, tested_on}
use Rattle.search.proofs.hold_is.Goals as goal
use Rattle.search.proofs.hold_is.Goals.{then-hold-hold_process, else-hold-hold_process}

pub returns-then-hold-hold_role : goal.returns-then-hold-hold_role
returns-then-hold-hold_role c =
    let h = c.args.hold in
    let x = hold_row c.args.words.now c.args.row in
    let tested : c.if-hold-hold_process.value ≡ same_holder h x =
    elim c.if-hold-hold_process.branch [
      | then-hold-hold_process w ↦ tested_on (eq-eqb _ _ (w.if-hold-hold_process.true ∙ c.hold_process.ensures)) (w.value-is ∙ ap (eqb h.role) w.hold_role.ensures)
      | else-hold-hold_process w ↦ tested_off _ (ne_eqb _ _ (λ e. w.if-hold-hold_process.false (e ∙ sym c.hold_process.ensures))) (w.value-is ∙ ne_eqb _ _ w.if-hold-hold_process.false)
    ] in
    place_decides h x tested c.if-hold-hold_role.true c.hold_is_on.ensures

pub returns-else-hold-hold_role : goal.returns-else-hold-hold_role
returns-else-hold-hold_role c =
    let h = c.args.hold in
    let x = hold_row c.args.words.now c.args.row in
    let tested : c.if-hold-hold_process.value ≡ same_holder h x =
    elim c.if-hold-hold_process.branch [
      | then-hold-hold_process w ↦ tested_on (eq-eqb _ _ (w.if-hold-hold_process.true ∙ c.hold_process.ensures)) (w.value-is ∙ ap (eqb h.role) w.hold_role.ensures)
      | else-hold-hold_process w ↦ tested_off _ (ne_eqb _ _ (λ e. w.if-hold-hold_process.false (e ∙ sym c.hold_process.ensures))) (w.value-is ∙ ne_eqb _ _ w.if-hold-hold_process.false)
    ] in
    hold_differs h x tested c.if-hold-hold_role.false
