-- `holds::is_of_another` meets its contract: a free row is nobody's, and else the users decide. Assumes nothing.
use mathlib.Core.Path.{sym, ap, ◌∙◌}
use mathlib.Core.Bool.{not}
use lib.Dec.{eqb}
use borrow.Author.Tests.{eq-eqb, ne_eqb}
use Rattle.laws.proofs.Bools.{passed, stopped}
use Rattle.model.specs.Tables.{free_hold, user_of}
use Rattle.model.specs.Words.{unpack}
use Rattle.rows.specs.Stands.{hold_row}
use Rattle.holds.specs.Asks.{of_another}
use Rattle.holds.proofs.is_of_another.Goals as goal

pub returns-then-hold_directory-ne0 : goal.returns-then-hold_directory-ne0
unfolding of_another free_hold
returns-then-hold_directory-ne0 c =
    let words = c.args.words.now in
    passed
    (ap not (ne_eqb (hold_row words c.args.row).place.directory 0 (λ p. c.if-hold_directory-ne0.true (c.hold_directory.ensures ∙ p))))
    (ap (λ u. not (eqb u c.args.user)) (c.user_of_process.ensures ∙ ap (user_of (unpack words).processes) c.hold_process.ensures))

pub returns-else-hold_directory-ne0 : goal.returns-else-hold_directory-ne0
unfolding of_another free_hold
returns-else-hold_directory-ne0 c =
    ap not (eq-eqb c.hold_directory.result 0 c.if-hold_directory-ne0.false)
    ∙ stopped _ (ap not (eq-eqb (hold_row c.args.words.now c.args.row).place.directory 0 (sym c.hold_directory.ensures ∙ c.if-hold_directory-ne0.false)))
