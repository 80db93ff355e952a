-- `holds::ends_at` meets its contract: it is an end hold, and another user's on the place. Assumes nothing.
use mathlib.Core.Path.{sym, ◌∙◌}
use borrow.Author.Tests.{eq-eqb, ne_eqb}
use Rattle.laws.proofs.Bools.{passed, stopped}
use Rattle.model.specs.Sound.{is_end}
use Rattle.rows.specs.Stands.{hold_row}
use Rattle.holds.specs.Asks.{ends_on}
use Rattle.holds.proofs.ends_at.Goals as goal

pub returns-then-hold_role-eq-END : goal.returns-then-hold_role-eq-END
unfolding ends_on is_end
returns-then-hold_role-eq-END c =
    passed (eq-eqb (hold_row c.args.words.now c.args.row).role 1 (sym c.hold_role.ensures ∙ c.if-hold_role-eq-END.true)) c.is_held.ensures

pub returns-else-hold_role-eq-END : goal.returns-else-hold_role-eq-END
unfolding ends_on is_end
returns-else-hold_role-eq-END c =
    ne_eqb c.hold_role.result 1 c.if-hold_role-eq-END.false
    ∙ stopped _ (ne_eqb (hold_row c.args.words.now c.args.row).role 1 (λ p. c.if-hold_role-eq-END.false (c.hold_role.ensures ∙ p)))
