-- `paths::next_name` meets its contract. Assumes nothing.
use mathlib.Core.Path.{sym, ◌∙◌}
use native.Mathlib.Omega.{arith}
use Rattle.paths.proofs.Positions.{next_at_end, next_at_last_slash, next_behind_slash, next_here, next_to_end}
use Rattle.paths.proofs.next_name.Goals as goal
use Rattle.paths.proofs.next_name.Goals.{then-path-at-eq-SLASH, else-path-at-eq-SLASH}

pub returns-then-path-at : goal.returns-then-path-at
returns-then-path-at c = sym (next_at_end _ _ c.if-path-at.true)

pub returns-then-start-path : goal.returns-then-start-path
returns-then-start-path c =
    elim c.if-path-at-eq-SLASH.branch [
      | then-path-at-eq-SLASH w ↦ sym (next_at_last_slash _ _ c.if-path-at.false w.if-path-at-eq-SLASH.true (omega arith))
      | else-path-at-eq-SLASH w ↦ absurd (omega arith)
    ]

pub returns : goal.returns
returns c =
    elim c.if-path-at-eq-SLASH.branch [
      | then-path-at-eq-SLASH w ↦
          next_to_end _ _ _ _ c.name_end.ensures
          (rw w.start-is (next_behind_slash _ _ c.if-path-at.false w.if-path-at-eq-SLASH.true (λ e. c.if-start-path.false (w.start-is ∙ e))))
      | else-path-at-eq-SLASH w ↦ next_to_end _ _ _ _ c.name_end.ensures (rw w.start-is (next_here _ _ c.if-path-at.false w.if-path-at-eq-SLASH.false))
    ]
