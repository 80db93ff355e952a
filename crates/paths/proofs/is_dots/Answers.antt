-- `paths::is_dots` meets its contract. Assumes nothing.
use Rattle.paths.proofs.Names.{dots_told}
use Rattle.paths.proofs.is_dots.Goals as goal

pub returns-then-eq : goal.returns-then-eq
returns-then-eq c =
    let told = rw c.as_slice.ensures at c.eq.ensures in
    rw (← dots_told c.args.name.now, ← told, c.if-eq.true)

pub returns-else-eq : goal.returns-else-eq
returns-else-eq c =
    let one = rw c.as_slice.ensures at c.eq.ensures in
    let two = rw c.as_slice-else-eq.ensures at c.eq-else-eq.ensures in
    rw (← dots_told c.args.name.now, ← one, c.if-eq.false, two)
