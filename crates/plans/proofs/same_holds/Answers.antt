-- `plans::same_holds` meets its contract: the last of the four decides where the others agree. Assumes nothing.
use borrow.Author.Tests.{eq-eqb}
use Rattle.rows.specs.Blocks.{same_block}
use Rattle.plans.proofs.same_holds.Goals as goal

pub returns-then-a-b-3 : goal.returns-then-a-b-3
unfolding same_block
returns-then-a-b-3 c =
    let a = c.args.a in let b = c.args.b in let same = c.if-a-b-3.true in
    simp (eq-eqb a.process b.process same.0, eq-eqb a.role b.role same.1, eq-eqb a.directory b.directory same.2) c.same_blocks.ensures
