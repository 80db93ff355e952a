-- `shape::is_blank` meets its contract. Assumes nothing.
use mathlib.Core.Path.{◌∙◌}
use borrow.Author.Tests.{eq-eqb, ne_eqb}
use Rattle.model.specs.Lists.{all}
use Rattle.laws.proofs.Bools.{stopped, passed}
use Rattle.shape.specs.Shaped.{zeros}
use Rattle.shape.proofs.RowShapes.{blank_block}
use Rattle.shape.proofs.is_blank.Goals as goal

pub returns-then-head-eq0 : goal.returns-then-head-eq0
unfolding zeros all
returns-then-head-eq0 c = passed (eq-eqb _ 0 c.if-head-eq0.true) (c.eq.ensures ∙ blank_block c.args.name c.default.result c.default.ensures)

pub returns-else-head-eq0 : goal.returns-else-head-eq0
unfolding zeros all
returns-else-head-eq0 c = ne_eqb _ 0 c.if-head-eq0.false ∙ stopped _ (ne_eqb _ 0 c.if-head-eq0.false)
