-- `names::half_fits` meets its contract: both comparisons of the eight bytes. Assumes nothing.
use mathlib.Core.Path.{sym, ap, ◌∙◌}
use borrow.Author.Tests.{eq-eqb, ne_eqb}
use lib.Dec.{eqb}
use native.Mathlib.Omega.{arith}
use Rattle.names.specs.Fits.{top_bits}
use Rattle.names.proofs.Eights.{eight_fit}
use Rattle.laws.proofs.Bools.{stopped, passed}
use Rattle.names.proofs.half_fits.Goals as goal

pub returns-then-differing-tops_of : goal.returns-then-differing-tops_of
returns-then-differing-tops_of c =
    let zeros = rw (c.from.ensures, c.from-2.ensures) at c.differing.ensures in
    let slashes = rw (c.from.ensures, c.from-2.ensures) at c.differing-then-differing-tops_of.ensures in
    passed (eq-eqb _ _ (sym zeros ∙ c.if-differing-tops_of.true ∙ c.tops_of.ensures)) (ap (λ x. eqb x top_bits) slashes)
    ∙ eight_fit c.args.first c.args.second c.args.count (omega arith) (omega arith)

pub returns-else-differing-tops_of : goal.returns-else-differing-tops_of
returns-else-differing-tops_of c =
    let zeros = rw (c.from.ensures, c.from-2.ensures) at c.differing.ensures in
    ne_eqb _ _ c.if-differing-tops_of.false ∙ stopped _ (ne_eqb _ _ (λ e. c.if-differing-tops_of.false (zeros ∙ e ∙ sym c.tops_of.ensures)))
    ∙ eight_fit c.args.first c.args.second c.args.count (omega arith) (omega arith)
