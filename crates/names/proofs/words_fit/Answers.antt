-- `names::words_fit` meets its contract: half by half. Assumes nothing.
use mathlib.Core.Path.{sym, ◌∙◌}
use native.Mathlib.Omega.{arith}
use Rattle.names.proofs.Fits.{more_behind, none_behind, first_half_fails, first_half_passes}
use Rattle.names.proofs.words_fit.Goals as goal

pub returns-then-eq : goal.returns-then-eq
returns-then-eq c = none_behind _ c.args.name c.if-count-lt8.true (sym c.eq.ensures ∙ c.if-eq.true) c.half_fits.ensures

pub returns-else-eq : goal.returns-else-eq
returns-else-eq c = c.if-eq.false ∙ more_behind _ c.args.name c.if-count-lt8.true (omega arith) (omega arith) (sym c.eq.ensures ∙ c.if-eq.false)

pub returns-then-half_fits : goal.returns-then-half_fits
returns-then-half_fits c =
    first_half_passes c.args.count c.args.name (sym c.half_fits-else-count-lt8.ensures ∙ c.if-half_fits.true) c.half_fits-then-half_fits.ensures

pub returns-else-half_fits : goal.returns-else-half_fits
returns-else-half_fits c = c.if-half_fits.false ∙ first_half_fails c.args.count c.args.name (sym c.half_fits-else-count-lt8.ensures ∙ c.if-half_fits.false)
