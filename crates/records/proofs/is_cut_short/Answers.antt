-- `records::is_cut_short` meets its contract. Assumes nothing.
use Rattle.std.proofs.Common.{rules}
use Rattle.records.proofs.Readings.{cut_short_by}
use Rattle.records.proofs.is_cut_short.Goals as goal

pub returns : goal.returns
returns c = cut_short_by _ _ c.is_err_and.ensures (λ e p. search rules)
