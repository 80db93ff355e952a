-- `heads::path2_length` meets its contract. Assumes nothing.
use mathlib.Core.Path.{refl}
use Rattle.model.specs.Words.{bits}
use Rattle.heads.proofs.path2_length.Goals as goal

pub returns : goal.returns
unfolding bits
returns c = refl
