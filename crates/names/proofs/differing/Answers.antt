-- `names::differing` meets its contract: the sum fits, for no byte of it passes 255. Assumes nothing.
use native.Mathlib.Omega.{arith}
use mathlib.Core.Path.{refl}
use lib.Bits.{bit_and, and_le_r, xor_lt}
use Rattle.names.specs.Fits.{low_bits, differing}
use Rattle.names.proofs.differing.Goals as goal

pub overflow_add-result : goal.overflow_add-result
overflow_add-result c = omega (arith, xor_lt 63 (bit_and c.args.eight low_bits) c.args.other (omega (arith, and_le_r c.args.eight low_bits)) c.requires)

pub returns : goal.returns
unfolding differing
returns c = refl
