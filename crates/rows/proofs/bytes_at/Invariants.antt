-- `rows::bytes_at` meets its contract: what is left to store gives the whole. Assumes nothing.
use mathlib.Core.Path.{◌≡◌}
use Prim.Native.Nat.{◌*◌}
use lib.ListN.{drop, take}
use lib.Seq.{sets}
use Rattle.model.specs.Words.{bytes}
use Rattle.rows.specs.Blocks.{target_words}
use Rattle.rows.proofs.bytes_at.Given as goal

abbrev pub invariant-loop-k : goal.invariant-loop-k
invariant-loop-k l = sets l.out (l.k * 4) (bytes (drop l.k (take target_words (drop l.at l.words)))) ≡ bytes (take target_words (drop l.at l.words))
