-- `records::copy_to` meets its contract: the first i bytes are copied, and nothing else has changed. Assumes nothing.
use mathlib.Core.Path.{ap, ◌∙◌}
use Prim.Native.Nat.{ℕ}
use native.Mathlib.Nat.{le_antisymm}
use lib.Seq.{paste, paste-zero}
use Rattle.laws.proofs.Copies.{copy_onward}
use Rattle.records.proofs.copy_to.Goals as goal

pub loop-i-init : goal.loop-i-init
loop-i-init c = paste-zero c.args.destination.now c.args.at c.args.source.now

pub loop-i-preserved : goal.loop-i-preserved
loop-i-preserved c = copy_onward _ _ _ _ _ 0 c.requires c.loop-i-test.true c.loop-i.invariant

pub returns : goal.returns
returns c =
    let start = c.args in
    c.loop-i.invariant
    ∙ ap (λ (n : ℕ). paste start.destination.now start.at start.source.now n) (le_antisymm c.loop-i.auto.i-end c.loop-i-test.false)
