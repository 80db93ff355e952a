-- `plans::Plan::push` keeps the room told by the holds: the new one takes the place of the first blank row. Assumes nothing.
use native.Mathlib.Omega.{arith}
use lib.ListN.{length}
use mathlib.Core.Path.{◌≡◌, ap}
use Rattle.plans.specs.Room.{used_rows, used_long}
use Rattle.plans.proofs.Room.{one_more}
use Rattle.plans.proofs.Plan.push.Goals as goal

pub invariant_of-self : goal.invariant_of-self
invariant_of-self c =
    let long = used_long c.self.inside c.self.invariant in
    let same : length (used_rows c.self.inside) ≡ length c.args.self.now = ap length c.self.view_is in
    one_more c.self.inside c.args.hold c.self.invariant (omega arith)
