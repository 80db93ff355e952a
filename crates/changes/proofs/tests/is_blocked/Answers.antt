-- `changes::tests::is_blocked` meets its contract: root is never blocked. Assumes nothing.
use mathlib.Core.Bool.{not}
use mathlib.Core.Path.{◌∙◌, ap}
use Rattle.model.specs.Calls.{blocked}
use Rattle.model.specs.Holds.{entry_held}
use Rattle.model.specs.Words.{unpack}
use Rattle.holds.proofs.Rooted.{others_ask, root_passes}
use Rattle.holds.proofs.Ways.{root_is}
use Rattle.goals.specs.Goals.{goal_of}
use Rattle.changes.proofs.tests.is_blocked.Goals as goal

pub returns-then-not-is_root : goal.returns-then-not-is_root
unfolding blocked
returns-then-not-is_root c =
    let t = unpack c.args.words.now in
    others_ask (entry_held t c.args.reached.caller.process (goal_of c.args.reached.walk))
    (root_is t c.args.reached.caller c.requires.named.known c.is_root.ensures) c.if-not-is_root.true c.entry_held.ensures

pub returns-else-not-is_root : goal.returns-else-not-is_root
unfolding blocked
returns-else-not-is_root c =
    let t = unpack c.args.words.now in
    ap not c.if-not-is_root.false
    ∙ root_passes (entry_held t c.args.reached.caller.process (goal_of c.args.reached.walk))
    (root_is t c.args.reached.caller c.requires.named.known c.is_root.ensures) c.if-not-is_root.false
