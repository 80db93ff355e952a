-- `looks::at_end::is_seen` meets its contract: root sees nothing that it does not hold. Assumes nothing.
use mathlib.Core.Bool.{not}
use mathlib.Core.Path.{◌∙◌, ap}
use Rattle.model.specs.Holds.{end_held}
use Rattle.model.specs.Words.{unpack}
use Rattle.holds.proofs.Rooted.{others_ask, root_passes}
use Rattle.holds.proofs.Ways.{root_is}
use Rattle.goals.specs.Goals.{goal_of}
use Rattle.looks.proofs.at_end.is_seen.Goals as goal

pub returns-then-not-is_root : goal.returns-then-not-is_root
returns-then-not-is_root c =
    let t = unpack c.args.words.now in
    let caller = c.args.reached.caller in
    others_ask (end_held t caller.process (goal_of c.args.reached.walk)) (root_is t caller c.requires.named.known c.is_root.ensures) c.if-not-is_root.true
    c.end_held.ensures

pub returns-else-not-is_root : goal.returns-else-not-is_root
returns-else-not-is_root c =
    let t = unpack c.args.words.now in
    let caller = c.args.reached.caller in
    ap not c.if-not-is_root.false
    ∙ root_passes (end_held t caller.process (goal_of c.args.reached.walk)) (root_is t caller c.requires.named.known c.is_root.ensures) c.if-not-is_root.false
