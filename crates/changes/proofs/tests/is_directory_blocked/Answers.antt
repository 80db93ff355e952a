-- `changes::tests::is_directory_blocked` meets its contract: the end entry, then the inside, and root is never blocked. Assumes nothing.
use mathlib.Core.Bool.{not, ◌||◌}
use mathlib.Core.Path.{◌∙◌, ap}
use Rattle.model.specs.Calls.{directory_blocked}
use Rattle.model.specs.Holds.{entry_held, inside_held}
use Rattle.model.specs.Words.{unpack}
use Rattle.holds.proofs.Rooted.{others_ask, root_passes}
use Rattle.holds.proofs.Ways.{root_is}
use Rattle.changes.proofs.Testing.{first_applies, second_decides}
use Rattle.goals.specs.Goals.{goal_of}
use Rattle.changes.proofs.tests.is_directory_blocked.Goals as goal

pub returns-then-entry_held : goal.returns-then-entry_held
unfolding directory_blocked
returns-then-entry_held c =
    let t = unpack c.args.words.now in
    let g = goal_of c.args.reached.walk in
    let p = c.args.reached.caller.process in
    others_ask (entry_held t p g || (inside_held t p g.node))
    (root_is t c.args.reached.caller c.requires.named.known c.is_root.ensures) c.if-not-is_root.true
    (c.if-entry_held.true ∙ first_applies (inside_held t p g.node) c.entry_held.ensures c.if-entry_held.true)

pub returns-else-entry_held : goal.returns-else-entry_held
unfolding directory_blocked
returns-else-entry_held c =
    let t = unpack c.args.words.now in
    let g = goal_of c.args.reached.walk in
    let p = c.args.reached.caller.process in
    others_ask (entry_held t p g || (inside_held t p g.node))
    (root_is t c.args.reached.caller c.requires.named.known c.is_root.ensures) c.if-not-is_root.true
    (second_decides (inside_held t p g.node) c.entry_held.ensures c.if-entry_held.false
    (c.inside_held.ensures ∙ ap (inside_held t p) c.node_of.ensures))

pub returns-else-not-is_root : goal.returns-else-not-is_root
unfolding directory_blocked
returns-else-not-is_root c =
    let t = unpack c.args.words.now in
    let g = goal_of c.args.reached.walk in
    let p = c.args.reached.caller.process in
    ap not c.if-not-is_root.false
    ∙ root_passes (entry_held t p g || (inside_held t p g.node))
    (root_is t c.args.reached.caller c.requires.named.known c.is_root.ensures) c.if-not-is_root.false
