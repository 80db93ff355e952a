-- `holds::drop_overruled` meets its contract: for root each row is asked for its place and user, and for others nothing is dropped. Assumes nothing.
use Rattle.model.specs.Words.{unpack}
use Rattle.model.specs.Holds.{overruled}
use Rattle.goals.specs.Goals.{goal_of}
use Rattle.holds.specs.Asks.{holds_on}
use Rattle.holds.proofs.Ways.{drops_alike, drops_nothing, none_overruled, none_overruled_there, overrules}
use borrow.Author.Rules.{rules}
use Rattle.holds.proofs.drop_overruled.Goals as goal

pub returns-in-Some : goal.returns-in-Some
returns-in-Some c =
    let tables = unpack c.args.words.now in let caller = c.args.reached.caller in let walked = goal_of c.args.reached.walk in let place = c.in-Some.place in
    drops_alike tables _ (overruled tables caller.process walked) (overrules tables caller c.requires.1.known walked place c.in-Some.ensures.1 c.is_root.ensures c.if-is_root.true)
    (c.drop_where.ensures (λ processes. holds_on processes place caller.user) (record { told = λ w row r stands below answer. search rules }))

pub returns-in_default : goal.returns-in_default
returns-in_default c =
    let tables = unpack c.args.words.now in let process = c.args.reached.caller.process in let walked = goal_of c.args.reached.walk in
    drops_nothing c.args.words.now (overruled tables process walked) c.requires.0 (none_overruled_there tables process walked c.in_default.ensures)

pub returns-else-is_root : goal.returns-else-is_root
returns-else-is_root c =
    let tables = unpack c.args.words.now in let caller = c.args.reached.caller in let walked = goal_of c.args.reached.walk in
    drops_nothing c.args.words.now (overruled tables caller.process walked) c.requires.0
    (none_overruled tables caller c.requires.1.known walked c.is_root.ensures c.if-is_root.false)
