-- `holds::entry_held` meets its contract: what is inside the end's directory is asked for its place and user. Assumes nothing.
use Rattle.model.specs.Words.{unpack}
use Rattle.goals.specs.Goals.{goal_of}
use Rattle.holds.specs.Asks.{holds_on}
use Rattle.holds.proofs.Ways.{entry_held_is, none_entry_held}
use borrow.Author.Rules.{rules}
use Rattle.holds.proofs.entry_held.Goals as goal

pub returns-in-Some : goal.returns-in-Some
returns-in-Some c =
    let tables = unpack c.args.words.now in let caller = c.args.reached.caller in let place = c.in-Some.place in
    entry_held_is tables caller c.requires.1.known (goal_of c.args.reached.walk) place c.in-Some.ensures.1
    (c.others_hold.ensures (λ processes. holds_on processes place caller.user) (record { told = λ w row r stands below answer. search rules }))

pub returns-in-None : goal.returns-in-None
returns-in-None c = none_entry_held (unpack c.args.words.now) c.args.reached.caller.process (goal_of c.args.reached.walk) c.in-None.ensures
