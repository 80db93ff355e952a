-- `holds::inside_held` meets its contract: what stands inside is asked for its user. Assumes nothing.
use Rattle.model.specs.Words.{unpack}
use Rattle.holds.specs.Asks.{of_another}
use Rattle.holds.proofs.Ways.{inside_held_is}
use borrow.Author.Rules.{rules}
use Rattle.holds.proofs.inside_held.Goals as goal

pub returns : goal.returns
returns c =
    let tables = unpack c.args.words.now in let caller = c.args.caller in
    inside_held_is tables caller c.requires.1 c.args.directory
    (c.others_hold.ensures (λ processes. of_another processes caller.user) (record { told = λ w row r stands below answer. search rules }))
