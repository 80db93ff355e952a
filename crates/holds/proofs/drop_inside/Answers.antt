-- `holds::drop_inside` meets its contract: each row is asked for its directory. Assumes nothing.
use Rattle.model.specs.Holds.{inside}
use borrow.Author.Rules.{rules}
use Rattle.holds.proofs.drop_inside.Goals as goal

pub returns : goal.returns
unfolding inside
returns c = c.drop_where.ensures (λ processes. inside c.args.directory) (record { told = λ w row r stands below answer. search rules })
