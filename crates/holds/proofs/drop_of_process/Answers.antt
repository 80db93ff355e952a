-- `holds::drop_of_process` meets its contract: each row is asked for its process. Assumes nothing.
use Rattle.model.specs.Holds.{of_process}
use borrow.Author.Rules.{rules}
use Rattle.holds.proofs.drop_of_process.Goals as goal

pub returns : goal.returns
unfolding of_process
returns c = c.drop_where.ensures (λ processes. of_process c.args.process) (record { told = λ w row r stands below answer. search rules })
