-- `changes::tests::leads_to_directory` meets its contract: kind 2 is a directory. Assumes nothing.
use mathlib.Core.Path.{◌∙◌, ap}
use lib.Dec.{eqb}
use Rattle.model.specs.Tables.{is_directory, node_at}
use Rattle.model.specs.Words.{unpack}
use Rattle.changes.proofs.tests.leads_to_directory.Goals as goal

pub returns : goal.returns
unfolding is_directory
returns c =
    c.is_kind.ensures ∙ ap (λ n. eqb (node_at (unpack c.args.words.now).nodes n).kind 2) c.node_of.ensures
