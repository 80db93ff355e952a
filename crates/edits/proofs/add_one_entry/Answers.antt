-- `edits::add_one_entry` meets its contract: the count is read and one more is written. Assumes nothing.
use mathlib.Core.Path.{ap}
use native.Mathlib.Omega.{arith}
use Rattle.edits.proofs.Counts.{no_node_set, one_more_set}
use Rattle.model.specs.Calls.{one_more}
use Rattle.model.specs.Tables.{Node, node_at}
use Rattle.model.specs.Words.{unpack}
use Rattle.rows.proofs.Fields.{node_of_row}
use Rattle.edits.proofs.add_one_entry.Goals as goal

pub overflow_add-count : goal.overflow_add-count
overflow_add-count c = omega (arith, ap (λ (x : Node). x.count) (node_of_row (unpack c.args.words.now).nodes c.in-Some.row c.in-Some.ensures.0))

pub set_count-requires : goal.set_count-requires
set_count-requires c =
    let same_node = node_of_row (unpack c.args.words.now).nodes c.in-Some.row c.in-Some.ensures.0 in (
      c.requires.0,
      (c.in-Some.ensures.1, (omega (arith, ap (λ (x : Node). x.kind) same_node), omega (arith, ap (λ (x : Node). x.count) same_node))),
    )

pub returns-in-Some : goal.returns-in-Some
returns-in-Some c = one_more_set c.requires.0 c.args.node c.in-Some.row c.in-Some.ensures.0 c.count_in-count.ensures c.set_count.ensures

pub returns-in_default : goal.returns-in_default
returns-in_default c =
    no_node_set c.requires.0 c.args.node c.in_default.ensures (one_more (node_at (unpack c.args.words.now).nodes c.args.node))
