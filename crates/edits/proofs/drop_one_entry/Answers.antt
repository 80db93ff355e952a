-- `edits::drop_one_entry` meets its contract: the count is read and one less is written, or the row cleared. Assumes nothing.
use native.Mathlib.Omega.{arith}
use Rattle.edits.proofs.Counts.{counted_used, no_node_set, one_less_last, one_less_none, one_less_set}
use Rattle.model.specs.Calls.{one_less}
use Rattle.model.specs.Tables.{node_at}
use Rattle.model.specs.Words.{unpack}
use Rattle.rows.proofs.Fields.{node_row_fits}
use Rattle.edits.proofs.drop_one_entry.Goals as goal

pub returns-in-0 : goal.returns-in-0
returns-in-0 c = one_less_none c.requires c.args.node c.in-Some.row c.in-Some.ensures.0 c.count_in.ensures c.in-0.is

pub returns-in-1 : goal.returns-in-1
returns-in-1 c = one_less_last c.requires c.args.node c.in-Some.row c.in-Some.ensures.0 c.count_in.ensures c.in-1.is c.clear_node.ensures

pub set_count-requires : goal.set_count-requires
set_count-requires c = (
  c.requires,
  (
    c.in-Some.ensures.1,
    (counted_used c.requires c.args.node c.in-Some.row (omega arith), omega (arith, (node_row_fits c.args.words.now c.in-Some.row).count)),
  ),
)

pub returns-in_default-count_in : goal.returns-in_default-count_in
returns-in_default-count_in c =
    one_less_set c.requires c.args.node c.in-Some.row c.in-Some.ensures.0 c.count_in.ensures (omega arith)
    c.set_count.ensures

pub returns-in_default : goal.returns-in_default
returns-in_default c =
    no_node_set c.requires c.args.node c.in_default.ensures (one_less (node_at (unpack c.args.words.now).nodes c.args.node))
