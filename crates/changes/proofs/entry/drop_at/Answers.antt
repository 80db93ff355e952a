-- `changes::entry::drop_at` meets its contract: the rows left to clear give what the whole gives. Assumes nothing.
use native.Mathlib.Omega.{arith}
use Rattle.model.specs.Tables.{at}
use Rattle.changes.proofs.Entering.{entries_begin, entries_end, entries_on}
use Rattle.rows.specs.Blocks.{place_of}
use Rattle.changes.proofs.entry.drop_at.Goals as goal

pub loop-row-init : goal.loop-row-init
loop-row-init c = entries_begin (at (place_of c.args.directory c.args.name)) c.requires.0

pub loop-row-preserved : goal.loop-row-preserved
loop-row-preserved c =
    entries_on (at (place_of c.args.directory c.args.name)) c.loop-row.row (omega arith) c.loop-row.invariant c.drop_if_at.ensures

pub returns : goal.returns
returns c = entries_end (at (place_of c.args.directory c.args.name)) c.loop-row.row c.loop-row-test.false c.loop-row.invariant
