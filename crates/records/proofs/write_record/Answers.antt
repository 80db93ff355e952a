-- `records::write_record` meets its contract: the head, then path 1, then path 2. Assumes nothing.
use Rattle.records.proofs.Packings.{record_written}
use Rattle.records.proofs.write_record.Goals as goal

pub returns : goal.returns
returns c =
    record_written _ _ _ c.args.destination.now _ _ _ _ c.joined_head-head.ensures c.write_head.ensures
    c.copy_to.ensures c.copy_to-2.ensures
