-- `processes::fork::lacks_room_for_copies` meets its contract: as many copies as the parent has holds. Assumes nothing.
use Rattle.processes.proofs.Forking.{copies_room}
use Rattle.processes.proofs.fork.lacks_room_for_copies.Goals as goal

pub returns : goal.returns
returns c = copies_room c.args.words.now c.args.parent c.args.child c.free_hold_rows.ensures c.count_of_process-wanted.ensures
