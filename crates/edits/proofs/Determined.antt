-- Each public function's contract leaves one content of the words. Assumes nothing.
use Rattle.laws.proofs.Results.{OneExit}
use Rattle.rows.proofs.Meeting.{becomes_once}
use Rattle.edits.proofs.set_entry.Kinds as set_entry_kinds
use Rattle.edits.proofs.set_entry.Reads as set_entry_reads
use Rattle.edits.proofs.clear_entry.Kinds as clear_entry_kinds
use Rattle.edits.proofs.clear_entry.Reads as clear_entry_reads
use Rattle.edits.proofs.set_node.Kinds as set_node_kinds
use Rattle.edits.proofs.set_node.Reads as set_node_reads
use Rattle.edits.proofs.set_hold.Kinds as set_hold_kinds
use Rattle.edits.proofs.set_hold.Reads as set_hold_reads
use Rattle.edits.proofs.clear_hold.Kinds as clear_hold_kinds
use Rattle.edits.proofs.clear_hold.Reads as clear_hold_reads
use Rattle.edits.proofs.set_process.Kinds as set_process_kinds
use Rattle.edits.proofs.set_process.Reads as set_process_reads
use Rattle.edits.proofs.clear_process.Kinds as clear_process_kinds
use Rattle.edits.proofs.clear_process.Reads as clear_process_reads
use Rattle.edits.proofs.add_one_entry.Kinds as add_one_entry_kinds
use Rattle.edits.proofs.add_one_entry.Reads as add_one_entry_reads
use Rattle.edits.proofs.drop_one_entry.Kinds as drop_one_entry_kinds
use Rattle.edits.proofs.drop_one_entry.Reads as drop_one_entry_reads

pub set_entry_determined : OneExit 1 set_entry_kinds.ps set_entry_kinds.r set_entry_reads.Post (λ κs s. s.0.now)
set_entry_determined κs a x y s t p q = becomes_once p q

pub clear_entry_determined : OneExit 1 clear_entry_kinds.ps clear_entry_kinds.r clear_entry_reads.Post (λ κs s. s.0.now)
clear_entry_determined κs a x y s t p q = becomes_once p q

pub set_node_determined : OneExit 2 set_node_kinds.ps set_node_kinds.r set_node_reads.Post (λ κs s. s.0.now)
set_node_determined κs a x y s t p q = becomes_once p q

pub set_hold_determined : OneExit 1 set_hold_kinds.ps set_hold_kinds.r set_hold_reads.Post (λ κs s. s.0.now)
set_hold_determined κs a x y s t p q = becomes_once p q

pub clear_hold_determined : OneExit 1 clear_hold_kinds.ps clear_hold_kinds.r clear_hold_reads.Post (λ κs s. s.0.now)
clear_hold_determined κs a x y s t p q = becomes_once p q

pub set_process_determined : OneExit 1 set_process_kinds.ps set_process_kinds.r set_process_reads.Post (λ κs s. s.0.now)
set_process_determined κs a x y s t p q = becomes_once p q

pub clear_process_determined : OneExit 1 clear_process_kinds.ps clear_process_kinds.r clear_process_reads.Post (λ κs s. s.0.now)
clear_process_determined κs a x y s t p q = becomes_once p q

pub add_one_entry_determined : OneExit 1 add_one_entry_kinds.ps add_one_entry_kinds.r add_one_entry_reads.Post (λ κs s. s.0.now)
add_one_entry_determined κs a x y s t p q = becomes_once p q

pub drop_one_entry_determined : OneExit 1 drop_one_entry_kinds.ps drop_one_entry_kinds.r drop_one_entry_reads.Post (λ κs s. s.0.now)
drop_one_entry_determined κs a x y s t p q = becomes_once p q
