-- What each public function promises leaves one result, and one content of every word. Assumes nothing.
use mathlib.Core.Path.{sym, ◌∙◌}
use Rattle.laws.proofs.Results.{OneResult, OneExit}
use Rattle.rows.proofs.Meeting.{becomes_once}
use Rattle.holds.proofs.is_root.Kinds as is_root_kinds
use Rattle.holds.proofs.is_root.Reads as is_root_reads
use Rattle.holds.proofs.end_held.Kinds as end_held_kinds
use Rattle.holds.proofs.end_held.Reads as end_held_reads
use Rattle.holds.proofs.entry_held.Kinds as entry_held_kinds
use Rattle.holds.proofs.entry_held.Reads as entry_held_reads
use Rattle.holds.proofs.inside_held.Kinds as inside_held_kinds
use Rattle.holds.proofs.inside_held.Reads as inside_held_reads
use Rattle.holds.proofs.drop_of_process.Kinds as drop_of_process_kinds
use Rattle.holds.proofs.drop_of_process.Reads as drop_of_process_reads
use Rattle.holds.proofs.drop_inside.Kinds as drop_inside_kinds
use Rattle.holds.proofs.drop_inside.Reads as drop_inside_reads
use Rattle.holds.proofs.drop_preempted.Kinds as drop_preempted_kinds
use Rattle.holds.proofs.drop_preempted.Reads as drop_preempted_reads
use Rattle.holds.proofs.drop_overruled.Kinds as drop_overruled_kinds
use Rattle.holds.proofs.drop_overruled.Reads as drop_overruled_reads

pub is_root_determined : OneResult 0 is_root_kinds.ps is_root_kinds.r is_root_reads.Post
is_root_determined κs a x y s t p q = p ∙ sym q

pub end_held_determined : OneResult 1 end_held_kinds.ps end_held_kinds.r end_held_reads.Post
end_held_determined κs a x y s t p q = p ∙ sym q

pub entry_held_determined : OneResult 1 entry_held_kinds.ps entry_held_kinds.r entry_held_reads.Post
entry_held_determined κs a x y s t p q = p ∙ sym q

pub inside_held_determined : OneResult 1 inside_held_kinds.ps inside_held_kinds.r inside_held_reads.Post
inside_held_determined κs a x y s t p q = p ∙ sym q

pub drop_of_process_exit_determined : OneExit 1 drop_of_process_kinds.ps drop_of_process_kinds.r drop_of_process_reads.Post (λ κs s. s.0.now)
drop_of_process_exit_determined κs a x y s t p q = becomes_once p q

pub drop_inside_exit_determined : OneExit 1 drop_inside_kinds.ps drop_inside_kinds.r drop_inside_reads.Post (λ κs s. s.0.now)
drop_inside_exit_determined κs a x y s t p q = becomes_once p q

pub drop_preempted_exit_determined : OneExit 1 drop_preempted_kinds.ps drop_preempted_kinds.r drop_preempted_reads.Post (λ κs s. s.0.now)
drop_preempted_exit_determined κs a x y s t p q = becomes_once p q

pub drop_overruled_exit_determined : OneExit 1 drop_overruled_kinds.ps drop_overruled_kinds.r drop_overruled_reads.Post (λ κs s. s.0.now)
drop_overruled_exit_determined κs a x y s t p q = becomes_once p q
