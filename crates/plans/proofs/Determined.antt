-- What each public function promises leaves one result, and one content of every word. Assumes nothing.
use mathlib.Core.Path.{sym, ◌∙◌}
use Rattle.laws.proofs.Results.{OneResult, OneExit}
use Rattle.rows.proofs.Meeting.{becomes_once}
use Rattle.plans.proofs.Planning.{one_plan}
use Rattle.plans.proofs.plan_holds.Kinds as plan_holds_kinds
use Rattle.plans.proofs.plan_holds.Reads as plan_holds_reads
use Rattle.plans.proofs.lacks_room.Kinds as lacks_room_kinds
use Rattle.plans.proofs.lacks_room.Reads as lacks_room_reads
use Rattle.plans.proofs.add_planned.Kinds as add_planned_kinds
use Rattle.plans.proofs.add_planned.Reads as add_planned_reads
use Rattle.plans.proofs.count_of_process.Kinds as count_of_process_kinds
use Rattle.plans.proofs.count_of_process.Reads as count_of_process_reads
use Rattle.plans.proofs.copy_holds.Kinds as copy_holds_kinds
use Rattle.plans.proofs.copy_holds.Reads as copy_holds_reads

pub plan_holds_determined : OneResult 1 plan_holds_kinds.ps plan_holds_kinds.r plan_holds_reads.Post
plan_holds_determined κs a x y s t p q = one_plan p q

pub lacks_room_determined : OneResult 2 lacks_room_kinds.ps lacks_room_kinds.r lacks_room_reads.Post
lacks_room_determined κs a x y s t p q = p ∙ sym q

pub add_planned_exit_determined : OneExit 2 add_planned_kinds.ps add_planned_kinds.r add_planned_reads.Post (λ κs s. s.0.now)
add_planned_exit_determined κs a x y s t p q = becomes_once p q

pub count_of_process_determined : OneResult 1 count_of_process_kinds.ps count_of_process_kinds.r count_of_process_reads.Post
count_of_process_determined κs a x y s t p q = p ∙ sym q

pub copy_holds_exit_determined : OneExit 1 copy_holds_kinds.ps copy_holds_kinds.r copy_holds_reads.Post (λ κs s. s.0.now)
copy_holds_exit_determined κs a x y s t p q = becomes_once p q
