-- Each public function's contract leaves one result, and one content of every word. Assumes nothing.
use mathlib.Core.Path.{sym, ◌∙◌}
use Rattle.laws.proofs.Results.{OneResult, OneExit}
use Rattle.rows.proofs.Meeting.{becomes_once}
use Rattle.changes.proofs.tests.is_present.Kinds as is_present_kinds
use Rattle.changes.proofs.tests.is_present.Reads as is_present_reads
use Rattle.changes.proofs.tests.leads_to_directory.Kinds as leads_to_directory_kinds
use Rattle.changes.proofs.tests.leads_to_directory.Reads as leads_to_directory_reads
use Rattle.changes.proofs.tests.is_no_directory.Kinds as is_no_directory_kinds
use Rattle.changes.proofs.tests.is_no_directory.Reads as is_no_directory_reads
use Rattle.changes.proofs.tests.is_blocked.Kinds as is_blocked_kinds
use Rattle.changes.proofs.tests.is_blocked.Reads as is_blocked_reads
use Rattle.changes.proofs.tests.is_directory_blocked.Kinds as is_directory_blocked_kinds
use Rattle.changes.proofs.tests.is_directory_blocked.Reads as is_directory_blocked_reads
use Rattle.changes.proofs.tests.lacks_entry_row.Kinds as lacks_entry_row_kinds
use Rattle.changes.proofs.tests.lacks_entry_row.Reads as lacks_entry_row_reads
use Rattle.changes.proofs.tests.lacks_rows.Kinds as lacks_rows_kinds
use Rattle.changes.proofs.tests.lacks_rows.Reads as lacks_rows_reads
use Rattle.changes.proofs.takes.take_preempting.Kinds as take_preempting_kinds
use Rattle.changes.proofs.takes.take_preempting.Reads as take_preempting_reads
use Rattle.changes.proofs.takes.take_overruling.Kinds as take_overruling_kinds
use Rattle.changes.proofs.takes.take_overruling.Reads as take_overruling_reads
use Rattle.changes.proofs.takes.take_emptying.Kinds as take_emptying_kinds
use Rattle.changes.proofs.takes.take_emptying.Reads as take_emptying_reads
use Rattle.changes.proofs.entry.drop_entry.Kinds as drop_entry_kinds
use Rattle.changes.proofs.entry.drop_entry.Reads as drop_entry_reads
use Rattle.changes.proofs.entry.add_entry.Kinds as add_entry_kinds
use Rattle.changes.proofs.entry.add_entry.Reads as add_entry_reads

pub is_present_determined : OneResult 0 is_present_kinds.ps is_present_kinds.r is_present_reads.Post
is_present_determined κs a x y s t p q = p ∙ sym q

pub leads_to_directory_determined : OneResult 1 leads_to_directory_kinds.ps leads_to_directory_kinds.r leads_to_directory_reads.Post
leads_to_directory_determined κs a x y s t p q = p ∙ sym q

pub is_no_directory_determined : OneResult 1 is_no_directory_kinds.ps is_no_directory_kinds.r is_no_directory_reads.Post
is_no_directory_determined κs a x y s t p q = p ∙ sym q

pub is_blocked_determined : OneResult 1 is_blocked_kinds.ps is_blocked_kinds.r is_blocked_reads.Post
is_blocked_determined κs a x y s t p q = p ∙ sym q

pub is_directory_blocked_determined : OneResult 1 is_directory_blocked_kinds.ps is_directory_blocked_kinds.r is_directory_blocked_reads.Post
is_directory_blocked_determined κs a x y s t p q = p ∙ sym q

pub lacks_entry_row_determined : OneResult 1 lacks_entry_row_kinds.ps lacks_entry_row_kinds.r lacks_entry_row_reads.Post
lacks_entry_row_determined κs a x y s t p q = p ∙ sym q

pub lacks_rows_determined : OneResult 1 lacks_rows_kinds.ps lacks_rows_kinds.r lacks_rows_reads.Post
lacks_rows_determined κs a x y s t p q = p ∙ sym q

pub take_preempting_exit_determined : OneExit 1 take_preempting_kinds.ps take_preempting_kinds.r take_preempting_reads.Post (λ κs s. s.0.now)
take_preempting_exit_determined κs a x y s t p q = becomes_once p q

pub take_overruling_exit_determined : OneExit 1 take_overruling_kinds.ps take_overruling_kinds.r take_overruling_reads.Post (λ κs s. s.0.now)
take_overruling_exit_determined κs a x y s t p q = becomes_once p q

pub take_emptying_exit_determined : OneExit 1 take_emptying_kinds.ps take_emptying_kinds.r take_emptying_reads.Post (λ κs s. s.0.now)
take_emptying_exit_determined κs a x y s t p q = becomes_once p q

pub drop_entry_exit_determined : OneExit 1 drop_entry_kinds.ps drop_entry_kinds.r drop_entry_reads.Post (λ κs s. s.0.now)
drop_entry_exit_determined κs a x y s t p q = becomes_once p q

pub add_entry_exit_determined : OneExit 1 add_entry_kinds.ps add_entry_kinds.r add_entry_reads.Post (λ κs s. s.0.now)
add_entry_exit_determined κs a x y s t p q = becomes_once p q
