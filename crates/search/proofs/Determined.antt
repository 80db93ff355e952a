-- Each public function's contract leaves one result. Assumes nothing.
use mathlib.Core.Path.{sym, ◌∙◌}
use Rattle.laws.proofs.Results.{OneResult}
use Rattle.search.proofs.is_listed.Kinds as is_listed_kinds
use Rattle.search.proofs.is_listed.Reads as is_listed_reads
use Rattle.search.proofs.user_of_process.Kinds as user_of_process_kinds
use Rattle.search.proofs.user_of_process.Reads as user_of_process_reads
use Rattle.search.proofs.find_caller.Kinds as find_caller_kinds
use Rattle.search.proofs.find_caller.Reads as find_caller_reads
use Rattle.search.proofs.entry_is_at.Kinds as entry_is_at_kinds
use Rattle.search.proofs.entry_is_at.Reads as entry_is_at_reads
use Rattle.search.proofs.has_any_entry.Kinds as has_any_entry_kinds
use Rattle.search.proofs.has_any_entry.Reads as has_any_entry_reads
use Rattle.search.proofs.hold_is_on.Kinds as hold_is_on_kinds
use Rattle.search.proofs.hold_is_on.Reads as hold_is_on_reads
use Rattle.search.proofs.has_hold.Kinds as has_hold_kinds
use Rattle.search.proofs.has_hold.Reads as has_hold_reads
use Rattle.search.proofs.free_hold_rows.Kinds as free_hold_rows_kinds
use Rattle.search.proofs.free_hold_rows.Reads as free_hold_rows_reads
use Rattle.search.proofs.free_entry_row.Kinds as free_entry_row_kinds
use Rattle.search.proofs.free_entry_row.Reads as free_entry_row_reads
use Rattle.search.proofs.free_node_row.Kinds as free_node_row_kinds
use Rattle.search.proofs.free_node_row.Reads as free_node_row_reads
use Rattle.search.proofs.free_hold_row.Kinds as free_hold_row_kinds
use Rattle.search.proofs.free_hold_row.Reads as free_hold_row_reads
use Rattle.search.proofs.free_process_row.Kinds as free_process_row_kinds
use Rattle.search.proofs.free_process_row.Reads as free_process_row_reads

pub is_listed_determined : OneResult 1 is_listed_kinds.ps is_listed_kinds.r is_listed_reads.Post
is_listed_determined κs a x y s t p q = p ∙ sym q

pub user_of_process_determined : OneResult 1 user_of_process_kinds.ps user_of_process_kinds.r user_of_process_reads.Post
user_of_process_determined κs a x y s t p q = p ∙ sym q

pub find_caller_determined : OneResult 1 find_caller_kinds.ps find_caller_kinds.r find_caller_reads.Post
find_caller_determined κs a x y s t p q = p ∙ sym q

pub entry_is_at_determined : OneResult 1 entry_is_at_kinds.ps entry_is_at_kinds.r entry_is_at_reads.Post
entry_is_at_determined κs a x y s t p q = p ∙ sym q

pub has_any_entry_determined : OneResult 1 has_any_entry_kinds.ps has_any_entry_kinds.r has_any_entry_reads.Post
has_any_entry_determined κs a x y s t p q = p ∙ sym q

pub hold_is_on_determined : OneResult 1 hold_is_on_kinds.ps hold_is_on_kinds.r hold_is_on_reads.Post
hold_is_on_determined κs a x y s t p q = p ∙ sym q

pub has_hold_determined : OneResult 1 has_hold_kinds.ps has_hold_kinds.r has_hold_reads.Post
has_hold_determined κs a x y s t p q = p ∙ sym q

pub free_hold_rows_determined : OneResult 1 free_hold_rows_kinds.ps free_hold_rows_kinds.r free_hold_rows_reads.Post
free_hold_rows_determined κs a x y s t p q = p ∙ sym q

pub free_entry_row_determined : OneResult 1 free_entry_row_kinds.ps free_entry_row_kinds.r free_entry_row_reads.Post
free_entry_row_determined κs a x y s t p q = p ∙ sym q

pub free_node_row_determined : OneResult 1 free_node_row_kinds.ps free_node_row_kinds.r free_node_row_reads.Post
free_node_row_determined κs a x y s t p q = p ∙ sym q

pub free_hold_row_determined : OneResult 1 free_hold_row_kinds.ps free_hold_row_kinds.r free_hold_row_reads.Post
free_hold_row_determined κs a x y s t p q = p ∙ sym q

pub free_process_row_determined : OneResult 1 free_process_row_kinds.ps free_process_row_kinds.r free_process_row_reads.Post
free_process_row_determined κs a x y s t p q = p ∙ sym q
