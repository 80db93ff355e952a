-- Each public function's contract leaves one result. Assumes nothing.
use mathlib.Core.Path.{sym, ◌∙◌}
use Rattle.laws.proofs.Results.{OneResult}
use Rattle.process_index.proofs.index_processes.Kinds as index_processes_kinds
use Rattle.process_index.proofs.index_processes.Reads as index_processes_reads
use Rattle.process_index.proofs.is_in_index.Kinds as is_in_index_kinds
use Rattle.process_index.proofs.is_in_index.Reads as is_in_index_reads
use Rattle.process_index.proofs.user_in_index.Kinds as user_in_index_kinds
use Rattle.process_index.proofs.user_in_index.Reads as user_in_index_reads

-- the verdict; the links of free rows are left open
pub index_processes_determined : OneResult 2 index_processes_kinds.ps index_processes_kinds.r index_processes_reads.Post
index_processes_determined κs a x y s t p q = p.0 ∙ sym q.0

pub is_in_index_determined : OneResult 2 is_in_index_kinds.ps is_in_index_kinds.r is_in_index_reads.Post
is_in_index_determined κs a x y s t p q = p ∙ sym q

pub user_in_index_determined : OneResult 2 user_in_index_kinds.ps user_in_index_kinds.r user_in_index_reads.Post
user_in_index_determined κs a x y s t p q = p ∙ sym q
