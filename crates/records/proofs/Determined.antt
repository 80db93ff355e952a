-- Each public function's contract leaves one result, and packing's leaves one content of the destination. Assumes nothing.
use mathlib.Core.Path.{sym, ◌∙◌}
use Rattle.laws.proofs.Results.{OneResult, OneExit}
use Rattle.records.proofs.read.Kinds as read_kinds
use Rattle.records.proofs.read.Reads as read_reads
use Rattle.records.proofs.taken_of.Kinds as taken_kinds
use Rattle.records.proofs.taken_of.Reads as taken_reads
use Rattle.records.proofs.is_cut_short.Kinds as short_kinds
use Rattle.records.proofs.is_cut_short.Reads as short_reads
use Rattle.records.proofs.pack.Kinds as pack_kinds
use Rattle.records.proofs.pack.Reads as pack_reads

pub read_determined : OneResult 1 read_kinds.ps read_kinds.r read_reads.Post
read_determined κs a x y s t p q = p ∙ sym q

pub taken_of_determined : OneResult 0 taken_kinds.ps taken_kinds.r taken_reads.Post
taken_of_determined κs a x y s t p q = p ∙ sym q

pub is_cut_short_determined : OneResult 0 short_kinds.ps short_kinds.r short_reads.Post
is_cut_short_determined κs a x y s t p q = p ∙ sym q

pub pack_determined : OneResult 3 pack_kinds.ps pack_kinds.r pack_reads.Post
pack_determined κs a x y s t p q = p.answer ∙ sym q.answer

-- the destination is the sixth parameter
pub pack_exit_determined : OneExit 3 pack_kinds.ps pack_kinds.r pack_reads.Post (λ κs s. s.1.1.1.1.1.0.now)
pack_exit_determined κs a x y s t p q = p.bytes ∙ sym q.bytes
