-- Each public function's contract leaves one result, and the writing of a head one content of the destination. Assumes nothing.
use mathlib.Core.Path.{sym, ◌∙◌}
use Rattle.laws.proofs.Results.{OneResult, OneExit}
use Rattle.heads.proofs.head_of.Kinds as head_of_kinds
use Rattle.heads.proofs.head_of.Reads as head_of_reads
use Rattle.heads.proofs.numbers_of.Kinds as numbers_kinds
use Rattle.heads.proofs.numbers_of.Reads as numbers_reads
use Rattle.heads.proofs.path1_length.Kinds as path1_kinds
use Rattle.heads.proofs.path1_length.Reads as path1_reads
use Rattle.heads.proofs.path2_length.Kinds as path2_kinds
use Rattle.heads.proofs.path2_length.Reads as path2_reads
use Rattle.heads.proofs.joined_head.Kinds as joined_kinds
use Rattle.heads.proofs.joined_head.Reads as joined_reads
use Rattle.heads.proofs.write_head.Kinds as write_kinds
use Rattle.heads.proofs.write_head.Reads as write_reads

pub head_of_determined : OneResult 1 head_of_kinds.ps head_of_kinds.r head_of_reads.Post
head_of_determined κs a x y s t p q = p ∙ sym q

pub numbers_of_determined : OneResult 0 numbers_kinds.ps numbers_kinds.r numbers_reads.Post
numbers_of_determined κs a x y s t p q = p ∙ sym q

pub path1_length_determined : OneResult 0 path1_kinds.ps path1_kinds.r path1_reads.Post
path1_length_determined κs a x y s t p q = p ∙ sym q

pub path2_length_determined : OneResult 0 path2_kinds.ps path2_kinds.r path2_reads.Post
path2_length_determined κs a x y s t p q = p ∙ sym q

pub joined_head_determined : OneResult 0 joined_kinds.ps joined_kinds.r joined_reads.Post
joined_head_determined κs a x y s t p q = p ∙ sym q

pub write_head_exit_determined : OneExit 1 write_kinds.ps write_kinds.r write_reads.Post (λ κs s. s.0.now)
write_head_exit_determined κs a x y s t p q = p ∙ sym q
