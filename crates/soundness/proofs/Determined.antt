-- Each public function's contract leaves one result. Assumes nothing.
use mathlib.Core.Path.{sym, ◌∙◌}
use Rattle.laws.proofs.Results.{OneResult}
use Rattle.soundness.proofs.sound.Kinds as sound_kinds
use Rattle.soundness.proofs.sound.Reads as sound_reads
use Rattle.soundness.proofs.sound_and_index.Kinds as sound_and_index_kinds
use Rattle.soundness.proofs.sound_and_index.Reads as sound_and_index_reads

pub sound_determined : OneResult 1 sound_kinds.ps sound_kinds.r sound_reads.Post
sound_determined κs a x y s t p q = p ∙ sym q

-- the verdict; the links of free rows are left open
pub sound_and_index_determined : OneResult 2 sound_and_index_kinds.ps sound_and_index_kinds.r sound_and_index_reads.Post
sound_and_index_determined κs a x y s t p q = p.0 ∙ sym q.0
