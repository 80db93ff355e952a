-- The contract of `fresh` leaves one answer, and one content of the words. Assumes nothing.
use mathlib.Core.Path.{sym, ◌∙◌}
use Rattle.laws.proofs.Results.{OneResult, OneExit}
use Rattle.fresh.proofs.fresh.Kinds as fresh_kinds
use Rattle.fresh.proofs.fresh.Reads as fresh_reads

pub fresh_determined : OneResult 1 fresh_kinds.ps fresh_kinds.r fresh_reads.Post
fresh_determined κs a x y s t p q = p.answer ∙ sym q.answer

pub fresh_exit_determined : OneExit 1 fresh_kinds.ps fresh_kinds.r fresh_reads.Post (λ κs s. s.0.now)
fresh_exit_determined κs a x y s t p q = p.words ∙ sym q.words
