-- The public function's contract leaves one result. Assumes nothing.
use mathlib.Core.Path.{sym, ◌∙◌}
use Rattle.laws.proofs.Results.{OneResult}
use Rattle.shape.proofs.is_shaped.Kinds as is_shaped_kinds
use Rattle.shape.proofs.is_shaped.Reads as is_shaped_reads

pub is_shaped_determined : OneResult 1 is_shaped_kinds.ps is_shaped_kinds.r is_shaped_reads.Post
is_shaped_determined κs a x y s t p q = p ∙ sym q
