-- The public function's contract leaves one result. Assumes nothing.
use mathlib.Core.Path.{sym, ◌∙◌}
use Rattle.laws.proofs.Results.{OneResult}
use Rattle.names.proofs.is_good_name.Kinds as is_good_name_kinds
use Rattle.names.proofs.is_good_name.Reads as is_good_name_reads

pub is_good_name_determined : OneResult 0 is_good_name_kinds.ps is_good_name_kinds.r is_good_name_reads.Post
is_good_name_determined κs a x y s t p q = p ∙ sym q
