-- Each public function's contract leaves one result. Assumes nothing.
use mathlib.Core.Path.{sym, ◌∙◌}
use Rattle.laws.proofs.Results.{OneResult}
use Rattle.paths.proofs.valid_name.Kinds as valid_name_kinds
use Rattle.paths.proofs.valid_name.Reads as valid_name_reads
use Rattle.paths.proofs.valid_path.Kinds as valid_path_kinds
use Rattle.paths.proofs.valid_path.Reads as valid_path_reads
use Rattle.paths.proofs.valid_target.Kinds as valid_target_kinds
use Rattle.paths.proofs.valid_target.Reads as valid_target_reads
use Rattle.paths.proofs.next_name.Kinds as next_name_kinds
use Rattle.paths.proofs.next_name.Reads as next_name_reads

pub valid_name_determined : OneResult 1 valid_name_kinds.ps valid_name_kinds.r valid_name_reads.Post
valid_name_determined κs a x y s t p q = p ∙ sym q

pub valid_path_determined : OneResult 1 valid_path_kinds.ps valid_path_kinds.r valid_path_reads.Post
valid_path_determined κs a x y s t p q = p ∙ sym q

pub valid_target_determined : OneResult 1 valid_target_kinds.ps valid_target_kinds.r valid_target_reads.Post
valid_target_determined κs a x y s t p q = p ∙ sym q

pub next_name_determined : OneResult 1 next_name_kinds.ps next_name_kinds.r next_name_reads.Post
next_name_determined κs a x y s t p q = p ∙ sym q
