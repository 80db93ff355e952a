-- Each public function's contract leaves one result. Assumes nothing.
use mathlib.Core.Path.{sym, ◌∙◌}
use Rattle.laws.proofs.Results.{OneResult}
use Rattle.reaching.proofs.walk_part.Kinds as walk_part_kinds
use Rattle.reaching.proofs.walk_part.Reads as walk_part_reads
use Rattle.reaching.proofs.reach.Kinds as reach_kinds
use Rattle.reaching.proofs.reach.Reads as reach_reads
use Rattle.reaching.proofs.reach_both.Kinds as reach_both_kinds
use Rattle.reaching.proofs.reach_both.Reads as reach_both_reads

pub walk_part_determined : OneResult 3 walk_part_kinds.ps walk_part_kinds.r walk_part_reads.Post
walk_part_determined κs a x y s t p q = p ∙ sym q

pub reach_determined : OneResult 3 reach_kinds.ps reach_kinds.r reach_reads.Post
reach_determined κs a x y s t p q = p ∙ sym q

pub reach_both_determined : OneResult 3 reach_both_kinds.ps reach_both_kinds.r reach_both_reads.Post
reach_both_determined κs a x y s t p q = p ∙ sym q
