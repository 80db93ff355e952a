-- The public function's contract leaves one result. Assumes nothing.
use mathlib.Core.Path.{sym, ◌∙◌}
use Rattle.laws.proofs.Results.{OneResult}
use Rattle.tree_rules.proofs.tree_right.Kinds as tree_right_kinds
use Rattle.tree_rules.proofs.tree_right.Reads as tree_right_reads

pub tree_right_determined : OneResult 1 tree_right_kinds.ps tree_right_kinds.r tree_right_reads.Post
tree_right_determined κs a x y s t p q = p ∙ sym q
