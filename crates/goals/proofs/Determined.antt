-- Each public function's contract leaves one result. Assumes nothing.
use mathlib.Core.Path.{sym, ◌∙◌}
use Rattle.laws.proofs.Results.{OneResult}
use Rattle.goals.proofs.node_at_end.Kinds as node_at_end_kinds
use Rattle.goals.proofs.node_at_end.Reads as node_at_end_reads
use Rattle.goals.proofs.node_of.Kinds as node_of_kinds
use Rattle.goals.proofs.node_of.Reads as node_of_reads
use Rattle.goals.proofs.is_absent.Kinds as is_absent_kinds
use Rattle.goals.proofs.is_absent.Reads as is_absent_reads

pub node_at_end_determined : OneResult 0 node_at_end_kinds.ps node_at_end_kinds.r node_at_end_reads.Post
node_at_end_determined κs a x y s t p q = p ∙ sym q

pub node_of_determined : OneResult 0 node_of_kinds.ps node_of_kinds.r node_of_reads.Post
node_of_determined κs a x y s t p q = p ∙ sym q

pub is_absent_determined : OneResult 0 is_absent_kinds.ps is_absent_kinds.r is_absent_reads.Post
is_absent_determined κs a x y s t p q = p ∙ sym q
