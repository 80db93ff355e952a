-- The public function's contract leaves one answer and one goal. Assumes nothing.
use mathlib.Core.Path.{sym, ◌∙◌}
use Rattle.laws.proofs.Results.{OneResult, OneExit}
use Rattle.walk_told.proofs.walk_to.Kinds as walk_kinds
use Rattle.walk_told.proofs.walk_to.Reads as walk_reads

pub walk_to_determined : OneResult 3 walk_kinds.ps walk_kinds.r walk_reads.Post
walk_to_determined κs a x y s t p q = p.answer ∙ sym q.answer

-- the goal is the fourth parameter
pub walk_to_goal_determined : OneExit 3 walk_kinds.ps walk_kinds.r walk_reads.Post (λ κs s. s.1.1.1.0.now)
walk_to_goal_determined κs a x y s t p q = p.numbers ∙ sym q.numbers
