-- Each public function's contract leaves one result, and one content of every word. Assumes nothing.
use Rattle.laws.proofs.Results.{OneResult, OneExit}
use Rattle.rows.proofs.Meeting.{answers_once, words_once}
use Rattle.dispatch.proofs.dispatch.Kinds as dispatch_kinds
use Rattle.dispatch.proofs.dispatch.Reads as dispatch_reads

pub dispatch_determined : OneResult 3 dispatch_kinds.ps dispatch_kinds.r dispatch_reads.Post
dispatch_determined κs a x y s t p q = answers_once p q

pub dispatch_exit_determined : OneExit 3 dispatch_kinds.ps dispatch_kinds.r dispatch_reads.Post (λ κs s. s.0.now)
dispatch_exit_determined κs a x y s t p q = words_once p q
