-- Each public function's contract leaves one result, and one content of every word. Assumes nothing.
use Rattle.laws.proofs.Results.{OneResult, OneExit}
use Rattle.rows.proofs.Meeting.{answers_once, words_once}
use Rattle.removals.proofs.at_end.unlink_at.Kinds as unlink_at_kinds
use Rattle.removals.proofs.at_end.unlink_at.Reads as unlink_at_reads
use Rattle.removals.proofs.at_end.rmdir_at.Kinds as rmdir_at_kinds
use Rattle.removals.proofs.at_end.rmdir_at.Reads as rmdir_at_reads
use Rattle.removals.proofs.unlink.Kinds as unlink_kinds
use Rattle.removals.proofs.unlink.Reads as unlink_reads
use Rattle.removals.proofs.rmdir.Kinds as rmdir_kinds
use Rattle.removals.proofs.rmdir.Reads as rmdir_reads

pub unlink_at_determined : OneResult 1 unlink_at_kinds.ps unlink_at_kinds.r unlink_at_reads.Post
unlink_at_determined κs a x y s t p q = answers_once p q

pub unlink_at_exit_determined : OneExit 1 unlink_at_kinds.ps unlink_at_kinds.r unlink_at_reads.Post (λ κs s. s.0.now)
unlink_at_exit_determined κs a x y s t p q = words_once p q

pub rmdir_at_determined : OneResult 1 rmdir_at_kinds.ps rmdir_at_kinds.r rmdir_at_reads.Post
rmdir_at_determined κs a x y s t p q = answers_once p q

pub rmdir_at_exit_determined : OneExit 1 rmdir_at_kinds.ps rmdir_at_kinds.r rmdir_at_reads.Post (λ κs s. s.0.now)
rmdir_at_exit_determined κs a x y s t p q = words_once p q

pub unlink_determined : OneResult 3 unlink_kinds.ps unlink_kinds.r unlink_reads.Post
unlink_determined κs a x y s t p q = answers_once p q

pub unlink_exit_determined : OneExit 3 unlink_kinds.ps unlink_kinds.r unlink_reads.Post (λ κs s. s.0.now)
unlink_exit_determined κs a x y s t p q = words_once p q

pub rmdir_determined : OneResult 3 rmdir_kinds.ps rmdir_kinds.r rmdir_reads.Post
rmdir_determined κs a x y s t p q = answers_once p q

pub rmdir_exit_determined : OneExit 3 rmdir_kinds.ps rmdir_kinds.r rmdir_reads.Post (λ κs s. s.0.now)
rmdir_exit_determined κs a x y s t p q = words_once p q
