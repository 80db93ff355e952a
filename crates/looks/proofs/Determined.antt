-- Each public function's contract leaves one result, and one content of every word. Assumes nothing.
use Rattle.laws.proofs.Results.{OneResult, OneExit}
use Rattle.rows.proofs.Meeting.{answers_once, words_once}
use Rattle.looks.proofs.at_end.look_at.Kinds as look_at_kinds
use Rattle.looks.proofs.at_end.look_at.Reads as look_at_reads
use Rattle.looks.proofs.check.Kinds as check_kinds
use Rattle.looks.proofs.check.Reads as check_reads
use Rattle.looks.proofs.look.Kinds as look_kinds
use Rattle.looks.proofs.look.Reads as look_reads
use Rattle.looks.proofs.use_of.Kinds as use_of_kinds
use Rattle.looks.proofs.use_of.Reads as use_of_reads

pub look_at_determined : OneResult 1 look_at_kinds.ps look_at_kinds.r look_at_reads.Post
look_at_determined κs a x y s t p q = answers_once p q

pub look_at_exit_determined : OneExit 1 look_at_kinds.ps look_at_kinds.r look_at_reads.Post (λ κs s. s.0.now)
look_at_exit_determined κs a x y s t p q = words_once p q

pub check_determined : OneResult 3 check_kinds.ps check_kinds.r check_reads.Post
check_determined κs a x y s t p q = answers_once p q

pub check_exit_determined : OneExit 3 check_kinds.ps check_kinds.r check_reads.Post (λ κs s. s.0.now)
check_exit_determined κs a x y s t p q = words_once p q

pub look_determined : OneResult 3 look_kinds.ps look_kinds.r look_reads.Post
look_determined κs a x y s t p q = answers_once p q

pub look_exit_determined : OneExit 3 look_kinds.ps look_kinds.r look_reads.Post (λ κs s. s.0.now)
look_exit_determined κs a x y s t p q = words_once p q

pub use_of_determined : OneResult 3 use_of_kinds.ps use_of_kinds.r use_of_reads.Post
use_of_determined κs a x y s t p q = answers_once p q

pub use_of_exit_determined : OneExit 3 use_of_kinds.ps use_of_kinds.r use_of_reads.Post (λ κs s. s.0.now)
use_of_exit_determined κs a x y s t p q = words_once p q
