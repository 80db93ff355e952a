-- What each public function promises leaves one result, and one content of every word. Assumes nothing.
use mathlib.Core.Path.{sym, ◌∙◌}
use Rattle.laws.proofs.Results.{OneResult, OneExit}
use Rattle.rows.proofs.Meeting.{becomes_once, answers_once, words_once}
use Rattle.processes.proofs.is_unlisted.Kinds as is_unlisted_kinds
use Rattle.processes.proofs.is_unlisted.Reads as is_unlisted_reads
use Rattle.processes.proofs.lacks_process_row.Kinds as lacks_process_row_kinds
use Rattle.processes.proofs.lacks_process_row.Reads as lacks_process_row_reads
use Rattle.processes.proofs.add_process.Kinds as add_process_kinds
use Rattle.processes.proofs.add_process.Reads as add_process_reads
use Rattle.processes.proofs.drop_process.Kinds as drop_process_kinds
use Rattle.processes.proofs.drop_process.Reads as drop_process_reads
use Rattle.processes.proofs.enter.enter.Kinds as enter_kinds
use Rattle.processes.proofs.enter.enter.Reads as enter_reads
use Rattle.processes.proofs.fork.fork.Kinds as fork_kinds
use Rattle.processes.proofs.fork.fork.Reads as fork_reads
use Rattle.processes.proofs.exec.exec.Kinds as exec_kinds
use Rattle.processes.proofs.exec.exec.Reads as exec_reads
use Rattle.processes.proofs.exit.exit.Kinds as exit_kinds
use Rattle.processes.proofs.exit.exit.Reads as exit_reads

pub is_unlisted_determined : OneResult 1 is_unlisted_kinds.ps is_unlisted_kinds.r is_unlisted_reads.Post
is_unlisted_determined κs a x y s t p q = p ∙ sym q

pub lacks_process_row_determined : OneResult 1 lacks_process_row_kinds.ps lacks_process_row_kinds.r lacks_process_row_reads.Post
lacks_process_row_determined κs a x y s t p q = p ∙ sym q

pub add_process_exit_determined : OneExit 1 add_process_kinds.ps add_process_kinds.r add_process_reads.Post (λ κs s. s.0.now)
add_process_exit_determined κs a x y s t p q = becomes_once p q

pub drop_process_exit_determined : OneExit 1 drop_process_kinds.ps drop_process_kinds.r drop_process_reads.Post (λ κs s. s.0.now)
drop_process_exit_determined κs a x y s t p q = becomes_once p q

pub enter_determined : OneResult 1 enter_kinds.ps enter_kinds.r enter_reads.Post
enter_determined κs a x y s t p q = answers_once p q

pub enter_exit_determined : OneExit 1 enter_kinds.ps enter_kinds.r enter_reads.Post (λ κs s. s.0.now)
enter_exit_determined κs a x y s t p q = words_once p q

pub fork_determined : OneResult 1 fork_kinds.ps fork_kinds.r fork_reads.Post
fork_determined κs a x y s t p q = answers_once p q

pub fork_exit_determined : OneExit 1 fork_kinds.ps fork_kinds.r fork_reads.Post (λ κs s. s.0.now)
fork_exit_determined κs a x y s t p q = words_once p q

pub exec_determined : OneResult 1 exec_kinds.ps exec_kinds.r exec_reads.Post
exec_determined κs a x y s t p q = answers_once p q

pub exec_exit_determined : OneExit 1 exec_kinds.ps exec_kinds.r exec_reads.Post (λ κs s. s.0.now)
exec_exit_determined κs a x y s t p q = words_once p q

pub exit_determined : OneResult 1 exit_kinds.ps exit_kinds.r exit_reads.Post
exit_determined κs a x y s t p q = answers_once p q

pub exit_exit_determined : OneExit 1 exit_kinds.ps exit_kinds.r exit_reads.Post (λ κs s. s.0.now)
exit_exit_determined κs a x y s t p q = words_once p q
