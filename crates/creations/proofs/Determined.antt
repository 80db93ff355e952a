-- Each public function's contract leaves one result, and one content of every word. Assumes nothing.
use Rattle.laws.proofs.Results.{OneResult, OneExit}
use Rattle.rows.proofs.Meeting.{answers_once, words_once}
use Rattle.creations.proofs.at_end.make_at.Kinds as make_at_kinds
use Rattle.creations.proofs.at_end.make_at.Reads as make_at_reads
use Rattle.creations.proofs.at_end.link_at.Kinds as link_at_kinds
use Rattle.creations.proofs.at_end.link_at.Reads as link_at_reads
use Rattle.creations.proofs.create.Kinds as create_kinds
use Rattle.creations.proofs.create.Reads as create_reads
use Rattle.creations.proofs.mkdir.Kinds as mkdir_kinds
use Rattle.creations.proofs.mkdir.Reads as mkdir_reads
use Rattle.creations.proofs.symlink.Kinds as symlink_kinds
use Rattle.creations.proofs.symlink.Reads as symlink_reads
use Rattle.creations.proofs.link.Kinds as link_kinds
use Rattle.creations.proofs.link.Reads as link_reads

pub make_at_determined : OneResult 2 make_at_kinds.ps make_at_kinds.r make_at_reads.Post
make_at_determined κs a x y s t p q = answers_once p q

pub make_at_exit_determined : OneExit 2 make_at_kinds.ps make_at_kinds.r make_at_reads.Post (λ κs s. s.0.now)
make_at_exit_determined κs a x y s t p q = words_once p q

pub link_at_determined : OneResult 1 link_at_kinds.ps link_at_kinds.r link_at_reads.Post
link_at_determined κs a x y s t p q = answers_once p q

pub link_at_exit_determined : OneExit 1 link_at_kinds.ps link_at_kinds.r link_at_reads.Post (λ κs s. s.0.now)
link_at_exit_determined κs a x y s t p q = words_once p q

pub create_determined : OneResult 3 create_kinds.ps create_kinds.r create_reads.Post
create_determined κs a x y s t p q = answers_once p q

pub create_exit_determined : OneExit 3 create_kinds.ps create_kinds.r create_reads.Post (λ κs s. s.0.now)
create_exit_determined κs a x y s t p q = words_once p q

pub mkdir_determined : OneResult 3 mkdir_kinds.ps mkdir_kinds.r mkdir_reads.Post
mkdir_determined κs a x y s t p q = answers_once p q

pub mkdir_exit_determined : OneExit 3 mkdir_kinds.ps mkdir_kinds.r mkdir_reads.Post (λ κs s. s.0.now)
mkdir_exit_determined κs a x y s t p q = words_once p q

pub symlink_determined : OneResult 3 symlink_kinds.ps symlink_kinds.r symlink_reads.Post
symlink_determined κs a x y s t p q = answers_once p q

pub symlink_exit_determined : OneExit 3 symlink_kinds.ps symlink_kinds.r symlink_reads.Post (λ κs s. s.0.now)
symlink_exit_determined κs a x y s t p q = words_once p q

pub link_determined : OneResult 3 link_kinds.ps link_kinds.r link_reads.Post
link_determined κs a x y s t p q = answers_once p q

pub link_exit_determined : OneExit 3 link_kinds.ps link_kinds.r link_reads.Post (λ κs s. s.0.now)
link_exit_determined κs a x y s t p q = words_once p q
