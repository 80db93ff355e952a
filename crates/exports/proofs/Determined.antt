-- Each exported function's contract leaves one result and one content of what it may write. Assumes nothing.
use mathlib.Core.Path.{sym, ◌∙◌}
use Rattle.laws.proofs.Results.{OneResult, OneExit}
use Rattle.exports.proofs.tickbutton_fresh.Kinds as fresh_kinds
use Rattle.exports.proofs.tickbutton_fresh.Reads as fresh_reads
use Rattle.exports.proofs.tickbutton_serve.Kinds as serve_kinds
use Rattle.exports.proofs.tickbutton_serve.Reads as serve_reads
use Rattle.exports.proofs.tickbutton_read.Kinds as read_kinds
use Rattle.exports.proofs.tickbutton_read.Reads as read_reads
use Rattle.exports.proofs.tickbutton_pack.Kinds as pack_kinds
use Rattle.exports.proofs.tickbutton_pack.Reads as pack_reads
use Rattle.exports.proofs.tickbutton_sound.Kinds as sound_kinds
use Rattle.exports.proofs.tickbutton_sound.Reads as sound_reads
use Rattle.exports.proofs.tickbutton_serve_run.Kinds as run_kinds
use Rattle.exports.proofs.tickbutton_serve_run.Reads as run_reads
use Rattle.exports.proofs.tickbutton_walk.Kinds as walk_kinds
use Rattle.exports.proofs.tickbutton_walk.Reads as walk_reads

pub read_determined : OneResult 2 read_kinds.ps read_kinds.r read_reads.Post
read_determined κs a x y s t p q = p.answer ∙ sym q.answer

-- the fields are the second parameter
pub read_fields_determined : OneExit 2 read_kinds.ps read_kinds.r read_reads.Post (λ κs s. s.1.0.now)
read_fields_determined κs a x y s t p q = p.numbers ∙ sym q.numbers

pub pack_determined : OneResult 3 pack_kinds.ps pack_kinds.r pack_reads.Post
pack_determined κs a x y s t p q = p.answer ∙ sym q.answer

-- the destination is the sixth parameter
pub pack_destination_determined : OneExit 3 pack_kinds.ps pack_kinds.r pack_reads.Post (λ κs s. s.1.1.1.1.1.0.now)
pack_destination_determined κs a x y s t p q = p.bytes ∙ sym q.bytes

pub fresh_determined : OneResult 1 fresh_kinds.ps fresh_kinds.r fresh_reads.Post
fresh_determined κs a x y s t p q = p.answer ∙ sym q.answer

-- the words are the first parameter
pub fresh_words_determined : OneExit 1 fresh_kinds.ps fresh_kinds.r fresh_reads.Post (λ κs s. s.0.now)
fresh_words_determined κs a x y s t p q = p.words ∙ sym q.words

pub serve_determined : OneResult 2 serve_kinds.ps serve_kinds.r serve_reads.Post
serve_determined κs a x y s t p q = p.answer ∙ sym q.answer

pub serve_words_determined : OneExit 2 serve_kinds.ps serve_kinds.r serve_reads.Post (λ κs s. s.0.now)
serve_words_determined κs a x y s t p q = p.words ∙ sym q.words

pub sound_determined : OneResult 1 sound_kinds.ps sound_kinds.r sound_reads.Post
sound_determined κs a x y s t p q = p ∙ sym q

pub walk_determined : OneResult 3 walk_kinds.ps walk_kinds.r walk_reads.Post
walk_determined κs a x y s t p q = p.answer ∙ sym q.answer

-- the goal is the fourth parameter
pub walk_goal_determined : OneExit 3 walk_kinds.ps walk_kinds.r walk_reads.Post (λ κs s. s.1.1.1.0.now)
walk_goal_determined κs a x y s t p q = p.numbers ∙ sym q.numbers

pub run_determined : OneResult 4 run_kinds.ps run_kinds.r run_reads.Post
run_determined κs a x y s t p q = p.served ∙ sym q.served

-- the words are the first parameter, the slots the third, the bytes taken the fourth
pub run_words_determined : OneExit 4 run_kinds.ps run_kinds.r run_reads.Post (λ κs s. s.0.now)
run_words_determined κs a x y s t p q = p.words ∙ sym q.words

pub run_slots_determined : OneExit 4 run_kinds.ps run_kinds.r run_reads.Post (λ κs s. s.1.1.0.now)
run_slots_determined κs a x y s t p q = p.slots ∙ sym q.slots

pub run_taken_determined : OneExit 4 run_kinds.ps run_kinds.r run_reads.Post (λ κs s. s.1.1.1.0.now)
run_taken_determined κs a x y s t p q = p.taken ∙ sym q.taken
