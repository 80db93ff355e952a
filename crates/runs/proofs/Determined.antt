-- The contract of `serve_run` is the model's run, and each public function's leaves one result and one content of every word and of every slot.
-- Assumes nothing.
use mathlib.Core.Path.{sym, ap, ◌∙◌}
use Rattle.model.specs.Serve.{Ran}
use Rattle.laws.proofs.Results.{OneResult, OneExit}
use Rattle.runs.proofs.serve_tested.Kinds as tested_kinds
use Rattle.runs.proofs.serve_tested.Reads as tested_reads
use Rattle.runs.proofs.told.Kinds as told_kinds
use Rattle.runs.proofs.told.Reads as told_reads
use Rattle.runs.proofs.told_answer.Kinds as told_answer_kinds
use Rattle.runs.proofs.told_answer.Reads as told_answer_reads
use Rattle.runs.proofs.serve_run.Kinds as run_kinds
use Rattle.runs.proofs.serve_run.Reads as run_reads

pub run_determined : OneResult 3 run_kinds.ps run_kinds.r run_reads.Post
run_determined κs a x y s t p q = ap (λ (o : Ran). record { served = o.served; taken = o.taken }) (p ∙ sym q)

-- the words are the first parameter, the slots the third
pub run_words_determined : OneExit 3 run_kinds.ps run_kinds.r run_reads.Post (λ κs s. s.0.now)
run_words_determined κs a x y s t p q = ap (λ (o : Ran). o.words) (p ∙ sym q)

pub run_slots_determined : OneExit 3 run_kinds.ps run_kinds.r run_reads.Post (λ κs s. s.1.1.0.now)
run_slots_determined κs a x y s t p q = ap (λ (o : Ran). o.slots) (p ∙ sym q)

pub told_determined : OneResult 0 told_kinds.ps told_kinds.r told_reads.Post
told_determined κs a x y s t p q = p ∙ sym q

pub told_answer_determined : OneResult 0 told_answer_kinds.ps told_answer_kinds.r told_answer_reads.Post
told_answer_determined κs a x y s t p q = p ∙ sym q

-- the index at exit is one of those that fit the words, so it is not fixed
pub tested_determined : OneResult 3 tested_kinds.ps tested_kinds.r tested_reads.Post
tested_determined κs a x y s t p q = p.0.verdict ∙ sym q.0.verdict

pub tested_words_determined : OneExit 3 tested_kinds.ps tested_kinds.r tested_reads.Post (λ κs s. s.0.now)
tested_words_determined κs a x y s t p q = p.0.words ∙ sym q.0.words
