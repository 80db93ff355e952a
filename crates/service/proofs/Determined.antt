-- The public function's contract is the model's serve, and leaves one verdict and one content of every word. Assumes nothing.
use mathlib.Core.Path.{sym, ◌∙◌}
use contract.Lifetimes.{Lfts}
use denote.Triple.Clauses.{AtExit}
use borrow.Fn.Kinds.{Dens, res_t, ended_of}
use Rattle.laws.proofs.Results.{OneResult, OneExit}
use Rattle.service.specs.Serves.{Serves}
use Rattle.service.proofs.serve.Kinds as serve_kinds
use Rattle.service.proofs.serve.Reads as serve_reads

-- what the check claims of `serve` is what the demands are proved from
pub serve_serves : (κs : Lfts 2) (a : Dens κs serve_kinds.ps) (x : (res_t serve_kinds.r κs).Denot) (s : AtExit (ended_of 2 serve_kinds.ps serve_kinds.r) κs)
    → serve_reads.Post κs a x s → Serves a.0.now a.1.0.now x s.0.now
serve_serves κs a x s p = p

pub serve_determined : OneResult 2 serve_kinds.ps serve_kinds.r serve_reads.Post
serve_determined κs a x y s t p q = p.verdict ∙ sym q.verdict

-- the words are the first parameter
pub serve_exit_determined : OneExit 2 serve_kinds.ps serve_kinds.r serve_reads.Post (λ κs s. s.0.now)
serve_exit_determined κs a x y s t p q = p.words ∙ sym q.words
