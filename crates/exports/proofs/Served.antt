-- What serving and making fresh answer, as the numbers that are told. Assumes nothing.
use mathlib.Core.Path.{◌≡◌, refl, ap, ◌∙◌}
use mathlib.Core.List.{List}
use Prim.Native.Nat.{ℕ, ◌<◌}
use Rattle.model.specs.Refusals.{Outcome, refused, granted}
use Rattle.model.specs.Answers.{number_of}
use Rattle.model.specs.Records.{taken}
use Rattle.model.specs.Serve.{serve, made_fresh}
use Rattle.model.specs.declared.Verdict.{Verdict}
use Rattle.fresh.specs.Prepared.{Prepares, answer_of}
use Rattle.std.proofs.Common.{Ok, Err}
use Rattle.service.specs.Serves.{Serves, verdict_of}
use Rattle.service.proofs.Demands.{taken_is}
use Rattle.service.proofs.Verdicts.{serve_takes}
use Rattle.exports.specs.Numbers.{answer_number, word_number, fresh_number, served_number}
use Rattle.exports.proofs.Bounds.{taken_small}

-- SERVING

module _ {w s v : List ℕ} {r : Verdict} (serves : Serves w s r v) where
  pub few_taken : r.taken < 65536
  few_taken = let is : r.taken ≡ taken s = taken_is serves ∙ serve_takes w s in rw is (taken_small s)

  pub answer_told : answer_number (word_number r.answer) (number_of r.answer) r.taken ≡ served_number (serve w s)
  unfolding verdict_of served_number
  answer_told = ap (λ (x : Verdict). answer_number (word_number x.answer) (number_of x.answer) x.taken) serves.verdict

-- FRESH TABLES

pub ready_told : (w v : List ℕ) → Prepares w (made_fresh w) (Ok tt) v → answer_number 2 0 0 ≡ fresh_number (made_fresh w)
unfolding fresh_number
ready_told w v h = go (made_fresh w) h.answer
  where
    go : (o : Outcome (List ℕ)) → Ok tt ≡ answer_of o → answer_number 2 0 0 ≡ fresh_number o
    go (refused n) e = cc
    go (granted x) e = refl

pub refusal_told : (w v : List ℕ) (n : ℕ) → Prepares w (made_fresh w) (Err n) v
    → answer_number 3 n 0 ≡ fresh_number (made_fresh w)
unfolding fresh_number
refusal_told w v n h = go (made_fresh w) h.answer
  where
    go : (o : Outcome (List ℕ)) → Err n ≡ answer_of o → answer_number 3 n 0 ≡ fresh_number o
    go (refused k) e = let is : n ≡ k = cc in rw is
    go (granted x) e = cc
