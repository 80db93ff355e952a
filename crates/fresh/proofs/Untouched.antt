-- Demand 1 for making words fresh: a refusal writes nothing. Assumes nothing.
use mathlib.Core.Path.{◌≡◌, refl, sym, ◌∙◌}
use mathlib.Core.List.{List}
use Prim.Native.Nat.{ℕ}
use Rattle.model.specs.Refusals.{Outcome, refused, granted}
use Rattle.std.specs.Prelude.{Result, Err, ⊤}
use Rattle.fresh.specs.Prepared.{answer_of, words_after, Prepares}

pub refused_fresh_writes_nothing : {w v : List ℕ} {o : Outcome (List ℕ)} {r : Result ⊤ ℕ} {n : ℕ} → Prepares w o r v → r ≡ Err n → v ≡ w
refused_fresh_writes_nothing {w = w} {o = o} {n = n} prepares e = prepares.words ∙ go o (sym prepares.answer ∙ e)
  where
    go : (o : Outcome (List ℕ)) → answer_of o ≡ Err n → words_after w o ≡ w
    go (refused m) f = refl
    go (granted v) f = cc
