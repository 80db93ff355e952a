-- A record judged, as the verdict that serving gives; and the bytes that serving takes. Assumes nothing.
use mathlib.Core.Path.{◌≡◌, refl, sym, ap, ◌∙◌}
use mathlib.Core.List.{List}
use Prim.Native.Nat.{ℕ}
use Rattle.model.specs.Refusals.{Outcome, refused, granted}
use Rattle.model.specs.Calls.{Change}
use Rattle.model.specs.Records.{taken}
use Rattle.model.specs.Serve.{Served, judged, served, serve}
use Rattle.model.specs.declared.Answer.{Answer}
use Rattle.rows.specs.Meets.{Meets}
use Rattle.rows.proofs.Meeting.{served_is}
use Rattle.service.specs.Serves.{verdict_of, Serves}

pub serves_by : {w s v : List ℕ} {a : Answer} {n : ℕ} → Meets w (judged w s) a v → n ≡ taken s → Serves w s (record { answer = a; taken = n }) v
unfolding serve verdict_of
serves_by {w} {s} {v} {a} {n} m e =
    let is = served_is w (taken s) (judged w s) in
    record {
      verdict = (λ i. record { answer = m.answer i; taken = e i }) ∙ sym (ap verdict_of is);
      words = m.words ∙ sym (ap (λ (o : Served). o.words) is);
    }

served_takes : (w : List ℕ) (n : ℕ) (o : Outcome Change) → (served w n o).taken ≡ n
unfolding served
served_takes w n (refused k) = refl
served_takes w n (granted c) = refl

-- whatever the tables are, serving takes the record
pub serve_takes : (w s : List ℕ) → (serve w s).taken ≡ taken s
unfolding serve
serve_takes w s = served_takes w (taken s) (judged w s)
