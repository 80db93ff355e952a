-- Demands 1 to 3 for what the code does: `Serves` is what `serve` promises, so the theorems over the model's serve speak of it. Bytes are
-- numbers below 256. Assumes nothing.
use mathlib.Core.Path.{◌≡◌, refl, sym, ap, subst, ◌∙◌}
use mathlib.Core.Bool.{true}
use mathlib.Core.Logic.{◌≢◌, ◌⊎◌}
use mathlib.Core.List.{List, [], ◌∷◌}
use Prim.Native.Nat.{ℕ, ◌+◌}
use Rattle.std.specs.Prelude.{Result, Err}
use Rattle.model.specs.Refusals.{Outcome, refused, granted}
use Rattle.model.specs.Tables.{user_of}
use Rattle.model.specs.Words.{unpack}
use Rattle.model.specs.Records.{Call, fields, packing, packed}
use Rattle.model.specs.Sound.{sound}
use Rattle.model.specs.Serve.{Served, serve, after, answers, fresh_words}
use Rattle.model.specs.declared.Answer.{Answer}
use Rattle.model.specs.declared.Answer.TheVariants.{Held, Refused}
use Rattle.model.specs.declared.Verdict.{Verdict}
use Rattle.laws.proofs.Each.{Each}
use Rattle.laws.proofs.Pieces.{Byte}
use Rattle.invariants.proofs.Accounting.{used_entries, is_creation, is_removal}
use Rattle.invariants.proofs.Kept as kept
use Rattle.invariants.proofs.Kept.{accepted_calls}
use Rattle.records.specs.Packing.{answered, Packs}
use Rattle.guard.proofs.Demand3.{check_call, use_call, Asks, AllByAnotherUser, Order, others_first, last_first, Undisturbed}
use Rattle.guard.proofs.Guard.{demand_3}
use Rattle.guard.proofs.WrongServices.{Service, Promised}
use Rattle.service.specs.Serves.{verdict_of, Serves}

-- ONE RECORD

module _ {w s v : List ℕ} {r : Verdict} (serves : Serves w s r v) where
  pub answer_is : r.answer ≡ (serve w s).answer
  unfolding verdict_of
  answer_is = ap (λ (x : Verdict). x.answer) serves.verdict

  -- Demand 1: a refusal changes no word, whatever the words and bytes are.
  pub refused_leaves_words : {n : ℕ} → r.answer ≡ Refused n → v ≡ w
  refused_leaves_words {n} e = serves.words ∙ kept.refused_changes_nothing w s n (sym answer_is ∙ e)

  -- Demand 1: sound tables stay sound, and are never refused as unsound.
  pub sound_stays : Each Byte s → sound w ≡ true → sound v ≡ true
  sound_stays bytes before = rw serves.words (kept.sound_kept w s bytes before)

  pub sound_not_refused : sound w ≡ true → r.answer ≢ Refused 1
  sound_not_refused before e = kept.sound_never_unsound w s before (sym answer_is ∙ e)

  -- Demand 2: the bytes taken are the model's too.
  pub taken_is : r.taken ≡ (serve w s).taken
  unfolding verdict_of
  taken_is = ap (λ (x : Verdict). x.taken) serves.verdict

-- Demand 1: a refused packing writes nothing.
pub refused_pack_writes_nothing : {c : Call} {before after : List ℕ} {r : Result ℕ ℕ} {n : ℕ} → Packs c before r after → r ≡ Err n
    → after ≡ before
unfolding answered packed
refused_pack_writes_nothing {c = c} {before = before} {n = n} packs e = packs.bytes ∙ go (packing c before) (sym packs.answer ∙ e)
  where
    go : (o : Outcome ℕ) → answered o ≡ Err n → packed c before o ≡ before
    go (refused m) f = refl
    go (granted m) f = cc

-- ANY SERVICE

-- What `serve` promises, for all words and bytes, is the promise that the wrong services break (guard, WrongServices): who meets the one
-- meets the other.
pub serves_promised : (service : Service) → ((w s : List ℕ) → Serves w s (verdict_of (service w s)) (service w s).words)
    → Promised service
unfolding verdict_of
serves_promised service serves w s =
    let verdict = (serves w s).verdict in
    let words = (serves w s).words in
    λ i. record { answer = (verdict i).answer; taken = (verdict i).taken; words = words i }

pub promised_serves : (service : Service) → Promised service → (w s : List ℕ) → Serves w s (verdict_of (service w s)) (service w s).words
promised_serves service promised w s =
    record { verdict = ap verdict_of (promised w s); words = ap (λ (x : Served). x.words) (promised w s) }

-- RECORDS ONE AFTER THE OTHER

-- the code serves these records over the words w, gives these answers, and leaves the words v
pub data Run : List ℕ → List (List ℕ) → List Answer → List ℕ → Type 0 where
  done : {w : List ℕ} → Run w [] [] w
  next : {w s u v : List ℕ} {rest : List (List ℕ)} {r : Verdict} {given : List Answer} → Serves w s r u → Run u rest given v
      → Run w (s ∷ rest) (r.answer ∷ given) v

-- Demand 2: a run's answers and words are the model's.
pub run_words : {w v : List ℕ} {records : List (List ℕ)} {given : List Answer} → Run w records given v → v ≡ after w records
unfolding after
run_words done = refl
run_words (next {s = s} {rest = rest} serves run) = run_words run ∙ ap (λ (x : List ℕ). after x rest) serves.words

pub run_answers : {w v : List ℕ} {records : List (List ℕ)} {given : List Answer} → Run w records given v → given ≡ answers w records
unfolding answers
run_answers done = refl
run_answers (next {w = w} {s = s} {rest = rest} serves run) =
    let first = answer_is serves in
    let others = run_answers run ∙ ap (λ (x : List ℕ). answers x rest) serves.words in
    λ i. first i ∷ others i

-- Demand 1: whatever records are served since fresh tables, the tables are sound.
pub run_sound : {v : List ℕ} {records : List (List ℕ)} {given : List Answer} → Each (Each Byte) records → Run fresh_words records given v → sound v ≡ true
run_sound {records = records} bytes run = rw (run_words run) (kept.sound_since_fresh records bytes)

-- The used entry rows are the accepted creations less the accepted removals.
pub run_accounts : {v : List ℕ} {records : List (List ℕ)} {given : List Answer} → Each (Each Byte) records → Run fresh_words records given v
    → used_entries (unpack v) + accepted_calls is_removal records given ≡ accepted_calls is_creation records given
run_accounts {records = records} bytes run = rw (run_words run, run_answers run) (kept.entries_since_fresh records bytes)

-- DEMAND 3

-- the others' records and then the last call, as the code serves them
abbrev pub late_order : (found left : List ℕ) → Verdict → List Answer → Order
late_order found left last_verdict other_answers =
    record { words_found = found; words_left = left; last_answer = last_verdict.answer; other_answers = other_answers; final_words = left }

-- the last call directly, and then the others' records
abbrev pub direct_order : (found left : List ℕ) → Verdict → List Answer → List ℕ → Order
direct_order found left last_verdict other_answers final =
    record { words_found = found; words_left = left; last_answer = last_verdict.answer; other_answers = other_answers; final_words = final }

late_is : {checked found left last : List ℕ} {others : List (List ℕ)} {other_answers : List Answer} {last_verdict : Verdict}
    → Run checked others other_answers found → Serves found last last_verdict left
    → late_order found left last_verdict other_answers ≡ others_first checked others last
late_is {last = last} run serves =
    let found_is = run_words run in
    let left_is = serves.words ∙ ap (λ (w : List ℕ). (serve w last).words) found_is in
    let answer_so = answer_is serves ∙ ap (λ (w : List ℕ). (serve w last).answer) found_is in
    let others_so = run_answers run in
    λ i. record {
      words_found = found_is i;
      words_left = left_is i;
      last_answer = answer_so i;
      other_answers = others_so i;
      final_words = left_is i;
    }

direct_is : {checked left final last : List ℕ} {others : List (List ℕ)} {other_answers : List Answer} {last_verdict : Verdict}
    → Serves checked last last_verdict left → Run left others other_answers final
    → direct_order checked left last_verdict other_answers final ≡ last_first checked others last
direct_is {checked = checked} {others = others} serves run =
    let left_is = serves.words in
    let answer_so = answer_is serves in
    let others_so = run_answers run ∙ ap (λ (w : List ℕ). answers w others) left_is in
    let final_is = run_words run ∙ ap (λ (w : List ℕ). after w others) left_is in
    λ i. record {
      words_found = checked;
      words_left = left_is i;
      last_answer = answer_so i;
      other_answers = others_so i;
      final_words = final_is i;
    }

same_orders : {path : List ℕ} {call node : ℕ} {late direct model_late model_direct : Order} → late ≡ model_late → direct ≡ model_direct
    → Undisturbed path call node model_late model_direct → Undisturbed path call node late direct
same_orders late_so direct_so undisturbed = rw (late_so, direct_so) undisturbed

-- Since fresh tables process p of user U checked a path and was told that it holds it, with a node or an absence; then other users' records
-- were served, none of them root's; then p checks or uses that path: it finds what it was told, and all is as if it had done so before them.
pub served_demand_3 : (before : List (List ℕ)) → Each (Each Byte) before → {given : List Answer} {start : List ℕ}
    → Run fresh_words before given start
    → (p U node : ℕ) (path first : List ℕ) → Each Byte first → Asks check_call p path first → user_of (unpack start).processes p ≡ U
    → {first_verdict : Verdict} {checked : List ℕ} → Serves start first first_verdict checked → first_verdict.answer ≡ Held node
    → (others : List (List ℕ)) → Each (Each Byte) others → AllByAnotherUser U checked others
    → (last : List ℕ) → Asks check_call p path last ⊎ Asks use_call p path last
    -- the others first
    → {late_answers : List Answer} {late_found : List ℕ} → Run checked others late_answers late_found
    → {late_verdict : Verdict} {late_left : List ℕ} → Serves late_found last late_verdict late_left
    -- the last call first
    → {direct_verdict : Verdict} {direct_left : List ℕ} → Serves checked last direct_verdict direct_left
    → {direct_answers : List Answer} {direct_final : List ℕ} → Run direct_left others direct_answers direct_final
    → Undisturbed path (fields last).call node
    (late_order late_found late_left late_verdict late_answers)
    (direct_order checked direct_left direct_verdict direct_answers direct_final)
served_demand_3 before before_bytes {start = start} run_before p U node path first first_bytes asks user {checked = checked} first_serves told
    others others_bytes by last asks_again run_late last_late last_direct run_direct =
    let start_is : start ≡ after fresh_words before = run_words run_before in
    let checked_is : checked ≡ (serve (after fresh_words before) first).words
    = first_serves.words ∙ ap (λ (w : List ℕ). (serve w first).words) start_is in
    let user_is : user_of (unpack (after fresh_words before)).processes p ≡ U = rw start_is at user in
    let told_is : (serve (after fresh_words before) first).answer ≡ Held node
    = sym (ap (λ (w : List ℕ). (serve w first).answer) start_is) ∙ sym (answer_is first_serves) ∙ told in
    let by_is = subst (λ (w : List ℕ). AllByAnotherUser U w others) checked_is by in
    let model = demand_3 before before_bytes p U node path first first_bytes asks user_is told_is others others_bytes by_is last asks_again in
    let from_checked =
    subst (λ (w : List ℕ). Undisturbed path (fields last).call node (others_first w others last) (last_first w others last))
    (sym checked_is) model in
    same_orders (late_is run_late last_late) (direct_is last_direct run_direct) from_checked
