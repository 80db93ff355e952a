-- What the model's run does to words: those that are not sound tables stay, and every record is told 1; sound ones stay sound. Assumes nothing.
use mathlib.Core.Path.{◌≡◌, refl, sym, ap, ◌∙◌}
use mathlib.Core.Bool.{Bool, true, false}
use mathlib.Core.List.{List, [], ◌∷◌}
use Prim.Native.Nat.{ℕ, zero, suc}
use lib.ListN.{length, take, drop, replicate}
use Rattle.model.specs.Refusals.{◌>>◌}
use Rattle.model.specs.Sound.{sound}
use Rattle.model.specs.Records.{short, taken}
use Rattle.model.specs.Serve.{Served, judged_with, judged, served, serve, after, answers, whole_records, run}
use Rattle.model.specs.declared.Answer.{Answer}
use Rattle.model.specs.declared.Answer.TheVariants.{Refused}
use Rattle.laws.proofs.Each.{Each, none, one, each_take, each_drop}
use Rattle.laws.proofs.Pieces.{Byte}
use Rattle.invariants.proofs.Kept.{run_keeps_sound}
use Rattle.invariants.proofs.Records.{front, whole}
use Rattle.runs.proofs.Onward.{no_more, one_more}

-- THE RECORDS OF A RUN

-- what holds of a whole record cut off the front of bytes, where it goes on behind it, holds of all
module _ (P Q : List ℕ → Type 0) (cut : (s : List ℕ) → Q s → short s ≡ false → P (take (taken s) s)) (behind : (n : ℕ) (s : List ℕ) → Q s → Q (drop n s)) where
  each_record : (n : ℕ) (s : List ℕ) → Q s → Each P (whole_records n s)
  unfolding whole_records
  each_record zero s q = none
  each_record (suc n) s q = go (short s) refl (each_record n (drop (taken s) s) (behind (taken s) s q))
    where
      go : (b : Bool) → short s ≡ b → Each P (whole_records n (drop (taken s) s)) → Each P (whole_records (suc n) s)
      go true e rest = rw (no_more (suc n) s e) none
      go false e rest = rw (one_more n s e) (one (cut s q e) rest)

WholeRecord : List ℕ → Type 0
WholeRecord r = short r ≡ false

records_whole : (n : ℕ) (s : List ℕ) → Each WholeRecord (whole_records n s)
unfolding WholeRecord
records_whole n s = each_record WholeRecord (λ _. Unit {0}) (λ s _ e. sym (front s (whole s e)).same_short ∙ e) (λ _ _ _. tt) n s tt

records_bytes : (n : ℕ) {s : List ℕ} → Each Byte s → Each (Each Byte) (whole_records n s)
records_bytes n {s} bytes = each_record (Each Byte) (Each Byte) (λ s b _. each_take (taken s) b) (λ n s b. each_drop n b) n s bytes

-- WORDS THAT ARE NOT SOUND TABLES

module _ (w : List ℕ) (wrong : sound w ≡ false) where
  serve_unsound : (r : List ℕ) → short r ≡ false → serve w r ≡ record { answer = Refused 1; taken = taken r; words = w }
  unfolding serve judged judged_with served sound ◌>>◌
  serve_unsound r e = rw (e, wrong)

  unsound_words : (rs : List (List ℕ)) → Each WholeRecord rs → after w rs ≡ w
  unfolding after WholeRecord
  unsound_words [] none = refl
  unsound_words (r ∷ rs) (one e es) = ap (λ (o : Served). after o.words rs) (serve_unsound r e) ∙ unsound_words rs es

  unsound_answers : (rs : List (List ℕ)) → Each WholeRecord rs → answers w rs ≡ replicate (length rs) (Refused 1)
  unfolding answers WholeRecord
  unsound_answers [] none = refl
  unsound_answers (r ∷ rs) (one e es) =
      ap (λ (o : Served). o.answer ∷ answers o.words rs) (serve_unsound r e) ∙ ap (λ (l : List Answer). Refused 1 ∷ l) (unsound_answers rs es)

  pub unsound_run_words : (s slots : List ℕ) → (run w s slots).words ≡ w
  unfolding run
  unsound_run_words s slots = unsound_words (whole_records (length slots) s) (records_whole (length slots) s)

  pub unsound_run_answers : (n : ℕ) (s : List ℕ) → answers w (whole_records n s) ≡ replicate (length (whole_records n s)) (Refused 1)
  unsound_run_answers n s = unsound_answers (whole_records n s) (records_whole n s)

-- SOUND TABLES

pub sound_run : (w s slots : List ℕ) → Each Byte s → sound w ≡ true → sound (run w s slots).words ≡ true
unfolding run
sound_run w s slots bytes before = run_keeps_sound w (whole_records (length slots) s) (records_bytes (length slots) bytes) before
