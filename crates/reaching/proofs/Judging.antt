-- A record judged: too few bytes, then the tables, then what reading found, then the call. Assumes nothing.
use mathlib.Core.Path.{◌≡◌, refl, sym, ap, ◌∙◌}
use mathlib.Core.Bool.{Bool, true, false, not}
use mathlib.Core.List.{List}
use Prim.Native.Nat.{ℕ}
use Rattle.model.specs.Refusals.{Outcome, refused, granted, ◌when◌, ◌>>◌, ◌>>=◌}
use Rattle.model.specs.Sound.{sound}
use Rattle.model.specs.Records.{Call, fields_broken, paths_broken, well_formed, fields, short, taken, read}
use Rattle.model.specs.Words.{unpack}
use Rattle.model.specs.Calls.{step}
use Rattle.model.specs.Serve.{judged_with, judged}
use Rattle.model.specs.declared.Answer.{Answer}
use Rattle.model.specs.declared.Answer.TheVariants as answers
use Rattle.laws.proofs.Bools.{not_false}
use Rattle.std.specs.Prelude.{Ok, Err}
use Rattle.records.specs.declared.Accepted.{Accepted}
use Rattle.records.specs.declared.Rejected.{Rejected}
use Rattle.records.specs.Reading.{Reading, cut_short, answered, reading, outcome_of}
use Rattle.records.proofs.ThereAndBack.{reading_means}
use Rattle.rows.specs.Meets.{answer_of, words_of, Meets}
use Rattle.rows.proofs.Meeting.{refuses, passes, meets_as}
use Rattle.reaching.specs.Ready.{call_in}

-- READING

-- only a record that ends too soon is refused with 17
whole_found : (n : ℕ) (r : Call) → cut_short (answered n (well_formed r)) ≡ false
unfolding cut_short answered well_formed ◌>>◌
whole_found n r = go (fields_broken r) (paths_broken r)
  where
    go : (a b : Bool) → cut_short (answered n ((2 when a) >> ((3 when b) >> granted r))) ≡ false
    go true b = refl
    go false true = refl
    go false false = refl

pub short_found : (s : List ℕ) → cut_short (reading s) ≡ short s
unfolding reading read cut_short answered ◌>>◌
short_found s = go (short s)
  where
    go : (b : Bool) → cut_short (answered (taken s) ((17 when b) >> well_formed (fields s))) ≡ b
    go true = refl
    go false = whole_found (taken s) (fields s)

-- THE TESTS

module _ (w s : List ℕ) (found : Reading) (is : found ≡ reading s) {b : Bool} (cut : b ≡ cut_short found) where
  short_is : b ≡ short s
  short_is = cut ∙ ap cut_short is ∙ short_found s

  pub judged_short : b ≡ true → Meets w (judged w s) (answers.Refused 17) w
  unfolding judged judged_with
  judged_short h = refuses 17 _ _ short_is h

  module _ (whole : b ≡ false) {sounds : Bool} (tested : sounds ≡ sound w) where
    pub judged_unsound : not sounds ≡ true → Meets w (judged w s) (answers.Refused 1) w
    unfolding judged judged_with sound
    judged_unsound h = passes 17 _ _ short_is whole (refuses 1 _ _ (ap not tested) h)

    module _ (right : not sounds ≡ false) where
      -- what reading found decides
      reads : (o : Outcome Call) → outcome_of s found ≡ o → well_formed (fields s) ≡ o
      unfolding read ◌>>◌
      reads o e = let k : short s ≡ false = sym short_is ∙ whole in
          let r : read s ≡ o = sym (reading_means s) ∙ ap (outcome_of s) (sym is) ∙ e in
          rw k at r

      goes_on : (o : Outcome Call) → outcome_of s found ≡ o → judged w s ≡ (o >>= step (unpack w))
      unfolding judged judged_with sound ◌>>◌
      goes_on o e = let k : short s ≡ false = sym short_is ∙ whole in
          let t : sound w ≡ true = sym tested ∙ not_false sounds right in
          rw (k, t, reads o e)

      pub judged_broken : {e : Rejected} → found ≡ Err e → Meets w (judged w s) (answers.Refused e.number) w
      unfolding outcome_of ◌>>=◌ answer_of words_of
      judged_broken {e} is_e = meets_as (goes_on (refused e.number) (ap (outcome_of s) is_e)) (record { answer = refl; words = refl })

      pub judged_step : {a : Accepted} → found ≡ Ok a → judged w s ≡ step (unpack w) (call_in s a.fields)
      unfolding outcome_of ◌>>=◌
      judged_step {a} e = goes_on (granted (call_in s a.fields)) (ap (outcome_of s) e)

      pub judged_call : {accepted : Accepted} {a : Answer} {v : List ℕ} → found ≡ Ok accepted
          → Meets w (step (unpack w) (call_in s accepted.fields)) a v → Meets w (judged w s) a v
      judged_call e m = meets_as (judged_step e) m
