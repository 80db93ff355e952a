-- A record served over lent words, and a run of records: document 01, 'Numbers given back' as a whole. Assumes nothing.
use Rattle.std.specs.Prelude.{true, false, not, List, [], ◌∷◌, ◌++◌, map, ℕ, zero, suc, eqb, length, take, drop}
use Rattle.model.specs.Lists.{empty, joined, computing_lists}
use Rattle.model.specs.Refusals.{Outcome, refused, granted, ◌when◌, ◌>>◌, ◌>>=◌, computing_refusals}
use Rattle.model.specs.Answers.{answer_slot, computing_answers}
use Rattle.model.specs.Paths.{computing_paths}
use Rattle.model.specs.Tables.{Tables, fresh, computing_tables}
use Rattle.model.specs.Words.{word_count, pack, unpack, computing_words}
use Rattle.model.specs.Sound.{sound_with, computing_sound}
use Rattle.model.specs.Records.{fields, short, taken, well_formed, computing_records}
use Rattle.model.specs.Walk.{computing_walk}
use Rattle.model.specs.Holds.{computing_holds}
use Rattle.model.specs.Calls.{Change, step, computing_calls}
use Rattle.model.specs.declared.Answer.{Answer}
use Rattle.model.specs.declared.Answer.TheVariants.{Refused}

-- Numbers given back: what serving gives, the answer, the bytes taken, and the words afterwards
pub record Served : Type 0 where
  pub answer : Answer
  pub taken : ℕ
  pub words : List ℕ

-- Numbers given back, from the top: 17, then 1, then 2 and 3, then the call's own tests; t is what the words w hold
unfoldable pub judged_with : List ℕ → Tables → List ℕ → Outcome Change
judged_with w t s = do
  17 when short s
  1 when not (sound_with w t)
  r ← well_formed (fields s)
  step t r

-- Numbers given back, over words
unfoldable pub judged : List ℕ → List ℕ → Outcome Change
judged w s = judged_with w (unpack w) s

-- Numbers given back: a refusal changes no word
unfoldable pub served : List ℕ → ℕ → Outcome Change → Served
served w n (refused k) = record { answer = Refused k; taken = n; words = w }
served w n (granted c) = record { answer = c.answer; taken = n; words = pack c.tables }

-- Numbers given back, for one record (and what stands behind it) served over words
unfoldable pub serve : List ℕ → List ℕ → Served
serve w s = served w (taken s) (judged w s)

-- A RUN OF RECORDS

-- the words after these records
unfoldable pub after : List ℕ → List (List ℕ) → List ℕ
after w [] = w
after w (s ∷ rest) = after (serve w s).words rest

-- what each of them was answered
unfoldable pub answers : List ℕ → List (List ℕ) → List Answer
answers w [] = []
answers w (s ∷ rest) = let o = serve w s in o.answer ∷ answers o.words rest

-- The lent tables: the words of fresh ones
unfoldable pub fresh_words : List ℕ
fresh_words = pack fresh

-- Numbers given back, 1, for making lent tables fresh: a slice of another length is refused
unfoldable pub made_fresh : List ℕ → Outcome (List ℕ)
made_fresh w = do
  1 when not (eqb (length w) word_count)
  granted fresh_words

-- The listing: the records that bytes are, one after the other; what is too short for a record is the last. Each has a byte or more, so
-- there are at most as many as bytes.
unfoldable pub records_within : ℕ → List ℕ → List (List ℕ)
records_within zero s = []
records_within (suc most) s =
    elim (empty s) [
      | true ↦ []
      | false ↦ elim (short s) [ true ↦ s ∷ [] | false ↦ take (taken s) s ∷ records_within most (drop (taken s) s) ]
    ]

unfoldable pub records : List ℕ → List (List ℕ)
records s = records_within (length s) s

-- A RUN OVER LENT SLOTS FOR ANSWERS

-- the whole records at the front of bytes, so many at the most; what is too short for a record is left
unfoldable pub whole_records : ℕ → List ℕ → List (List ℕ)
whole_records zero s = []
whole_records (suc most) s = elim (short s) [ true ↦ [] | false ↦ take (taken s) s ∷ whole_records most (drop (taken s) s) ]

-- what a run gives: how many records it served, how many bytes they are, the words afterwards, and the slots
pub record Ran : Type 0 where
  pub served : ℕ
  pub taken : ℕ
  pub words : List ℕ
  pub slots : List ℕ

-- as many records are served as are whole and have a slot: each slot in front gets its record's answer, those behind stay
unfoldable pub run : List ℕ → List ℕ → List ℕ → Ran
run w s slots =
    let these = whole_records (length slots) s in
    record {
      served = length these;
      taken = length (joined (λ r. r) these);
      words = after w these;
      slots = map answer_slot (answers w these) ++ drop (length these) slots;
    }

-- A handle: `unfolding computing` opens the whole model up to here.
unfoldable pub computing : Unit {0}
unfolding computing_lists computing_refusals computing_answers computing_paths computing_tables computing_words computing_sound computing_records
    computing_walk computing_holds computing_calls judged_with judged served serve after answers fresh_words made_fresh records_within records
    whole_records run
computing = tt
