-- What every record keeps, for the words that are lent to the service and for whole runs: the theorems of this crate. Bytes are numbers
-- below 256. Assumes nothing.
use mathlib.Core.Path.{◌≡◌, refl, sym, ap, ◌∙◌}
use mathlib.Core.Bool.{Bool, true, ◌&&◌, true≢false}
use mathlib.Core.Logic.{◌≢◌}
use mathlib.Core.List.{List, [], ◌∷◌}
use Prim.Native.Nat.{ℕ, ◌+◌}
use native.Mathlib.Omega.{arith}
use Rattle.model.specs.Refusals.{granted}
use Rattle.model.specs.Tables.{Tables, fresh}
use Rattle.model.specs.Words.{unpack}
use Rattle.model.specs.Sound.{sound_rows, sound}
use Rattle.model.specs.Records.{Call, fields}
use Rattle.model.specs.Calls.{Change, step}
use Rattle.model.specs.Serve.{serve, after, answers, fresh_words, computing}
use Rattle.model.specs.declared.Answer.{Answer}
use Rattle.model.specs.declared.Answer.TheVariants.{Refused}
use Rattle.laws.proofs.Each.{Each, none, one}
use Rattle.laws.proofs.Pieces.{Byte}
use Rattle.laws.proofs.Rules.{one_if}
use Rattle.invariants.proofs.Soundness.{sound_facts}
use Rattle.laws.proofs.Words.{Fits, packed_sound, unpack_pack}
use Rattle.invariants.proofs.Order.{order_sound, Proper}
use Rattle.invariants.proofs.Steps.{step_keeps, fresh_in_order}
use Rattle.invariants.proofs.Accounting.{used_entries, is_creation, is_removal, Accounts, step_accounts}
use Rattle.invariants.specs.Accepts.{accepts}
use Rattle.invariants.proofs.Served.{Serves, refuses, grants, serves, granted_accepts, words_in_order, accepted_proper, granted_in_order, granted_sound, sound_not_unsound}

-- ROWS

-- A granted call leaves sound rows sound, and rows that fit their words fitting.
pub sound_rows_kept : (t : Tables) (r : Call) (c : Change) → sound_rows t ≡ true → Fits t → Proper r → step t r ≡ granted c →
    (sound_rows c.tables ≡ true) × Fits c.tables
sound_rows_kept t r c before fits proper e =
    let order = step_keeps t (record { sound = sound_facts t before; fits = fits }) r proper c e in
    (order_sound c.tables order, order.fits)

-- ONE RECORD

-- A refused record leaves every word as it was, whatever the words and bytes are.
pub refused_changes_nothing : (w s : List ℕ) (n : ℕ) → (serve w s).answer ≡ Refused n → (serve w s).words ≡ w
unfolding accepts
refused_changes_nothing w s n e = go (serves w s)
  where
    go : Serves w s → (serve w s).words ≡ w
    go (refuses k i answer words) = words
    go (grants c is answer words) =
        absurd (true≢false (sym (granted_accepts w s c is) ∙ ap accepts (sym answer ∙ e)))

-- Sound words stay sound, whatever bytes are served.
pub sound_kept : (w s : List ℕ) → Each Byte s → sound w ≡ true → sound (serve w s).words ≡ true
sound_kept w s bytes before = go (serves w s)
  where
    go : Serves w s → sound (serve w s).words ≡ true
    go (refuses k i answer words) = rw words before
    go (grants c is answer words) = rw words (granted_sound w s bytes c is)

-- Sound words are never refused as unsound, which is number 1.
pub sound_never_unsound : (w s : List ℕ) → sound w ≡ true → (serve w s).answer ≢ Refused 1
unfolding accepts
sound_never_unsound w s before e = go (serves w s)
  where
    go : Serves w s → ⊥
    go (refuses k i answer words) =
        let number : k ≡ 1 = cc in
        let never : k ≢ 1 = rw i at (sound_not_unsound w s before) in
        never number
    go (grants c is answer words) = true≢false (sym (granted_accepts w s c is) ∙ ap accepts (sym answer ∙ e))

-- RUNS OF RECORDS

-- Sound words stay sound through any run of records.
pub run_keeps_sound : (w : List ℕ) (records : List (List ℕ)) → Each (Each Byte) records → sound w ≡ true → sound (after w records) ≡ true
unfolding after
run_keeps_sound w [] bytes before = before
run_keeps_sound w (s ∷ rest) (one b bytes) before = run_keeps_sound (serve w s).words rest bytes (sound_kept w s b before)

-- Fresh tables are sound words.
pub fresh_words_sound : sound fresh_words ≡ true
unfolding fresh_words
fresh_words_sound = packed_sound fresh_in_order.fits (order_sound fresh fresh_in_order)

-- Whatever records are served since fresh tables, the words are sound.
pub sound_since_fresh : (records : List (List ℕ)) → Each (Each Byte) records → sound (after fresh_words records) ≡ true
sound_since_fresh records bytes = run_keeps_sound fresh_words records bytes fresh_words_sound

never_unsound_from : (w : List ℕ) (records : List (List ℕ)) → Each (Each Byte) records → sound w ≡ true →
    Each (λ a. a ≢ Refused 1) (answers w records)
unfolding answers
never_unsound_from w [] bytes before = none
never_unsound_from w (s ∷ rest) (one b bytes) before =
    one (sound_never_unsound w s before) (never_unsound_from (serve w s).words rest bytes (sound_kept w s b before))

-- No record that is served since fresh tables finds them unsound, whatever bytes it is.
pub never_unsound_since_fresh : (records : List (List ℕ)) → Each (Each Byte) records →
    Each (λ a. a ≢ Refused 1) (answers fresh_words records)
never_unsound_since_fresh records bytes = never_unsound_from fresh_words records bytes fresh_words_sound

-- THE ACCOUNT OF ENTRIES

-- how many records of a run were accepted whose call is of this kind
unfoldable pub accepted_calls : (ℕ → Bool) → List (List ℕ) → List Answer → ℕ
accepted_calls kind [] given = 0
accepted_calls kind (s ∷ rest) [] = 0
accepted_calls kind (s ∷ rest) (a ∷ given) = one_if (accepts a && kind (fields s).call) + accepted_calls kind rest given

one_record : (w s : List ℕ) → Each Byte s → sound w ≡ true →
    used_entries (unpack (serve w s).words) + one_if (accepts (serve w s).answer && is_removal (fields s).call)
    ≡ used_entries (unpack w) + one_if (accepts (serve w s).answer && is_creation (fields s).call)
unfolding accepts Accounts
one_record w s bytes before = go (serves w s)
  where
    go : Serves w s →
        used_entries (unpack (serve w s).words) + one_if (accepts (serve w s).answer && is_removal (fields s).call)
        ≡ used_entries (unpack w) + one_if (accepts (serve w s).answer && is_creation (fields s).call)
    go (refuses k i answer words) = rw (answer, words)
    go (grants c is answer words) =
        rw (words, unpack_pack (granted_in_order w s bytes c is).fits, answer, granted_accepts w s c is)
        (step_accounts (unpack w) (words_in_order w before) (fields s) (accepted_proper w s bytes c is) c is.granted_step)

-- Through any run over sound words, accepted creations add to the used entry rows and accepted removals take from them, one each.
pub run_accounts : (w : List ℕ) (records : List (List ℕ)) → Each (Each Byte) records → sound w ≡ true →
    used_entries (unpack (after w records)) + accepted_calls is_removal records (answers w records)
    ≡ used_entries (unpack w) + accepted_calls is_creation records (answers w records)
unfolding after answers accepted_calls
run_accounts w [] bytes before = refl
run_accounts w (s ∷ rest) (one b bytes) before =
    let now = one_record w s b before in
    let later = run_accounts (serve w s).words rest bytes (sound_kept w s b before) in
    omega arith

none_used : used_entries (unpack fresh_words) ≡ 0
unfolding fresh_words computing used_entries
none_used = ap used_entries (unpack_pack fresh_in_order.fits)

-- Since fresh tables every accepted creation, calls 8 to 11, has brought one used entry row, and every accepted removal, calls 12 and 13,
-- has taken one away.
pub entries_since_fresh : (records : List (List ℕ)) → Each (Each Byte) records →
    used_entries (unpack (after fresh_words records)) + accepted_calls is_removal records (answers fresh_words records)
    ≡ accepted_calls is_creation records (answers fresh_words records)
entries_since_fresh records bytes =
    let sum = run_accounts fresh_words records bytes fresh_words_sound in
    let none_there = none_used in
    omega arith
