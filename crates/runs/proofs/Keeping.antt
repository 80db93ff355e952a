-- The test and the index are kept: no record makes sound tables unsound, and calls that leave the entries leave their index. Assumes nothing.
use mathlib.Core.Path.{◌≡◌, refl, sym, ap, subst, ◌∙◌}
use mathlib.Core.Bool.{Bool, true, false, not, ◌||◌}
use mathlib.Core.List.{List}
use Prim.Native.Nat.{ℕ}
use Rattle.model.specs.Refusals.{Outcome, refused, granted}
use Rattle.model.specs.Tables.{Entry, Tables, entry_rows}
use Rattle.model.specs.Words.{unpack}
use Rattle.model.specs.Sound.{entries_distinct, sound}
use Rattle.model.specs.Records.{Call, calls, keeps_entries, row_of, short, taken}
use Rattle.model.specs.Calls.{Change, step}
use Rattle.model.specs.Serve.{Served, judged, judged_with, serve}
use Rattle.model.specs.declared.Answer.{Answer}
use Rattle.model.specs.declared.Answer.TheVariants.{Refused}
use Rattle.laws.proofs.Bools.{clash}
use Rattle.invariants.proofs.Cases.{Gives, Saw, seen, held, Step, by_enter, by_fork, by_exec, by_exit, by_check, by_look, by_use, by_create, by_mkdir, by_symlink, by_link, by_unlink, by_rmdir, step_cases}
use Rattle.invariants.proofs.Kept.{sound_kept}
use Rattle.invariants.specs.Accepts.{accepts}
use Rattle.invariants.proofs.Served.{accepted, granted_accepts, granted_in_order, words_in_order}
use Rattle.laws.proofs.Words.{unpack_pack}
use Rattle.rows.specs.Stands.{Stands}
use Rattle.index.specs.Buckets.{Chained}
use Rattle.index.specs.Indexed.{entry_chains, Index, Indexed}
use Rattle.records.specs.declared.Fields.{Fields}
use Rattle.records.specs.Reading.{cut_short, reading}
use Rattle.rows.specs.Meets.{answer_of, words_of, Meets}
use Rattle.rows.proofs.Meeting.{refuses, served_is}
use Rattle.service.specs.Serves.{Serves}
use Rattle.service.proofs.Verdicts.{serves_by}
use Rattle.reaching.specs.Ready.{call_in, Ready}
use Rattle.reaching.proofs.Judging.{judged_step}
use Rattle.reaching.proofs.Walking.{stands_sound}
use Rattle.runs.specs.Tested.{Tested, leaves_entries}

-- THE TEST

-- what a record leaves of words is what the model's serve leaves
words_served : (w s : List ℕ) {v : List ℕ} {a : Answer} → Meets w (judged w s) a v → v ≡ (serve w s).words
unfolding serve
words_served w s m = m.words ∙ sym (ap (λ (o : Served). o.words) (served_is w (taken s) (judged w s)))

-- a record that is cut short is refused with 17, and takes nothing
pub short_served : {w s v : List ℕ} → short s ≡ true → v ≡ w → Serves w s (record { answer = Refused 17; taken = 0 }) v
unfolding judged judged_with taken
short_served {w} {s} e same = rw same (serves_by (refuses 17 (short s) _ refl e) (rw (e, taken) refl))

pub entries_apart : (w : List ℕ) → sound w ≡ true → entries_distinct (unpack w) ≡ true
unfolding entries_distinct
entries_apart w e = (words_in_order w e).sound.tree.distinct_entries

pub tested_as : {w : List ℕ} {index : Index} {b : Bool} → b ≡ true → Tested w index true → Tested w index b
tested_as e t = rw e t

-- THE INDEX

index_kept : {w v : List ℕ} {index : Index} → Indexed w index → Stands v → (unpack v).entries ≡ (unpack w).entries → Indexed v index
unfolding entries_distinct
index_kept {w} {v} {index} i stands e =
    record {
      stands = stands;
      chained = subst (λ (es : List Entry). Chained (entry_chains es) index.heads index.next entry_rows) (sym e) i.chained;
      distinct = rw e i.distinct;
    }

-- the calls that the table says so of write no entry
keepers_leave : (t : Tables) (r : Call) (c : Change) → keeps_entries (row_of r.call).effect ≡ true → step t r ≡ granted c
    → c.tables.entries ≡ t.entries
unfolding keeps_entries row_of calls
keepers_leave t r c keeper e = go (step_cases t r c e)
  where
    given : {a : Answer} {u : Tables} → Gives c a u → c.tables.entries ≡ u.entries
    given g = ap (λ (x : Tables). x.entries) g.tables

    saw : {p : ℕ} {g : _} → Saw t p g c → c.tables.entries ≡ t.entries
    saw (seen way gives) = given gives
    saw (held way room gives) = given gives

    writes : {A : Type 0} (n : ℕ) → r.call ≡ n → keeps_entries (row_of n).effect ≡ false → A
    writes n is writing = clash (rw is at keeper) writing

    go : Step t r c → c.tables.entries ≡ t.entries
    go (by_enter n is) = given is.gives
    go (by_fork n is) = given is.gives
    go (by_exec n is) = given is.gives
    go (by_exit n is) = given is.gives
    go (by_check n is) = saw is.saw
    go (by_look n is) = saw is.saw
    go (by_use n is) = saw is.saw
    go (by_create n is) = writes 8 n refl
    go (by_mkdir n is) = writes 9 n refl
    go (by_symlink n is) = writes 10 n refl
    go (by_link n is) = writes 11 n refl
    go (by_unlink n is) = writes 12 n refl
    go (by_rmdir n is) = writes 13 n refl

-- ONE CALL

module _ {w s : List ℕ} {index : Index} {f : Fields} (ready : Ready w index s f) {a : Answer} {v : List ℕ}
    (m : Meets w (step (unpack w) (call_in s f)) a v) where
  judged_is : judged w s ≡ step (unpack w) (call_in s f)
  unfolding cut_short
  judged_is = judged_step w s (reading s) refl (ap cut_short (sym ready.read)) refl (sym ready.sound) refl ready.read

  pub sound_after : sound v ≡ true
  sound_after =
      let m' : Meets w (judged w s) a v = rw judged_is m in
      rw (words_served w s m') (sound_kept w s ready.bytes ready.sound)

  -- a granted call leaves the entries only where the table says so
  entries_after : (c : Change) → step (unpack w) (call_in s f) ≡ granted c → leaves_entries f.call c.answer ≡ true
      → c.tables.entries ≡ (unpack w).entries
  unfolding leaves_entries
  entries_after c e = go (keeps_entries (row_of f.call).effect) refl
    where
      refuses : (b : Bool) → not b ≡ true → b ≡ false
      refuses true h = clash h refl
      refuses false h = refl

      go : (b : Bool) → keeps_entries (row_of f.call).effect ≡ b → (b || not (accepts c.answer)) ≡ true → c.tables.entries ≡ (unpack w).entries
      go true keeper _ = keepers_leave (unpack w) (call_in s f) c keeper e
      go false _ refusing = clash (granted_accepts w s c (accepted w s c (judged_is ∙ e))) (refuses (accepts c.answer) refusing)

  pub index_after : leaves_entries f.call a ≡ true → Indexed v index
  unfolding answer_of words_of
  index_after leaves = go (step (unpack w) (call_in s f)) refl m.answer m.words
    where
      go : (o : Outcome Change) → step (unpack w) (call_in s f) ≡ o → a ≡ answer_of o → v ≡ words_of w o → Indexed v index
      go (refused n) e answer words = rw words ready.indexed
      go (granted c) e answer words =
          let is = accepted w s c (judged_is ∙ e) in
          let back : unpack v ≡ c.tables = ap unpack words ∙ unpack_pack (granted_in_order w s ready.bytes c is).fits in
          let same = entries_after c e (rw answer at leaves) in
          index_kept ready.indexed (stands_sound v sound_after) (ap (λ (t : Tables). t.entries) back ∙ same)
