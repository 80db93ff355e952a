-- One record served over lent words: what a granted one has passed, that the words stay sound, and that sound words are not refused as
-- unsound. Assumes nothing.
use mathlib.Core.Path.{◌≡◌, refl, ap}
use mathlib.Core.Bool.{true, false}
use mathlib.Core.List.{List}
use Prim.Native.Nat.{ℕ}
use native.Mathlib.Omega.{arith}
use Rattle.model.specs.Refusals.{Outcome, refused, granted}
use Rattle.model.specs.Tables.{Tables}
use Rattle.model.specs.Words.{pack, unpack}
use Rattle.model.specs.Sound.{sound}
use Rattle.model.specs.Records.{Call, fields_broken, paths_broken, well_formed, fields, taken}
use Rattle.model.specs.Walk.{Goal}
use Rattle.model.specs.Calls.{Change, step}
use Rattle.model.specs.Serve.{Served, judged_with, judged, served, serve}
use Rattle.model.specs.declared.Answer.TheVariants.{Refused}
use Rattle.laws.proofs.Bools.{not_false}
use Rattle.laws.proofs.Each.{Each}
use Rattle.laws.proofs.Grants.{same_grant, passed, both_granted}
use Rattle.laws.proofs.Pieces.{Byte}
use Rattle.invariants.specs.Accepts.{accepts}
use Rattle.invariants.proofs.Cases.{Saw, seen, held, Step, by_enter, by_fork, by_exec, by_exit, by_check, by_look, by_use, by_create, by_mkdir, by_symlink, by_link, by_unlink, by_rmdir, step_cases}
use Rattle.invariants.proofs.Accepted.{read_fits, read_path1_bytes, read_path2_bytes}
use Rattle.invariants.proofs.Soundness.{sound_facts}
use Rattle.laws.proofs.Words.{unpacked_fits, packed_sound, sound_has_sound_rows}
use Rattle.invariants.proofs.Order.{InOrder, order_sound, Proper}
use Rattle.invariants.proofs.Steps.{step_keeps}
use Rattle.invariants.proofs.NotUnsound.{NotUnsound, tested, skipped, joined, well_formed_not_unsound, step_not_unsound}

-- WHAT A GRANTED RECORD HAS PASSED

pub record Accepted (w s : List ℕ) (c : Change) : Type 0 where
  pub fields_right : fields_broken (fields s) ≡ false
  pub paths_right : paths_broken (fields s) ≡ false
  pub sound_before : sound w ≡ true
  pub granted_step : step (unpack w) (fields s) ≡ granted c

pub accepted : (w s : List ℕ) (c : Change) → judged w s ≡ granted c → Accepted w s c
unfolding judged judged_with well_formed sound
accepted w s c e =
    let long = passed 17 _ _ e in
    let sound = passed 1 _ _ long.then in
    let read = both_granted _ _ sound.then in
    let fields_right = passed 2 _ _ read.first in
    let paths_right = passed 3 _ _ fields_right.then in
    record {
      fields_right = fields_right.missed;
      paths_right = paths_right.missed;
      sound_before = not_false _ sound.missed;
      granted_step = rw (← same_grant paths_right.then) at read.then;
    }

-- the fields of a record of bytes are as wide as they should be
pub fields_proper : (s : List ℕ) → Each Byte s → fields_broken (fields s) ≡ false → paths_broken (fields s) ≡ false → Proper (fields s)
fields_proper s bytes fields_right paths_right =
    record {
      fields = fields_right;
      paths = paths_right;
      process = (read_fits s).process;
      argument = (read_fits s).argument;
      path1 = read_path1_bytes bytes;
      path2 = read_path2_bytes bytes;
    }

-- SOUND WORDS

pub words_in_order : (w : List ℕ) → sound w ≡ true → InOrder (unpack w)
words_in_order w e = record { sound = sound_facts (unpack w) (sound_has_sound_rows w e); fits = unpacked_fits w }

-- EITHER WAY

pub data Serves (w s : List ℕ) : Type 0 where
  refuses : (n : ℕ) → judged w s ≡ refused n → (serve w s).answer ≡ Refused n → (serve w s).words ≡ w → Serves w s
  grants : (c : Change) → Accepted w s c → (serve w s).answer ≡ c.answer → (serve w s).words ≡ pack c.tables → Serves w s

pub serves : (w s : List ℕ) → Serves w s
unfolding serve served
serves w s = go (judged w s) refl
  where
    go : (o : Outcome Change) → judged w s ≡ o → Serves w s
    go (refused n) e =
        let is : serve w s ≡ served w (taken s) (refused n) = ap (served w (taken s)) e in
        refuses n e (ap (λ (x : Served). x.answer) is) (ap (λ (x : Served). x.words) is)
    go (granted c) e =
        let is : serve w s ≡ served w (taken s) (granted c) = ap (served w (taken s)) e in
        grants c (accepted w s c e) (ap (λ (x : Served). x.answer) is) (ap (λ (x : Served). x.words) is)

step_accepts : (t : Tables) (r : Call) (c : Change) → Step t r c → accepts c.answer ≡ true
unfolding accepts
step_accepts t r c = by_case
  where
    saw_accepts : (p : ℕ) (g : Goal) → Saw t p g c → accepts c.answer ≡ true
    saw_accepts p g (seen way gives) = rw gives.answer
    saw_accepts p g (held way room gives) = rw gives.answer

    by_case : Step t r c → accepts c.answer ≡ true
    by_case (by_enter n is) = rw is.gives.answer
    by_case (by_fork n is) = rw is.gives.answer
    by_case (by_exec n is) = rw is.gives.answer
    by_case (by_exit n is) = rw is.gives.answer
    by_case (by_check n is) = saw_accepts r.process is.goal is.saw
    by_case (by_look n is) = saw_accepts r.process is.goal is.saw
    by_case (by_use n is) = saw_accepts r.process is.goal is.saw
    by_case (by_create n is) = rw is.gives.answer
    by_case (by_mkdir n is) = rw is.gives.answer
    by_case (by_symlink n is) = rw is.gives.answer
    by_case (by_link n is) = rw is.gives.answer
    by_case (by_unlink n is) = rw is.gives.answer
    by_case (by_rmdir n is) = rw is.gives.answer

pub granted_accepts : (w s : List ℕ) (c : Change) → Accepted w s c → accepts c.answer ≡ true
granted_accepts w s c is = step_accepts (unpack w) (fields s) c (step_cases (unpack w) (fields s) c is.granted_step)

-- TABLES IN ORDER

module _ (w s : List ℕ) (bytes : Each Byte s) (c : Change) (is : Accepted w s c) where
  pub accepted_proper : Proper (fields s)
  accepted_proper = fields_proper s bytes is.fields_right is.paths_right

  pub granted_in_order : InOrder c.tables
  granted_in_order = step_keeps (unpack w) (words_in_order w is.sound_before) (fields s) accepted_proper c is.granted_step

  pub granted_sound : sound (pack c.tables) ≡ true
  granted_sound = packed_sound granted_in_order.fits (order_sound c.tables granted_in_order)

-- NOT REFUSED AS UNSOUND

pub sound_not_unsound : (w s : List ℕ) → sound w ≡ true → NotUnsound (judged w s)
unfolding judged judged_with sound
sound_not_unsound w s e =
    tested 17 _ _ (omega arith)
    (skipped _ _ (rw e)
    (joined (well_formed (fields s)) (step (unpack w)) (well_formed_not_unsound (fields s)) (λ r. step_not_unsound (unpack w) r)))
