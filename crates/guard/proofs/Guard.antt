-- The proof of demand 3: a held check guards its path, each record of another user keeps the guard, and what is guarded is found as before by
-- a check or use that changes nothing. Assumes nothing.
use mathlib.Core.Path.{◌≡◌, refl, ap, sym, ◌∙◌}
use mathlib.Core.Bool.{Bool, true, false, ◌&&◌}
use mathlib.Core.Logic.{◌≢◌, ◌⊎◌, inl, inr}
use mathlib.Core.List.{List, [], ◌∷◌}
use Prim.Native.Nat.{ℕ}
use native.Mathlib.Omega.{arith}
use Rattle.model.specs.Refusals.{Outcome, ◌when◌, ◌>>◌, ◌>>=◌}
use Rattle.model.specs.Tables.{user_of}
use Rattle.model.specs.Words.{unpack}
use Rattle.model.specs.Sound.{sound}
use Rattle.model.specs.Records.{Call, fields, taken}
use Rattle.model.specs.Walk.{Goal}
use Rattle.model.specs.Calls.{Change, grant, absent, looking, check, use_of, step}
use Rattle.model.specs.Serve.{judged, served, serve, after, answers, fresh_words}
use Rattle.model.specs.declared.Answer.{Answer}
use Rattle.model.specs.declared.Answer.TheVariants.{Held, Refused}
use Rattle.laws.proofs.Each.{Each, none, one}
use Rattle.laws.proofs.Pieces.{Byte}
use Rattle.invariants.proofs.Accepted.{fields_right, made_by_process}
use Rattle.invariants.proofs.Cases.{looked}
use Rattle.invariants.proofs.Kept.{sound_kept, run_keeps_sound, sound_since_fresh}
use Rattle.invariants.proofs.Served.{Serves, refuses, grants, serves, words_in_order, granted_in_order}
use Rattle.laws.proofs.Words.{unpack_pack, sound_back}
use Rattle.guard.proofs.Demand3.{enter_call, check_call, use_call, request, Asks, ByAnotherUser, its_process, an_enter, cut_off, AllByAnotherUser, node_of, owed, others_first, last_first, Undisturbed, Demand3}
use Rattle.guard.proofs.AnotherUser.{OfAnotherUser}
use Rattle.guard.proofs.Steady.{Steady, sound_steady}
use Rattle.guard.proofs.Frames.{step_frame}
use Rattle.guard.proofs.Guarded.{Guarded, guarded_kept, looking_again, check_guards}
use Rattle.guard.proofs.Served.{judged_sound, was_read, cut_off_changes_nothing}

steady : (w : List ℕ) → sound w ≡ true → Steady (unpack w)
steady w sound_w = sound_steady (unpack w) (words_in_order w sound_w)

-- THE LAST CALL

-- it is answered so, and changes nothing
record OnlyAnswered (w last : List ℕ) (answer : Answer) : Type 0 where
  answered : (serve w last).answer ≡ answer
  no_change : (serve w last).words ≡ w

only_answered : (w last : List ℕ) → sound w ≡ true → (node : ℕ) (b : Bool) → judged w last ≡ ((10 when b) >> grant (Held node) (unpack w)) →
    OnlyAnswered w last (elim b as (λ _. Answer) [ true ↦ Refused 10 | false ↦ Held node ])
unfolding serve served ◌>>◌
only_answered w last sound_w node true e =
    record {
      answered = ap (λ (o : Outcome Change). (served w (taken last) o).answer) e;
      no_change = ap (λ (o : Outcome Change). (served w (taken last) o).words) e;
    }
only_answered w last sound_w node false e =
    record {
      answered = ap (λ (o : Outcome Change). (served w (taken last) o).answer) e;
      no_change = ap (λ (o : Outcome Change). (served w (taken last) o).words) e ∙ sound_back w sound_w;
    }

module _ (p U : ℕ) (path : List ℕ) (g : Goal) (w : List ℕ) (sound_w : sound w ≡ true) (guarded : Guarded p U path g (unpack w)) where
  -- `must_exist`: an absence is refused
  again : (must_exist : Bool) (r : Call) → r.process ≡ p → r.path1 ≡ path →
      looking true must_exist (unpack w) r ≡ ((10 when must_exist && absent g) >> grant (Held g.node) (unpack w))
  again = looking_again p U path g (unpack w) (steady w sound_w) guarded

  last_check : (last : List ℕ) → Asks check_call p path last → OnlyAnswered w last (owed (fields last).call g.node)
  unfolding step check ◌>>=◌
  last_check last asks =
      rw (was_read last (request check_call p path) asks).same
      (only_answered w last sound_w g.node false
      (judged_sound w last sound_w ∙ rw asks (again false (request check_call p path) refl refl)))

  last_use : (last : List ℕ) → Asks use_call p path last → OnlyAnswered w last (owed (fields last).call g.node)
  unfolding step use_of absent ◌>>=◌
  last_use last asks =
      rw (was_read last (request use_call p path) asks).same
      (only_answered w last sound_w g.node (absent g)
      (judged_sound w last sound_w ∙ rw asks (again true (request use_call p path) refl refl)))

  last_call : (last : List ℕ) → Asks check_call p path last ⊎ Asks use_call p path last →
      OnlyAnswered w last (owed (fields last).call g.node)
  last_call last (inl checks) = last_check last checks
  last_call last (inr uses) = last_use last uses

-- OTHER USERS' RECORDS

module _ (p U : ℕ) (path : List ℕ) (g : Goal) where
  -- any call but an enter is by a process of another user, not root
  call_guarded : (w s : List ℕ) → sound w ≡ true → Each Byte s → Guarded p U path g (unpack w) →
      ((fields s).call ≢ enter_call → OfAnotherUser p (fields s).process (unpack w)) → Guarded p U path g (unpack (serve w s).words)
  call_guarded w s sound_w bytes guarded another = go (serves w s)
    where
      go : Serves w s → Guarded p U path g (unpack (serve w s).words)
      go (refuses n judged_so answer words) = rw words guarded
      go (grants c is answer words) =
          rw (words, unpack_pack (granted_in_order w s bytes c is).fits)
          (guarded_kept p U path g (unpack w) c.tables
          (step_frame p (unpack w) (fields s) c (steady w sound_w) guarded.present another is.granted_step) guarded)

  serve_guarded : (w s : List ℕ) → sound w ≡ true → Each Byte s → ByAnotherUser U w s → Guarded p U path g (unpack w) →
      Guarded p U path g (unpack (serve w s).words)
  serve_guarded w s sound_w bytes (its_process listing another) guarded =
      call_guarded w s sound_w bytes guarded
      (λ n. record { present = guarded.present; user = rw guarded.user another })
  serve_guarded w s sound_w bytes (an_enter call another) guarded = call_guarded w s sound_w bytes guarded (λ n. absurd (n call))
  serve_guarded w s sound_w bytes (cut_off too_short) guarded = rw (cut_off_changes_nothing w s too_short) guarded

  after_guarded : (w : List ℕ) (records : List (List ℕ)) → sound w ≡ true → Each (Each Byte) records → AllByAnotherUser U w records →
      Guarded p U path g (unpack w) → Guarded p U path g (unpack (after w records))
  unfolding after
  after_guarded w [] sound_w none by guarded = guarded
  after_guarded w (s ∷ rest) sound_w (one bytes more) by guarded =
      after_guarded (serve w s).words rest (sound_kept w s bytes sound_w) more by.1 (serve_guarded w s sound_w bytes by.0 guarded)

  undisturbed : (w : List ℕ) → sound w ≡ true → Guarded p U path g (unpack w) → (others : List (List ℕ)) → Each (Each Byte) others →
      AllByAnotherUser U w others → (last : List ℕ) → Asks check_call p path last ⊎ Asks use_call p path last →
      Undisturbed path (fields last).call g.node (others_first w others last) (last_first w others last)
  undisturbed w sound_w guarded others bytes by last asks =
      let guarded_late = after_guarded w others sound_w bytes by guarded in
      let late = last_call p U path g (after w others) (run_keeps_sound w others bytes sound_w) guarded_late last asks in
      let direct = last_call p U path g w sound_w guarded last asks in
      record {
        told_late = record { same_node = ap node_of guarded_late.walks; right_answer = late.answered; no_change = late.no_change };
        told_direct = record { same_node = ap node_of guarded.walks; right_answer = direct.answered; no_change = direct.no_change };
        same_way = guarded_late.walks ∙ sym guarded.walks;
        same_last = late.answered ∙ sym direct.answered;
        same_others = ap (λ (v : List ℕ). answers v others) (sym direct.no_change);
        same_words = late.no_change ∙ ap (λ (v : List ℕ). after v others) (sym direct.no_change);
      }

-- THE FIRST CALL

refused_not_held : (n node : ℕ) → ◌≡◌ {A = Answer} (Refused n) (Held node) → ⊥
refused_not_held n node e = let z : ◌≡◌ {A = ℕ} 0 1 = cc in omega arith

held_guards : (p U node : ℕ) (path w s : List ℕ) → sound w ≡ true → Each Byte s → Asks check_call p path s →
    user_of (unpack w).processes p ≡ U → (serve w s).answer ≡ Held node →
    (g : Goal) × Guarded p U path g (unpack (serve w s).words) × (g.node ≡ node)
unfolding step check
held_guards p U node path w s sound_w bytes asks user told = go (serves w s)
  where
    r : Call
    r = request check_call p path

    go : Serves w s → (g : Goal) × Guarded p U path g (unpack (serve w s).words) × (g.node ≡ node)
    go (refuses n judged_so answer words) = absurd (refused_not_held n node (sym answer ∙ told))
    go (grants c is answer words) =
        let read_so = was_read s r asks in
        let steps = ap (step (unpack w)) (sym read_so.same) ∙ is.granted_step in
        let numbered = (fields_right r read_so.right).process (made_by_process check_call) in
        let checked = looked true false (unpack w) r c steps in
        let guard = check_guards (unpack w) r c node (steady w sound_w) numbered checked (sym answer ∙ told) in
        (guard.0, rw (words, unpack_pack (granted_in_order w s bytes c is).fits, ← user) guard.1, guard.2)

-- DEMAND 3

pub demand_3 : Demand3
demand_3 before before_bytes p U node path first first_bytes asks user told others others_bytes by last asks_again =
    let w = after fresh_words before in
    let sound_w = sound_since_fresh before before_bytes in
    let guard = held_guards p U node path w first sound_w first_bytes asks user told in
    rw (← guard.2)
    (undisturbed p U path guard.0 (serve w first).words (sound_kept w first first_bytes sound_w) guard.1 others others_bytes by last
    asks_again)
