-- Input in parts, however it is split, gives the text of the model's listing: what the machine has written and what its unread bytes still
-- give are together always the same. Assumes nothing.
use mathlib.Core.Path.{◌≡◌, refl, sym, ap, ◌∙◌}
use mathlib.Core.Bool.{Bool, true, false, not, ◌&&◌, ◌||◌}
use mathlib.Core.List.{List, [], ◌∷◌, ◌++◌, append-nil, append_assoc}
use Prim.Native.Nat.{ℕ, zero, suc, ◌≤◌, ◌<◌}
use native.Mathlib.Omega.{arith}
use borrow.Author.Tests.{eqb-true, eqb-false}
use lib.Dec.{eqb}
use lib.ListN.{length, take, drop, length-drop}
use lib.Seq.{take-append_seam}
use Rattle.model.specs.Lists.{empty, joined}
use Rattle.model.specs.Records.{asked, short, taken}
use Rattle.model.specs.Serve.{serve, fresh_words}
use Rattle.model.specs.Listing.{line}
use Rattle.laws.proofs.Bools.{clash}
use Rattle.invariants.proofs.Records.{whole, whole_taken}
use Rattle.listing.specs.Steps.{longest_line, last_place, Stepped, over_front, line_step, listed, next_line}
use Rattle.any_split.specs.Machine.{Machine, stopped, after_step, run, run_all, given, all_given, started, text_of}
use Rattle.listing.proofs.Nexts.{next_over, next_nothing_yet, next_more, next_listed}
use Rattle.any_split.proofs.Rests.{rest, rest_of_nothing, rest_past_places, rest_of_short, rest_of_whole}
use Rattle.service.proofs.Verdicts.{serve_takes}

-- no text comes where the listing is over
unfoldable pub to_come : Bool → List ℕ → ℕ → List ℕ → List ℕ
to_come true w place s = []
to_come false w place s = rest w place s

-- the text that a machine comes to where these bytes come behind its unread ones
unfoldable pub due : Machine → List ℕ → List ℕ
due m later = m.text ++ to_come m.over m.words m.place (m.unread ++ later)

-- bytes may come later only where the end mark is not set
unfoldable pub Ends : Bool → List ℕ → Type 0
Ends last later = last ≡ true → later ≡ []

-- the places of a machine that goes on are numbers of 64 bits
unfoldable pub Within : Machine → Type 0
Within m = m.over ≡ false → m.place ≤ last_place

no_bytes : (s : List ℕ) → empty s ≡ true → s ≡ []
unfolding empty
no_bytes [] e = refl
no_bytes (b ∷ s) e = clash e refl

-- the line that a step wrote
pub line_written : (text out : List ℕ) → take (length text) (over_front text out) ≡ text
unfolding over_front
line_written text out = take-append_seam text (drop (length text) out)

-- the line of the record at the front of the unread bytes
abbrev pub front_line : Machine → List ℕ
front_line m = line m.place (serve m.words m.unread).answer

-- the machine after the last line, and after a line that others may follow
abbrev pub ended : Machine → Machine
ended m = stopped m (serve m.words m.unread).words (front_line m)

abbrev pub moved : Machine → Machine
moved m =
    record {
      words = (serve m.words m.unread).words;
      unread = drop (taken m.unread) m.unread;
      place = suc m.place;
      over = false;
      text = m.text ++ front_line m;
    }

-- ONE STEP

-- what a step makes of a machine, by what its bytes are; `on` goes on
data Turn (last : Bool) (on : Machine → Machine) (m r : Machine) : Type 0 where
  waits : last ≡ false → r ≡ m → Turn last on m r
  none_left : empty m.unread ≡ true → last ≡ true → r ≡ stopped m m.words [] → Turn last on m r
  too_short : empty m.unread ≡ false → short m.unread ≡ true → last ≡ true → r ≡ ended m → Turn last on m r
  no_place_left : short m.unread ≡ false → m.place ≡ last_place → r ≡ ended m → Turn last on m r
  goes_on : short m.unread ≡ false → (m.place ≡ last_place → ⊥) → r ≡ on (moved m) → Turn last on m r

-- a step that wrote a line
module _ (on : Machine → Machine) (m : Machine) (b : Bool) (out : List ℕ) where
  line_of : Stepped
  line_of = listed b m.place out (serve m.words m.unread)

  line_ends : (b || eqb m.place last_place) ≡ true → after_step on m line_of.words line_of.out line_of.step ≡ ended m
  unfolding line_of listed line_step after_step
  line_ends e = rw (e, line_written (front_line m) out)

  line_goes_on : (b || eqb m.place last_place) ≡ false
      → after_step on m line_of.words line_of.out line_of.step ≡ on (moved m)
  unfolding line_of listed line_step after_step
  line_goes_on e = rw (e, line_written (front_line m) out, serve_takes m.words m.unread)

-- what is due after a step is what was due before it
module _ (m : Machine) (later : List ℕ) (o : m.over ≡ false) where
  due_is : due m later ≡ m.text ++ rest m.words m.place (m.unread ++ later)
  unfolding due to_come
  due_is = rw o

  due_stopped : (w text : List ℕ) → due (stopped m w text) later ≡ m.text ++ text
  unfolding due to_come stopped
  due_stopped w text = append-nil (m.text ++ text)

  pub due_none : empty m.unread ≡ true → later ≡ [] → due (stopped m m.words []) later ≡ due m later
  due_none e l =
      due_stopped m.words []
      ∙ sym (due_is ∙ rw (no_bytes m.unread e, l) (ap (λ x. m.text ++ x) (rest_of_nothing m.words m.place)))

  pub due_short : m.place ≤ last_place → empty m.unread ≡ false → short m.unread ≡ true → later ≡ []
      → due (ended m) later ≡ due m later
  due_short h e q l =
      due_stopped (serve m.words m.unread).words (front_line m)
      ∙ sym (due_is
      ∙ rw (l, append-nil m.unread) (ap (λ x. m.text ++ x) (rest_of_short m.words m.unread m.place h e q)))

  pub due_moved : m.place ≤ last_place → short m.unread ≡ false → due (moved m) later ≡ due m later
  unfolding due to_come
  due_moved h q =
      append_assoc m.text (front_line m)
      (rest (serve m.words m.unread).words (suc m.place) (drop (taken m.unread) m.unread ++ later))
      ∙ sym (due_is ∙ ap (λ x. m.text ++ x) (rest_of_whole m.words m.unread later m.place h q))

  pub due_last : m.place ≡ last_place → short m.unread ≡ false → due (ended m) later ≡ due m later
  unfolding due to_come
  due_last p q =
      due_stopped (serve m.words m.unread).words (front_line m)
      ∙ sym (ap (λ x. (m.text ++ front_line m) ++ x) (past p) ∙ append-nil (m.text ++ front_line m))
      ∙ due_moved (omega arith) q
    where
      past : m.place ≡ last_place
          → rest (serve m.words m.unread).words (suc m.place) (drop (taken m.unread) m.unread ++ later) ≡ []
      past p = rw p (rest_past_places (serve m.words m.unread).words (drop (taken m.unread) m.unread ++ later))

-- one part more, before any step
abbrev pub with_part : Machine → List ℕ → Machine
with_part m part = record { words = m.words; unread = m.unread ++ part; place = m.place; over = m.over; text = m.text }

pub over_text : (m : Machine) → m.over ≡ true → m.text ≡ due m []
unfolding due to_come
over_text m o = rw o (sym (append-nil m.text))

pub below : {n : ℕ} → n ≤ last_place → (n ≡ last_place → ⊥) → suc n ≤ last_place
below h f = omega (arith, f)

-- a record has seven bytes or more, so fewer are left
fewer_left : (s : List ℕ) (n : ℕ) → short s ≡ false → length s < suc n → length (drop (taken s) s) < n
unfolding asked
fewer_left s n q h = let w = whole s q in rw (whole_taken w) (simp length-drop (omega (arith, w.head_there)))

module _ (out : ℕ → List ℕ) (room : (n : ℕ) → longest_line ≤ length (out n)) where
  module _ (last : Bool) (n : ℕ) (m : Machine) where
    step_is : {x : Stepped} → next_line m.words m.unread last m.place (out m.place) ≡ x
        → run out last (suc n) m ≡ after_step (run out last n) m x.words x.out x.step
    unfolding run
    step_is e = rw e

    -- `|| eqb` comes after the test that bytes are too short
    listed_is : (b : Bool) → short m.unread ≡ b → empty m.unread ≡ false → (b && not last) ≡ false
        → next_line m.words m.unread last m.place (out m.place) ≡ line_of (run out last n) m b (out m.place)
    unfolding line_of
    listed_is b q e f =
        next_listed m.words m.unread last m.place (out m.place) e (room m.place) (rw q f)
        ∙ ap (λ c. listed c m.place (out m.place) (serve m.words m.unread)) q

    turn : Turn last (run out last n) m (run out last (suc n) m)
    unfolding after_step
    turn = go (empty m.unread) refl (short m.unread) refl last refl (eqb m.place last_place) refl
      where
        go : (a : Bool) → empty m.unread ≡ a → (b : Bool) → short m.unread ≡ b → (c : Bool) → last ≡ c
            → (d : Bool) → eqb m.place last_place ≡ d → Turn last (run out last n) m (run out last (suc n) m)
        go true e b q true l d p = none_left e l (step_is (next_over m.words m.unread last m.place (out m.place) e l))
        go true e b q false l d p = waits l (step_is (next_nothing_yet m.words m.unread last m.place (out m.place) e l))
        go false e true q false l d p =
            waits l (step_is (next_more m.words m.unread last m.place (out m.place) e (room m.place) q l))
        go false e true q true l d p =
            too_short e q l (step_is (listed_is true q e (simp l)) ∙ line_ends (run out last n) m true (out m.place) refl)
        go false e false q c l true p =
            no_place_left q (eqb-true m.place last_place p)
            (step_is (listed_is false q e refl) ∙ line_ends (run out last n) m false (out m.place) p)
        go false e false q c l false p =
            goes_on q (eqb-false m.place last_place p)
            (step_is (listed_is false q e refl) ∙ line_goes_on (run out last n) m false (out m.place) p)

  -- WHAT A RUN KEEPS

  -- the text to come stays the same
  run_keeps : (last : Bool) (n : ℕ) (m : Machine) (later : List ℕ) → Ends last later → m.over ≡ false → m.place ≤ last_place
      → due (run out last n m) later ≡ due m later
  unfolding run Ends
  run_keeps last zero m later ends o h = refl
  run_keeps last (suc n) m later ends o h = go (turn last n m) (run_keeps last n (moved m) later ends refl)
    where
      go : Turn last (run out last n) m (run out last (suc n) m)
          → (suc m.place ≤ last_place → due (run out last n (moved m)) later ≡ due (moved m) later)
          → due (run out last (suc n) m) later ≡ due m later
      go (waits l r) on = ap (λ x. due x later) r
      go (none_left e l r) on = ap (λ x. due x later) r ∙ due_none m later o e (ends l)
      go (too_short e q l r) on = ap (λ x. due x later) r ∙ due_short m later o h e q (ends l)
      go (no_place_left q p r) on = ap (λ x. due x later) r ∙ due_last m later o p q
      go (goes_on q p r) on = ap (λ x. due x later) r ∙ on (below h p) ∙ due_moved m later o h q

  run_within : (last : Bool) (n : ℕ) (m : Machine) → m.place ≤ last_place → Within (run out last n m)
  unfolding run Within stopped
  run_within last zero m h = λ o. h
  run_within last (suc n) m h = go (turn last n m) (run_within last n (moved m))
    where
      go : Turn last (run out last n) m (run out last (suc n) m)
          → (suc m.place ≤ last_place → (run out last n (moved m)).over ≡ false → (run out last n (moved m)).place ≤ last_place)
          → (run out last (suc n) m).over ≡ false → (run out last (suc n) m).place ≤ last_place
      go (waits l r) on = rw r (λ o. h)
      go (none_left e l r) on = rw r (λ o. h)
      go (too_short e q l r) on = rw r (λ o. h)
      go (no_place_left q p r) on = rw r (λ o. h)
      go (goes_on q p r) on = rw r (on (below h p))

  -- at the end mark every run that is long enough is over
  run_ends : (n : ℕ) (m : Machine) → length m.unread < n → (run out true n m).over ≡ true
  unfolding stopped
  run_ends zero m h = let z : ⊥ = omega arith in absurd z
  run_ends (suc n) m h = go (turn true n m) (run_ends n (moved m))
    where
      go : Turn true (run out true n) m (run out true (suc n) m)
          → (length (drop (taken m.unread) m.unread) < n → (run out true n (moved m)).over ≡ true)
          → (run out true (suc n) m).over ≡ true
      go (waits l r) on = clash refl l
      go (none_left e l r) on = rw r
      go (too_short e q l r) on = rw r
      go (no_place_left q p r) on = rw r
      go (goes_on q p r) on = rw r (on (fewer_left m.unread n q h))

  -- PART AFTER PART

  -- `run_all` is a run that is long enough, or nothing where the listing is over
  all_run : (last : Bool) (m : Machine) → m.over ≡ false → run_all out last m ≡ run out last (suc (length m.unread)) m
  unfolding run_all
  all_run last m o = simp (o, run_all)

  none_run : (last : Bool) (m : Machine) → m.over ≡ true → run_all out last m ≡ m
  unfolding run_all
  none_run last m o = simp (o, run_all)

  all_keeps : (last : Bool) (m : Machine) (later : List ℕ) → Ends last later → Within m → due (run_all out last m) later ≡ due m later
  unfolding Within
  all_keeps last m later ends h = go m.over refl
    where
      go : (b : Bool) → m.over ≡ b → due (run_all out last m) later ≡ due m later
      go true o = ap (λ x. due x later) (none_run last m o)
      go false o = ap (λ x. due x later) (all_run last m o) ∙ run_keeps last (suc (length m.unread)) m later ends o (h o)

  all_within : (last : Bool) (m : Machine) → Within m → Within (run_all out last m)
  unfolding Within
  all_within last m h = go m.over refl
    where
      go : (b : Bool) → m.over ≡ b → (run_all out last m).over ≡ false → (run_all out last m).place ≤ last_place
      go true o = rw (none_run last m o) h
      go false o = rw (all_run last m o) (run_within last (suc (length m.unread)) m (h o))

  all_over : (m : Machine) → (run_all out true m).over ≡ true
  all_over m = go m.over refl
    where
      go : (b : Bool) → m.over ≡ b → (run_all out true m).over ≡ true
      go true o = rw (none_run true m o) o
      go false o = rw (all_run true m o) (run_ends (suc (length m.unread)) m (omega arith))

  given_keeps : (m : Machine) (part later : List ℕ) → Within m → due (given out m part) later ≡ due m (part ++ later)
  unfolding given Ends Within due
  given_keeps m part later h =
      all_keeps false (with_part m part) later (λ e. clash e refl) h ∙ rw (append_assoc m.unread part later)

  given_within : (m : Machine) (part : List ℕ) → Within m → Within (given out m part)
  unfolding given Within
  given_within m part h = all_within false (with_part m part) h

  parts_keep : (m : Machine) (parts : List (List ℕ)) → Within m → due (all_given out m parts) [] ≡ due m (joined (λ part. part) parts)
  unfolding all_given joined
  parts_keep m [] h = refl
  parts_keep m (part ∷ parts) h =
      parts_keep (given out m part) parts (given_within m part h) ∙ given_keeps m part (joined (λ part. part) parts) h

  parts_within : (m : Machine) (parts : List (List ℕ)) → Within m → Within (all_given out m parts)
  unfolding all_given
  parts_within m [] h = h
  parts_within m (part ∷ parts) h = parts_within (given out m part) parts (given_within m part h)

  -- THE TEXT, HOWEVER THE INPUT IS SPLIT

  -- the lines of the records that the parts are together, at most 2^64 - 1 of them
  pub any_split : (parts : List (List ℕ)) → text_of out parts ≡ rest fresh_words 1 (joined (λ part. part) parts)
  unfolding text_of due to_come Ends Within
  any_split parts =
      let h : Within started = λ o. omega arith in
      let m = all_given out started parts in
      over_text (run_all out true m) (all_over m)
      ∙ all_keeps true m [] (λ e. refl) (parts_within started parts h)
      ∙ parts_keep started parts h
