-- Calls of `list_part`, over any destinations and however the input is split: together they write the model's listing. Each call's own contract is
-- all that is used. Assumes nothing.
use mathlib.Core.Path.{◌≡◌, refl, sym, ap, subst, ◌∙◌}
use mathlib.Core.Bool.{Bool, true, false, not, ◌&&◌, ◌||◌}
use mathlib.Core.List.{List, [], ◌++◌, append-nil, append_assoc}
use Prim.Native.Nat.{ℕ, zero, suc, ◌≤◌}
use native.Mathlib.Omega.{arith}
use borrow.Author.Tests.{eqb-true, eqb-false, ltb-true, ltb-false}
use lib.Dec.{eqb, ltb}
use lib.ListN.{length, take, drop}
use lib.Seq.{take-append-add, drop-drop}
use Rattle.model.specs.Lists.{empty}
use Rattle.model.specs.Records.{short, taken}
use Rattle.model.specs.Serve.{serve, fresh_words}
use Rattle.model.specs.Listing.{listing}
use Rattle.laws.proofs.Bools.{clash}
use Rattle.listing.specs.declared.Stop.{Stop}
use Rattle.listing.specs.declared.Stop.TheVariants.{Over, More, Full}
use Rattle.listing.specs.declared.Part.{Part}
use Rattle.listing.specs.Steps.{longest_line, last_place, Stepped, over_front, line_step, listed, next_line}
use Rattle.listing.specs.Parts.{Filled, filled, no_line, behind, filled_by, fill, list_part}
use Rattle.any_split.specs.Machine.{Machine, stopped, started}
use Rattle.listing.proofs.Nexts.{next_over, next_nothing_yet, next_full, next_more, next_listed}
use Rattle.service.proofs.Verdicts.{serve_takes}
use Rattle.any_split.proofs.Rests.{rest}
use Rattle.any_split.proofs.AnySplit.{to_come, due, Ends, Within, line_written, front_line, ended, moved, due_none, due_short, due_moved, due_last, with_part, over_text, below}
use Rattle.any_split.proofs.Listings.{rest_listing}

-- THE CALLS

unfoldable pub is_over : Stop → Bool
is_over Over = true
is_over More = false
is_over Full = false

-- what a caller has after a call: the bytes taken are gone from the unread ones, and the lines are behind the text
unfoldable pub after_call : Machine → Filled → Machine
after_call m y =
    record {
      words = y.words;
      unread = drop y.part.taken m.unread;
      place = y.part.place;
      over = is_over y.part.stop;
      text = m.text ++ take y.part.length y.out;
    }

-- from m to r by calls, while these bytes came in parts; the end is told where no more come, and no call is made where the listing is over
pub data Calls : Machine → List ℕ → Machine → Type 0 where
  here : {m : Machine} → Calls m [] m
  came : {m r : Machine} (part : List ℕ) {later : List ℕ} → Calls (with_part m part) later r → Calls m (part ++ later) r
  called : {m r : Machine} {later : List ℕ} (last : Bool) (out : List ℕ) {answer : Part} {v o : List ℕ} → Ends last later → m.over ≡ false
      → filled answer v o ≡ list_part last m.words m.unread m.place out → Calls (after_call m (filled answer v o)) later r
      → Calls m later r

-- WHAT A CALL KEEPS

pub record Keeps (m : Machine) (later : List ℕ) (r : Machine) : Type 0 where
  pub same_due : due r later ≡ due m later
  pub within : Within r

-- nothing was written, and more may come
waits : (m : Machine) (later w : List ℕ) (why : Stop) (out : List ℕ) → is_over why ≡ false → m.over ≡ false → m.place ≤ last_place → w ≡ m.words
    → Keeps m later (after_call m (no_line m.place why w out))
unfolding after_call no_line due to_come Within
waits m later w why out e o h same =
    record { same_due = rw (e, o, same, append-nil m.text); within = λ _. h }

-- a line was written, then the rest
line_then : (m : Machine) (t : ℕ) (text : List ℕ) (y : Filled)
    → after_call m (behind t text y)
    ≡ after_call (record { words = y.words; unread = drop t m.unread; place = m.place; over = false; text = m.text ++ text }) y
unfolding after_call behind
line_then m t text y =
    let bytes = sym (drop-drop y.part.taken t m.unread) in
    let written = ap (λ l. m.text ++ l) (take-append-add text y.out y.part.length) ∙ sym (append_assoc m.text text (take y.part.length y.out)) in
    λ i. record { words = y.words; unread = bytes i; place = y.part.place; over = is_over y.part.stop; text = written i }

-- the last line was written
last_line : (m : Machine) (w text out : List ℕ)
    → after_call m (behind 0 text (no_line m.place Over w out))
    ≡ record { words = w; unread = m.unread; place = m.place; over = true; text = m.text ++ text }
unfolding after_call no_line is_over
last_line m w text out =
    line_then m 0 text (no_line m.place Over w out)
    ∙ λ i. record { words = w; unread = m.unread; place = m.place; over = true; text = append-nil (m.text ++ text) i }

-- the destination behind the line that a step wrote
lent_on : Machine → List ℕ → List ℕ
lent_on m out = drop (length (front_line m)) (over_front (front_line m) out)

-- what such a step comes to
module _ (on : List ℕ → List ℕ → ℕ → List ℕ → Filled) (m : Machine) (b : Bool) (out : List ℕ) where
  line_of : Stepped
  line_of = listed b m.place out (serve m.words m.unread)

  ends_with : (b || eqb m.place last_place) ≡ true
      → filled_by on m.unread m.place line_of.words line_of.out line_of.step
      ≡ behind 0 (front_line m) (no_line m.place Over (serve m.words m.unread).words (lent_on m out))
  unfolding line_of lent_on listed line_step filled_by
  ends_with e = rw (e, line_written (front_line m) out)

  goes_on_with : (b || eqb m.place last_place) ≡ false
      → filled_by on m.unread m.place line_of.words line_of.out line_of.step
      ≡ behind (taken m.unread) (front_line m) (on (moved m).words (moved m).unread (suc m.place) (lent_on m out))
  unfolding line_of lent_on listed line_step filled_by
  goes_on_with e = rw (e, line_written (front_line m) out, serve_takes m.words m.unread)

-- the listing is over after this
stops : (m : Machine) (later : List ℕ) {z : Machine} (r : Machine) → z ≡ r → r.over ≡ true → due r later ≡ due m later → Keeps m later z
unfolding Within
stops m later r e o d = record { same_due = ap (λ x. due x later) e ∙ d; within = λ z. clash (ap (λ (x : Machine). x.over) e ∙ o) z }

module _ (last : Bool) (later : List ℕ) (ends : Ends last later) where
  fill_keeps : (n : ℕ) (m : Machine) (out : List ℕ) → m.over ≡ false → m.place ≤ last_place
      → Keeps m later (after_call m (fill n last m.words m.unread m.place out))
  unfolding fill filled_by is_over Ends stopped line_of after_call no_line
  fill_keeps zero m out o h = waits m later m.words More out refl o h refl
  fill_keeps (suc n) m out o h =
      go (empty m.unread) refl last refl (ltb (length out) longest_line) refl (short m.unread) refl (eqb m.place last_place) refl
      (fill_keeps n (moved m))
    where
      -- by what the step gives
      by : {x : Stepped} {y : Filled} → next_line m.words m.unread last m.place out ≡ x
          → filled_by (fill n last) m.unread m.place x.words x.out x.step ≡ y → Keeps m later (after_call m y)
          → Keeps m later (after_call m (fill (suc n) last m.words m.unread m.place out))
      by e f k =
          subst (λ (y : Filled). Keeps m later (after_call m y))
          (sym (ap (λ (x : Stepped). filled_by (fill n last) m.unread m.place x.words x.out x.step) e ∙ f)) k

      nothing : (why : Stop) → is_over why ≡ false → Keeps m later (after_call m (no_line m.place why m.words out))
      nothing why e = waits m later m.words why out e o h refl

      listed_is : (d : Bool) → short m.unread ≡ d → empty m.unread ≡ false → longest_line ≤ length out → (d && not last) ≡ false
          → next_line m.words m.unread last m.place out ≡ line_of (fill n last) m d out
      listed_is d q p f k =
          next_listed m.words m.unread last m.place out p f (rw q k)
          ∙ ap (λ c. listed c m.place out (serve m.words m.unread)) q

      over_with : due (ended m) later ≡ due m later
          → Keeps m later (after_call m (behind 0 (front_line m) (no_line m.place Over (serve m.words m.unread).words (lent_on m out))))
      over_with d = stops m later (ended m) (last_line m (serve m.words m.unread).words (front_line m) _) refl d

      go : (a : Bool) → empty m.unread ≡ a → (b : Bool) → last ≡ b → (c : Bool) → ltb (length out) longest_line ≡ c
          → (d : Bool) → short m.unread ≡ d → (e : Bool) → eqb m.place last_place ≡ e
          → ((lent : List ℕ) → false ≡ false → suc m.place ≤ last_place
          → Keeps (moved m) later (after_call (moved m) (fill n last (moved m).words (moved m).unread (suc m.place) lent)))
          → Keeps m later (after_call m (fill (suc n) last m.words m.unread m.place out))
      go true p true l c f d q e i on =
          by (next_over m.words m.unread last m.place out p l) refl
          (stops m later (stopped m m.words []) refl refl (due_none m later o p (ends l)))
      go true p false l c f d q e i on = by (next_nothing_yet m.words m.unread last m.place out p l) refl (nothing More refl)
      go false p b l true f d q e i on =
          by (next_full m.words m.unread last m.place out p (ltb-true (length out) longest_line f)) refl (nothing Full refl)
      go false p false l false f true q e i on =
          by (next_more m.words m.unread last m.place out p (ltb-false (length out) longest_line f) q l) refl (nothing More refl)
      go false p true l false f true q e i on =
          by (listed_is true q p (ltb-false (length out) longest_line f) (simp l)) (ends_with (fill n last) m true out refl)
          (over_with (due_short m later o h p q (ends l)))
      go false p b l false f false q true i on =
          by (listed_is false q p (ltb-false (length out) longest_line f) refl) (ends_with (fill n last) m false out i)
          (over_with (due_last m later o (eqb-true m.place last_place i) q))
      go false p b l false f false q false i on =
          let lent = lent_on m out in
          let y = fill n last (moved m).words (moved m).unread (suc m.place) lent in
          let k = on lent refl (below h (eqb-false m.place last_place i)) in
          by (listed_is false q p (ltb-false (length out) longest_line f) refl) (goes_on_with (fill n last) m false out i)
          (subst (Keeps m later) (sym (line_then m (taken m.unread) (front_line m) y))
          (record { same_due = k.same_due ∙ due_moved m later o h q; within = k.within }))

pub call_keeps : (last : Bool) (m : Machine) (out later : List ℕ) → Ends last later → m.over ≡ false → Within m
    → Keeps m later (after_call m (list_part last m.words m.unread m.place out))
unfolding list_part Within
call_keeps last m out later ends o h = fill_keeps last later ends (suc (length m.unread)) m out o (h o)

-- THE TEXT

calls_keep : {m r : Machine} {s : List ℕ} → Calls m s r → Within m → due r [] ≡ due m s
unfolding due Within
calls_keep here h = refl
calls_keep {m} (came part {later} calls) h = calls_keep calls h ∙ rw (append_assoc m.unread part later)
calls_keep {m} (called {later = later} last out ends o e calls) h =
    let k = subst (λ (y : Filled). Keeps m later (after_call m y)) (sym e) (call_keeps last m out later ends o h) in
    calls_keep calls k.within ∙ k.same_due

-- the text of calls that came to the end is the model's listing of the bytes that came, at most 2^64 - 1 lines of it
pub calls_rest : {s : List ℕ} {r : Machine} → Calls started s r → r.over ≡ true → r.text ≡ rest fresh_words 1 s
unfolding due to_come Within
calls_rest {s} {r} calls o = over_text r o ∙ calls_keep calls (λ _. omega arith)

pub calls_list : {s : List ℕ} {r : Machine} → Calls started s r → r.over ≡ true → length s ≤ last_place → r.text ≡ listing s
calls_list {s} calls o h = calls_rest calls o ∙ rest_listing s h
