-- A step of the listing, case by case: what the bytes, the end mark, the destination and the service's verdict say, and what the step then
-- gives. Assumes nothing.
use mathlib.Core.Path.{◌≡◌, refl, sym, ap, ◌∙◌}
use mathlib.Core.Bool.{Bool, true, false, not, ◌&&◌, ◌||◌}
use mathlib.Core.List.{List, [], ◌∷◌}
use Prim.Native.Nat.{ℕ, ◌≤◌, ◌<◌}
use native.Mathlib.Omega.{arith}
use borrow.Author.Tests.{eq-eqb, ne_eqb, eqb-true, eqb-false}
use lib.Dec.{eqb}
use lib.ListN.{length}
use Rattle.model.specs.Lists.{empty}
use Rattle.model.specs.Refusals.{◌>>◌}
use Rattle.model.specs.Records.{asked, short, taken}
use Rattle.model.specs.Serve.{Served, judged_with, judged, served, serve}
use Rattle.model.specs.Listing.{line}
use Rattle.model.specs.declared.Answer.{Answer}
use Rattle.model.specs.declared.Answer.TheVariants.{Refused}
use Rattle.model.specs.declared.Verdict.{Verdict}
use Rattle.laws.proofs.Bools.{not_true}
use Rattle.service.specs.Serves.{Serves}
use Rattle.service.proofs.Demands.{answer_is, taken_is}
use Rattle.service.proofs.Verdicts.{serve_takes}
use Rattle.invariants.proofs.Records.{whole, whole_taken}
use Rattle.listing.specs.declared.Step.TheVariants.{Over, More, Full, Line, Last}
use Rattle.lines.specs.Puts.{Puts}
use Rattle.listing.specs.Steps.{longest_line, last_place, stepped, over_front, line_step, listed, next_line}
use Rattle.listing.proofs.Nexts.{next_over, next_nothing_yet, next_full, next_more, next_listed}
use Rattle.lines.proofs.Runs.{puts_front}
use Rattle.lines.proofs.LineBytes.{line_length}

-- WHAT IS SERVED

-- what is too short is answered 17, nothing is taken and no word is changed
pub serve_short : (w s : List ℕ) → short s ≡ true → serve w s ≡ record { answer = Refused 17; taken = 0; words = w }
unfolding serve judged judged_with served taken ◌>>◌
serve_short w s e = simp (e, taken, judged, judged_with)

-- nothing is taken just where the bytes are too short
taken_nothing : (s : List ℕ) → taken s ≡ 0 → short s ≡ true
unfolding asked
taken_nothing s e = go (short s) refl
  where
    go : (b : Bool) → short s ≡ b → short s ≡ true
    go true p = p
    go false p = let z : ⊥ = omega (arith, whole_taken (whole s p)) in absurd z

taken_something : (s : List ℕ) → (taken s ≡ 0 → ⊥) → short s ≡ false
unfolding taken
taken_something s f = go (short s) refl
  where
    go : (b : Bool) → short s ≡ b → short s ≡ false
    go true p = absurd (f (simp (p, taken)))
    go false p = p

-- no bytes, or some
is_empty : (s : List ℕ) → length s ≡ 0 → empty s ≡ true
unfolding empty
is_empty [] e = refl
is_empty (b ∷ s) e = let z : ⊥ = omega arith in absurd z

not_empty : (s : List ℕ) → (length s ≡ 0 → ⊥) → empty s ≡ false
unfolding empty
not_empty [] f = absurd (f refl)
not_empty (b ∷ s) f = refl

-- what `is_empty` answers
pub none_left : (s : List ℕ) → true ≡ eqb (length s) 0 → length s ≡ 0
none_left s e = eqb-true (length s) 0 (sym e)

pub some_left : (s : List ℕ) → false ≡ eqb (length s) 0 → length s ≡ 0 → ⊥
some_left s e = eqb-false (length s) 0 (sym e)

-- a destination with room for the longest line has room for every line
pub room_for_line : (place : ℕ) (a : Answer) {size : ℕ} → longest_line ≤ size → length (line place a) ≤ size
room_for_line place a h = omega (arith, line_length place a)

-- THE STEP

-- a verdict, words and a destination that are those of what was served
same_listed : (b : Bool) (place : ℕ) (out : List ℕ) {r : Verdict} {v : List ℕ} {l : ℕ} {o : List ℕ} (x : Served) → r.taken ≡ x.taken
    → r.answer ≡ x.answer → v ≡ x.words → l ≡ length (line place r.answer) → o ≡ over_front (line place r.answer) out
    → stepped (line_step (b || eqb place last_place) r.taken l) v o ≡ listed b place out x
unfolding listed
same_listed b place out x p q e f g = rw (g, f, e, p, q)

module _ (w s : List ℕ) (last : Bool) (place : ℕ) (out : List ℕ) where
  pub step_over : length s ≡ 0 → last ≡ true → stepped Over w out ≡ next_line w s last place out
  step_over e p = sym (next_over w s last place out (is_empty s e) p)

  pub step_nothing_yet : length s ≡ 0 → last ≡ false → stepped More w out ≡ next_line w s last place out
  step_nothing_yet e p = sym (next_nothing_yet w s last place out (is_empty s e) p)

  pub step_full : (length s ≡ 0 → ⊥) → length out < longest_line → stepped Full w out ≡ next_line w s last place out
  step_full f h = sym (next_full w s last place out (not_empty s f) h)

  -- bytes and room are there
  module _ (f : length s ≡ 0 → ⊥) (h : longest_line ≤ length out) where
    -- and the service's verdict
    module _ {r : Verdict} {v : List ℕ} (served : Serves w s r v) where
      same_taken : r.taken ≡ taken s
      same_taken = taken_is served ∙ serve_takes w s

      pub step_too_short_yet : r.taken ≡ 0 → not last ≡ true → stepped More v out ≡ next_line w s last place out
      step_too_short_yet e p =
          let q = taken_nothing s (sym same_taken ∙ e) in
          ap (λ l. stepped More l out) (served.words ∙ ap (λ o. o.words) (serve_short w s q)) ∙ sym (next_more w s last place out (not_empty s f) h q (not_true last p))

      -- and the line that was written
      module _ {l : ℕ} {o : List ℕ} (put : Puts out 0 (line place r.answer) l o) where
        written : o ≡ over_front (line place r.answer) out
        unfolding over_front
        written = puts_front (omega (arith, line_length place r.answer)) put

        line_listed : (b : Bool) → short s ≡ b → (b && not last) ≡ false
            → stepped (line_step (b || eqb place last_place) r.taken l) v o ≡ next_line w s last place out
        line_listed b p q =
            same_listed b place out (serve w s) (taken_is served) (answer_is served) served.words (omega (arith, put.end_is)) written
            ∙ ap (λ c. listed c place out (serve w s)) (sym p)
            ∙ sym (next_listed w s last place out (not_empty s f) h (rw p q))

        pub step_short_line : r.taken ≡ 0 → not last ≡ false → stepped (Last l) v o ≡ next_line w s last place out
        unfolding line_step
        step_short_line e p = line_listed true (taken_nothing s (sym same_taken ∙ e)) (simp p)

        pub step_last_line : (r.taken ≡ 0 → ⊥) → place ≡ last_place → stepped (Last l) v o ≡ next_line w s last place out
        unfolding line_step
        step_last_line g e =
            let q = line_listed false (taken_something s (λ z. g (same_taken ∙ z))) refl in
            rw (eq-eqb place last_place e) at q

        pub step_line : (r.taken ≡ 0 → ⊥) → (place ≡ last_place → ⊥) → stepped (Line r.taken l) v o ≡ next_line w s last place out
        unfolding line_step
        step_line g e =
            let q = line_listed false (taken_something s (λ z. g (same_taken ∙ z))) refl in
            rw (ne_eqb place last_place e) at q
