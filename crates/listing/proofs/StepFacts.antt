-- What a caller of the step relies on: a line takes bytes that are there, fits the destination and is not at the last place; more bytes are
-- asked for only where fewer than the longest record are there. Assumes nothing.
use mathlib.Core.Path.{◌≡◌, refl, sym, ap, subst, ◌∙◌}
use mathlib.Core.Bool.{Bool, true, false, not, ◌&&◌, ◌||◌}
use mathlib.Core.List.{List, [], ◌∷◌}
use Prim.Native.Nat.{ℕ, ◌≤◌, ◌<◌}
use native.Mathlib.Omega.{arith}
use borrow.Author.Tests.{ltb-true, ltb-false, eqb-false}
use lib.Dec.{eqb, ltb}
use lib.ListN.{length}
use Rattle.model.specs.Lists.{empty}
use Rattle.model.specs.Words.{bits}
use Rattle.model.specs.Records.{asked, short, taken}
use Rattle.model.specs.Serve.{serve}
use Rattle.model.specs.Listing.{line}
use Rattle.laws.proofs.Bools.{clash, and_left, and_right, not_true}
use Rattle.laws.proofs.Choices.{chosen}
use Rattle.invariants.proofs.Records.{whole, whole_taken, taken_there}
use Rattle.listing.specs.declared.Step.{Step}
use Rattle.listing.specs.declared.Step.TheVariants.{Over, More, Full, Line, Last}
use Rattle.listing.specs.Steps.{longest_line, last_place, stepped, line_step, listed, next_line}
use Rattle.listing.proofs.Nexts.{next_over, next_nothing_yet, next_full, next_more, next_listed}
use Rattle.lines.proofs.LineBytes.{line_length}
use Rattle.service.proofs.Verdicts.{serve_takes}

-- a line that others may follow
pub record LineFacts (s : List ℕ) (place : ℕ) (out : List ℕ) (taken length_of : ℕ) : Type 0 where
  pub takes_some : 1 ≤ taken
  pub takes_there : taken ≤ length s
  pub fits_out : length_of ≤ length out
  pub place_left : place ≡ last_place → ⊥

-- the longest record: seven bytes and two paths of 255
abbrev pub longest_record : ℕ
longest_record = 517

-- what each answer says of the bytes, the place and the destination
unfoldable pub Fact : List ℕ → ℕ → List ℕ → Step → Type 0
Fact s place out Over = Unit
Fact s place out More = length s < longest_record
Fact s place out Full = length out < longest_line
Fact s place out (Line taken length_of) = LineFacts s place out taken length_of
Fact s place out (Last length_of) = length_of ≤ length out

-- a head asks for at most 255 bytes for each path
asks_little : (s : List ℕ) → short s ≡ true → length s < longest_record
unfolding short asked bits
asks_little s =
    chosen (λ b. b ≡ true → length s < longest_record) (ltb (length s) 7) _ _ (λ q e. omega (arith, ltb-true (length s) 7 q))
    (λ q e. omega (arith, ltb-true (length s) (asked s) e))

few_bytes : (s : List ℕ) → empty s ≡ true → length s < longest_record
unfolding empty
few_bytes [] e = omega arith
few_bytes (b ∷ s) e = clash e refl

module _ (w s : List ℕ) (last : Bool) (place : ℕ) (out : List ℕ) where
  line_facts : longest_line ≤ length out → Fact s place out (listed (short s) place out (serve w s)).step
  unfolding Fact listed line_step asked
  line_facts h = go (short s) refl (eqb place last_place) refl
    where
      go : (b : Bool) → short s ≡ b → (d : Bool) → eqb place last_place ≡ d
          → Fact s place out (line_step (short s || eqb place last_place) (serve w s).taken (length (line place (serve w s).answer)))
      go true q d p = rw q (omega (arith, line_length place (serve w s).answer))
      go false q true p = rw (q, p) (omega (arith, line_length place (serve w s).answer))
      go false q false p =
          rw (q, p)
          (record {
            takes_some = omega (arith, serve_takes w s, whole_taken (whole s q));
            takes_there = omega (arith, serve_takes w s, taken_there (whole s q));
            fits_out = omega (arith, line_length place (serve w s).answer);
            place_left = eqb-false place last_place p;
          })

  pub step_facts : Fact s place out (next_line w s last place out).step
  unfolding Fact
  step_facts = go (empty s) refl last refl (ltb (length out) longest_line) refl (short s && not last) refl
    where
      go : (a : Bool) → empty s ≡ a → (b : Bool) → last ≡ b → (c : Bool) → ltb (length out) longest_line ≡ c → (d : Bool)
          → (short s && not last) ≡ d → Fact s place out (next_line w s last place out).step
      go true e true l c h d q = rw (next_over w s last place out e l) tt
      go true e false l c h d q = rw (next_nothing_yet w s last place out e l) (few_bytes s e)
      go false e b l true h d q = let f = ltb-true (length out) longest_line h in rw (next_full w s last place out e f) f
      go false e b l false h true q =
          rw (next_more w s last place out e (ltb-false (length out) longest_line h) (and_left (short s) (not last) q)
          (not_true last (and_right (short s) (not last) q)))
          (asks_little s (and_left (short s) (not last) q))
      go false e b l false h false q =
          let f = ltb-false (length out) longest_line h in rw (next_listed w s last place out e f q) (line_facts f)

-- the same of an answer that is the step's
pub answer_facts : (w s : List ℕ) (last : Bool) (place : ℕ) (out : List ℕ) {r t : Step} {v o : List ℕ}
    → stepped r v o ≡ next_line w s last place out → r ≡ t → Fact s place out t
answer_facts w s last place out e f =
    subst (Fact s place out) (sym (ap (λ x. x.step) e) ∙ f) (step_facts w s last place out)
