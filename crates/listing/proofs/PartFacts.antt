-- What a caller of `list_part` relies on: the bytes taken are there, and the lines fit the destination. Assumes nothing.
use mathlib.Core.Path.{◌≡◌, refl, sym, ap, subst, ◌∙◌}
use mathlib.Core.Bool.{Bool, true, false, not, ◌&&◌}
use mathlib.Core.List.{List}
use Prim.Native.Nat.{ℕ, zero, suc, ◌≤◌}
use native.Mathlib.Omega.{arith}
use borrow.Author.Tests.{ltb-true, ltb-false}
use lib.Dec.{ltb}
use lib.ListN.{length, drop, length-append, length-take, length-drop}
use Rattle.model.specs.Lists.{empty}
use Rattle.model.specs.Records.{short}
use Rattle.model.specs.Serve.{serve}
use Rattle.model.specs.Listing.{line}
use Rattle.laws.proofs.Bools.{and_left, and_right, not_true}
use Rattle.listing.specs.declared.Step.{Step}
use Rattle.listing.specs.declared.Step.TheVariants as step
use Rattle.listing.specs.declared.Part.{Part}
use Rattle.listing.specs.Steps.{longest_line, over_front, listed, next_line}
use Rattle.listing.specs.Parts.{Filled, filled, no_line, behind, filled_by, fill, list_part}
use Rattle.lines.proofs.LineBytes.{line_length}
use Rattle.listing.proofs.Nexts.{next_over, next_nothing_yet, next_full, next_more, next_listed}
use Rattle.listing.proofs.StepFacts.{LineFacts, Fact, answer_facts}

-- a step leaves the destination as long as it was
module _ (w s : List ℕ) (last : Bool) (place : ℕ) (out : List ℕ) where
  listed_long : longest_line ≤ length out → length (listed (short s) place out (serve w s)).out ≡ length out
  unfolding listed over_front
  listed_long h =
      let text = line place (serve w s).answer in
      length-append text (drop (length text) out)
      ∙ omega (arith, length-drop (length text) out, line_length place (serve w s).answer)

  step_long : length (next_line w s last place out).out ≡ length out
  step_long = go (empty s) refl last refl (ltb (length out) longest_line) refl (short s && not last) refl
    where
      go : (a : Bool) → empty s ≡ a → (b : Bool) → last ≡ b → (c : Bool) → ltb (length out) longest_line ≡ c → (d : Bool)
          → (short s && not last) ≡ d → length (next_line w s last place out).out ≡ length out
      go true e true l c h d q = rw (next_over w s last place out e l)
      go true e false l c h d q = rw (next_nothing_yet w s last place out e l)
      go false e b l true h d q = rw (next_full w s last place out e (ltb-true (length out) longest_line h))
      go false e b l false h true q =
          rw (next_more w s last place out e (ltb-false (length out) longest_line h) (and_left (short s) (not last) q)
          (not_true last (and_right (short s) (not last) q)))
      go false e b l false h false q =
          let f = ltb-false (length out) longest_line h in rw (next_listed w s last place out e f q) (listed_long f)

-- what is answered of a part
pub record PartFacts (s out : List ℕ) (r : Part) : Type 0 where
  pub takes_there : r.taken ≤ length s
  pub fits_out : r.length ≤ length out

-- of what a step answered, and of what goes on after a line
by_step : (on : List ℕ → List ℕ → ℕ → List ℕ → Filled) (last : Bool) (w s : List ℕ) (place : ℕ) (out : List ℕ) (r : Step)
    → (next_line w s last place out).step ≡ r → ((v t : List ℕ) (p : ℕ) (o : List ℕ) → PartFacts t o (on v t p o).part)
    → PartFacts s out (filled_by on s place (next_line w s last place out).words (next_line w s last place out).out r).part
unfolding filled_by no_line behind Fact
by_step on last w s place out step.Over e rest = record { takes_there = omega arith; fits_out = omega arith }
by_step on last w s place out step.More e rest = record { takes_there = omega arith; fits_out = omega arith }
by_step on last w s place out step.Full e rest = record { takes_there = omega arith; fits_out = omega arith }
by_step on last w s place out (step.Last l) e rest =
    let f : l ≤ length out = answer_facts w s last place out refl e in
    record { takes_there = omega arith; fits_out = omega (arith, length-take l (next_line w s last place out).out) }
by_step on last w s place out (step.Line t l) e rest =
    let f : LineFacts s place out t l = answer_facts w s last place out refl e in
    let o = (next_line w s last place out).out in
    let g = rest (next_line w s last place out).words (drop t s) (suc place) (drop l o) in
    record {
      takes_there = omega (arith, f.takes_there, g.takes_there, length-drop t s);
      fits_out = omega (arith, f.fits_out, g.fits_out, length-drop l o, length-take l o, step_long w s last place out);
    }

fill_facts : (n : ℕ) (last : Bool) (w s : List ℕ) (place : ℕ) (out : List ℕ) → PartFacts s out (fill n last w s place out).part
unfolding fill no_line
fill_facts zero last w s place out = record { takes_there = omega arith; fits_out = omega arith }
fill_facts (suc n) last w s place out =
    by_step (fill n last) last w s place out (next_line w s last place out).step refl (fill_facts n last)

pub part_facts : (last : Bool) (w s : List ℕ) (place : ℕ) (out : List ℕ) → PartFacts s out (list_part last w s place out).part
unfolding list_part
part_facts last w s place out = fill_facts (suc (length s)) last w s place out

-- the same of an answer that is the part's
pub answered_facts : (last : Bool) (w s : List ℕ) (place : ℕ) (out : List ℕ) {r : Part} {v o : List ℕ}
    → filled r v o ≡ list_part last w s place out → PartFacts s out r
answered_facts last w s place out e = subst (PartFacts s out) (sym (ap (λ x. x.part) e)) (part_facts last w s place out)
