-- A part of the input, line after line: what was done and what the rest gives are together what the whole gives. Assumes nothing.
use mathlib.Core.Path.{◌≡◌, refl, sym, ap, ◌∙◌}
use mathlib.Core.Bool.{Bool}
use mathlib.Core.List.{List, ◌++◌, append-nil, append_assoc}
use Prim.Native.Nat.{ℕ, zero, suc, ◌+◌, ◌-◌, ◌≤◌, ◌<◌}
use native.Mathlib.Omega.{arith}
use lib.ListN.{length, take, drop, take-append-drop, length-append, length-drop, drop_of_length-le}
use lib.Seq.{take_all, length-take-le, take-append-add, drop-append-add, drop-drop}
use native.Mathlib.Numerals.{add-one}
use borrow.Rule.Slice.PartMut.{put_mid}
use Rattle.listing.specs.declared.Step.{Step}
use Rattle.listing.specs.declared.Step.TheVariants as step
use Rattle.listing.specs.declared.Stop.{Stop}
use Rattle.listing.specs.declared.Stop.TheVariants as stop
use Rattle.listing.specs.Steps.{last_place, stepped, next_line}
use Rattle.listing.specs.Parts.{Filled, filled, no_line, behind, filled_by, fill, list_part}
use Rattle.listing.proofs.StepFacts.{LineFacts, Fact, answer_facts}

-- what holds between two lines: `from` bytes are taken and `at` bytes are written
pub record Onward (w₀ s : List ℕ) (last : Bool) (place₀ : ℕ) (out₀ w out : List ℕ) (from at place : ℕ) : Type 0 where
  pub from_there : from ≤ length s
  pub at_there : at ≤ length out
  pub place_there : place ≤ last_place
  pub words_long : length w ≡ length w₀
  pub out_long : length out ≡ length out₀
  pub onward : behind from (take at out) (list_part last w (drop from s) place (drop at out)) ≡ list_part last w₀ s place₀ out₀

-- PARTS OF A LIST THAT REACH ITS END

pub tail_part : (a : ℕ) (xs : List ℕ) → a ≤ length xs → take (length xs - a) (drop a xs) ≡ drop a xs
tail_part a xs h = take_all (length xs - a) (drop a xs) (simp length-drop (omega arith))

pub put_tail : (a : ℕ) (xs ys : List ℕ) → a ≤ length xs → put_mid a (length xs - a) xs ys ≡ take a xs ++ ys
put_tail a xs ys h =
    let k : length (drop a xs) ≤ length xs - a = simp length-drop (omega arith) in
    ap (λ l. take a xs ++ l) (ap (λ l. ys ++ l) (drop_of_length-le (drop a xs) k) ∙ append-nil ys)

module _ (xs ys : List ℕ) {n : ℕ} (l : ℕ) (e : length xs ≡ n) where
  take_behind : take (n + l) (xs ++ ys) ≡ xs ++ take l ys
  take_behind = rw (sym e) (take-append-add xs ys l)

  drop_behind : drop (n + l) (xs ++ ys) ≡ drop l ys
  drop_behind = rw (sym e) (drop-append-add xs ys l)

-- STEPS THAT ARE ENOUGH

-- a step that answered a line took a byte or more
fewer_left : (w s : List ℕ) (last : Bool) (place : ℕ) (out : List ℕ) {n t l : ℕ} → (next_line w s last place out).step ≡ step.Line t l
    → length s < suc n → length (drop t s) < n
unfolding Fact
fewer_left w s last place out {n} {t} e h =
    let f : LineFacts s place out t _ = answer_facts w s last place out refl e in simp length-drop (omega (arith, f.takes_some, f.takes_there))

-- what two ways to go on have alike
alike : (on on' : List ℕ → List ℕ → ℕ → List ℕ → Filled) (last : Bool) (w s : List ℕ) (place : ℕ) (out : List ℕ) (r : Step)
    → (next_line w s last place out).step ≡ r
    → ((t l : ℕ) → (next_line w s last place out).step ≡ step.Line t l → (v : List ℕ) (p : ℕ) (o : List ℕ) → on v (drop t s) p o ≡ on' v (drop t s) p o)
    → filled_by on s place (next_line w s last place out).words (next_line w s last place out).out r
    ≡ filled_by on' s place (next_line w s last place out).words (next_line w s last place out).out r
unfolding filled_by
alike on on' last w s place out step.Over e rest = refl
alike on on' last w s place out step.More e rest = refl
alike on on' last w s place out step.Full e rest = refl
alike on on' last w s place out (step.Last l) e rest = refl
alike on on' last w s place out (step.Line t l) e rest =
    let o = (next_line w s last place out).out in
    ap (behind t (take l o)) (rest t l e (next_line w s last place out).words (suc place) (drop l o))

-- more steps than bytes change nothing
enough : (n m : ℕ) (last : Bool) (w s : List ℕ) (place : ℕ) (out : List ℕ) → length s < n → length s < m
    → fill n last w s place out ≡ fill m last w s place out
unfolding fill
enough zero m last w s place out h k = let z : ⊥ = omega arith in absurd z
enough (suc n) zero last w s place out h k = let z : ⊥ = omega arith in absurd z
enough (suc n) (suc m) last w s place out h k =
    alike (fill n last) (fill m last) last w s place out (next_line w s last place out).step refl
    (λ t l e v p o. enough n m last v (drop t s) p o (fewer_left w s last place out e h) (fewer_left w s last place out e k))

-- WHAT WAS DONE BEFORE

-- answers with the same numbers and destinations are the same
same_filled : {t t' l l' p : ℕ} {why : Stop} {w o o' : List ℕ} → t ≡ t' → l ≡ l' → o ≡ o'
    → filled (record { taken = t; length = l; place = p; stop = why }) w o
    ≡ filled (record { taken = t'; length = l'; place = p; stop = why }) w o'
same_filled a b c = rw (a, b, c)

behind_both : (t t' : ℕ) (x y : List ℕ) (z : Filled) → behind t x (behind t' y z) ≡ behind (t + t') (x ++ y) z
unfolding behind
behind_both t t' x y z =
    same_filled (omega arith) (let e = length-append x y in omega arith) (sym (append_assoc x y z.out))

-- nothing was done yet
pub onward_first : (w s : List ℕ) (last : Bool) (place : ℕ) (out : List ℕ) → place ≤ last_place → Onward w s last place out w out 0 0 place
unfolding behind
onward_first w s last place out h =
    record {
      from_there = omega arith;
      at_there = omega arith;
      place_there = h;
      words_long = refl;
      out_long = refl;
      onward = same_filled (omega arith) (omega arith) refl;
    }

module _ {w₀ s : List ℕ} {last : Bool} {place₀ : ℕ} {out₀ w out : List ℕ} {from at place : ℕ}
    (i : Onward w₀ s last place₀ out₀ w out from at place) {r : Step} {v o : List ℕ}
    (e : stepped r v o ≡ next_line w (take (length s - from) (drop from s)) last place (take (length out - at) (drop at out))) where
  step_there : stepped r v o ≡ next_line w (drop from s) last place (drop at out)
  step_there = rw (tail_part from s i.from_there, tail_part at out i.at_there) at e

  done : behind from (take at out) (filled_by (fill (length (drop from s)) last) (drop from s) place v o r)
      ≡ list_part last w₀ s place₀ out₀
  unfolding list_part fill
  done =
      ap (λ x. behind from (take at out)
      (filled_by (fill (length (drop from s)) last) (drop from s) place x.words x.out x.step)) step_there
      ∙ i.onward

  part_long : length o ≡ length (take (length out - at) (drop at out)) → length o ≡ length (drop at out)
  part_long k = k ∙ ap length (tail_part at out i.at_there)

  -- the lengths stay
  pub still_long : length v ≡ length w → length v ≡ length w₀
  still_long k = k ∙ i.words_long

  pub out_still_long : length o ≡ length (take (length out - at) (drop at out)) → length (put_mid at (length out - at) out o) ≡ length out₀
  out_still_long k =
      rw (put_tail at out o i.at_there)
      (length-append (take at out) o
      ∙ omega (arith, part_long k, length-take-le at out i.at_there, length-drop at out, i.at_there, i.out_long))

  -- no line: the part ends here
  stops : (why : Stop) → filled_by (fill (length (drop from s)) last) (drop from s) place v o r ≡ no_line place why v o
      → filled (record { taken = from; length = at; place = place; stop = why }) v (put_mid at (length out - at) out o)
      ≡ list_part last w₀ s place₀ out₀
  unfolding behind no_line
  stops why h =
      same_filled (omega arith) (let l = length-take-le at out i.at_there in omega arith) (put_tail at out o i.at_there)
      ∙ ap (behind from (take at out)) (sym h)
      ∙ done

  pub stops_over : r ≡ step.Over
      → filled (record { taken = from; length = at; place = place; stop = stop.Over }) v (put_mid at (length out - at) out o)
      ≡ list_part last w₀ s place₀ out₀
  unfolding filled_by
  stops_over q = stops stop.Over (rw q)

  pub stops_more : r ≡ step.More
      → filled (record { taken = from; length = at; place = place; stop = stop.More }) v (put_mid at (length out - at) out o)
      ≡ list_part last w₀ s place₀ out₀
  unfolding filled_by
  stops_more q = stops stop.More (rw q)

  pub stops_full : r ≡ step.Full
      → filled (record { taken = from; length = at; place = place; stop = stop.Full }) v (put_mid at (length out - at) out o)
      ≡ list_part last w₀ s place₀ out₀
  unfolding filled_by
  stops_full q = stops stop.Full (rw q)

  -- the last line
  module _ {l : ℕ} (q : r ≡ step.Last l) (k : length o ≡ length (take (length out - at) (drop at out))) where
    last_fits : l ≤ length o
    unfolding Fact
    last_fits = let f : l ≤ length (drop at out) = answer_facts w (drop from s) last place (drop at out) step_there q in omega (arith, part_long k)

    pub last_room : at + l ≤ length out
    last_room = omega (arith, last_fits, part_long k, length-drop at out, i.at_there)

    pub stops_last : filled (record { taken = from; length = at + l; place = place; stop = stop.Over }) v (put_mid at (length out - at) out o)
        ≡ list_part last w₀ s place₀ out₀
    unfolding filled_by behind no_line
    stops_last =
        same_filled (omega arith)
        (let a = length-take-le at out i.at_there in let b = length-take-le l o last_fits in omega arith)
        (put_tail at out o i.at_there ∙ ap (λ x. take at out ++ x) (sym (take-append-drop l o)))
        ∙ ap (λ x. behind from (take at out) (filled_by (fill (length (drop from s)) last) (drop from s) place v o x)) (sym q)
        ∙ done

  -- a line that others may follow
  module _ {t l : ℕ} (q : r ≡ step.Line t l) where
    facts : LineFacts (drop from s) place (drop at out) t l
    unfolding Fact
    facts = answer_facts w (drop from s) last place (drop at out) step_there q

    pub line_taken : from + t ≤ length s
    line_taken = omega (arith, facts.takes_there, length-drop from s, i.from_there)

    pub line_room : at + l ≤ length out
    line_room = omega (arith, facts.fits_out, length-drop at out, i.at_there)

    pub line_place : place + 1 ≤ last_place
    line_place = omega (arith, facts.place_left, i.place_there)

    pub line_less : length s - (from + t) < length s - from
    line_less = omega (arith, facts.takes_some, line_taken)

    pub goes_on : length v ≡ length w → length o ≡ length (take (length out - at) (drop at out))
        → Onward w₀ s last place₀ out₀ v (put_mid at (length out - at) out o) (from + t) (at + l) (place + 1)
    unfolding filled_by list_part
    goes_on j k =
        let p = put_tail at out o i.at_there in
        let a = length-take-le at out i.at_there in
        let long : length (take at out ++ o) ≡ length out = omega (arith, part_long k, length-append (take at out) o, length-drop at out, i.at_there) in
        let n = length (drop from s) in
        let tk : take (at + l) (take at out ++ o) ≡ take at out ++ take l o = take_behind (take at out) o l a in
        let dr : drop (at + l) (take at out ++ o) ≡ drop l o = drop_behind (take at out) o l a in
        let fewer : length (drop t (drop from s)) < n = omega (arith, length-drop t (drop from s), facts.takes_some, facts.takes_there) in
        record {
          from_there = line_taken;
          at_there = rw p (omega (arith, line_room));
          place_there = line_place;
          words_long = j ∙ i.words_long;
          out_long = rw p (long ∙ i.out_long);
          onward =
              rw (p, tk, dr, ← drop-drop t from s, add-one place)
              (sym (behind_both from t (take at out) (take l o) _)
              ∙ ap (λ x. behind from (take at out) (behind t (take l o) x)) (enough _ n last v (drop t (drop from s)) (suc place) (drop l o) (omega arith) fewer)
              ∙ ap (λ x. behind from (take at out) (filled_by (fill n last) (drop from s) place v o x)) (sym q)
              ∙ done);
        }
