-- A run goes on: what was done and what the records that are left give are together what the whole run gives. Assumes nothing.
use mathlib.Core.Path.{◌≡◌, refl, sym, ap, ap₂, ◌∙◌}
use mathlib.Core.Bool.{Bool, true, false}
use mathlib.Core.List.{List, [], ◌∷◌, ◌++◌, map, append_assoc}
use Prim.Native.Nat.{ℕ, zero, suc, ◌+◌, ◌-◌, ◌≤◌, ◌<◌}
use native.Mathlib.Omega.{arith}
use native.Mathlib.Numerals.{add-one}
use lib.ListN.{length, take, drop, set, length-append, length-drop, length-set, take-append-drop}
use lib.Seq.{length-take-le, take-length, drop-drop, drop-set-lt, take-suc-set}
use Rattle.model.specs.Lists.{joined}
use Rattle.model.specs.Records.{short, taken}
use Rattle.model.specs.Answers.{answer_slot}
use Rattle.model.specs.Serve.{serve, after, answers, whole_records, Ran, run}
use Rattle.model.specs.declared.Verdict.{Verdict}
use Rattle.invariants.proofs.Records.{whole, taken_there, serve_front}
use Rattle.index.specs.Indexed.{Index}
use Rattle.service.specs.Serves.{Serves}
use Rattle.service.proofs.Demands.{answer_is, taken_is}
use Rattle.service.proofs.Verdicts.{serve_takes}
use Rattle.runs.specs.Runs.{told_run}
use Rattle.runs.specs.Tested.{Tested}

-- THE RECORDS THAT ARE LEFT

pub no_more : (n : ℕ) (s : List ℕ) → short s ≡ true → whole_records n s ≡ []
unfolding whole_records
no_more zero s e = refl
no_more (suc n) s e = simp (e, whole_records)

pub one_more : (n : ℕ) (s : List ℕ) → short s ≡ false → whole_records (suc n) s ≡ take (taken s) s ∷ whole_records n (drop (taken s) s)
unfolding whole_records
one_more n s e = simp (e, whole_records)

-- the part of a slice from a place on
pub rest_of : (s : List ℕ) (n : ℕ) → take (length s - n) (drop n s) ≡ drop n s
rest_of s n = let l = length-drop n s in rw (← l) (take-length (drop n s))

-- WHAT IS DONE AND WHAT IS LEFT

-- so many records and bytes are done, these are left
unfoldable pub onward : ℕ → ℕ → List ℕ → List (List ℕ) → List ℕ → Ran
onward served taken w these slots =
    record {
      served = served + length these;
      taken = taken + length (joined (λ r. r) these);
      words = after w these;
      slots = take served slots ++ (map answer_slot (answers w these) ++ drop (served + length these) slots);
    }

onward_ends : (n at : ℕ) (w slots : List ℕ) → record { served = n; taken = at; words = w; slots = slots } ≡ onward n at w [] slots
unfolding onward after answers joined
onward_ends n at w slots =
    let more : n ≡ n + 0 = omega arith in
    let bytes : at ≡ at + 0 = omega arith in
    let all = sym (take-append-drop n slots) ∙ ap (λ (k : ℕ). take n slots ++ drop k slots) more in
    λ i. record { served = more i; taken = bytes i; words = w; slots = all i }

onward_starts : (w s slots : List ℕ) → onward 0 0 w (whole_records (length slots) s) slots ≡ run w s slots
unfolding onward run
onward_starts w s slots =
    let these = whole_records (length slots) s in
    let all : 0 + length these ≡ length these = omega arith in
    let bytes : 0 + length (joined (λ r. r) these) ≡ length (joined (λ r. r) these) = omega arith in
    λ i. record { served = all i; taken = bytes i; words = after w these; slots = map answer_slot (answers w these) ++ drop (all i) slots }

-- a slot is filled
slot_filled : (n k x : ℕ) (more slots : List ℕ) → n < length slots
    → take n slots ++ (x ∷ more ++ drop (n + suc k) slots) ≡ take (n + 1) (set slots n x) ++ (more ++ drop (n + 1 + k) (set slots n x))
slot_filled n k x more slots h =
    let count : n + suc k ≡ n + 1 + k = omega arith in
    let front : take (n + 1) (set slots n x) ≡ take n slots ++ (x ∷ []) = rw add-one (take-suc-set slots n x h) in
    let back : drop (n + 1 + k) (set slots n x) ≡ drop (n + 1 + k) slots = drop-set-lt (n + 1 + k) slots n x (omega arith) in
    ap (λ (j : ℕ). take n slots ++ (x ∷ more ++ drop j slots)) count
    ∙ sym (ap₂ (λ (l d : List ℕ). l ++ (more ++ d)) front back ∙ append_assoc (take n slots) (x ∷ []) (more ++ drop (n + 1 + k) slots))

onward_goes : (n at : ℕ) (w r : List ℕ) (these : List (List ℕ)) (slots : List ℕ) → n < length slots
    → onward n at w (r ∷ these) slots ≡ onward (n + 1) (at + length r) (serve w r).words these (set slots n (answer_slot (serve w r).answer))
unfolding onward after answers joined
onward_goes n at w r these slots h =
    let x = answer_slot (serve w r).answer in
    let count : n + suc (length these) ≡ n + 1 + length these = omega arith in
    let l = length-append r (joined (λ s. s) these) in
    let bytes : at + length (r ++ joined (λ s. s) these) ≡ at + length r + length (joined (λ s. s) these) = omega arith in
    let filled = slot_filled n (length these) x (map answer_slot (answers (serve w r).words these)) slots h in
    λ i. record { served = count i; taken = bytes i; words = after (serve w r).words these; slots = filled i }

-- THE LOOP

-- so many records and bytes are done; v, the index and the slots `filled` are what that left
pub record Going (w s slots v : List ℕ) (index : Index) (filled : List ℕ) (is_sound : Bool) (served at : ℕ) : Type 0 where
  pub tested : Tested v index is_sound
  pub words_long : length v ≡ length w
  pub slots_long : length filled ≡ length slots
  pub inside : at ≤ length s
  pub same : onward served at v (whole_records (length slots - served) (drop at s)) filled ≡ run w s slots

pub going_starts : {w s slots : List ℕ} {index : Index} {b : Bool} → Tested w index b → Going w s slots w index slots b 0 0
going_starts {w} {s} {slots} t =
    let all : length slots - 0 ≡ length slots = omega arith in
    record { tested = t; words_long = refl; slots_long = refl; inside = omega arith; same = rw all (onward_starts w s slots) }

module _ {w s slots v : List ℕ} {index : Index} {filled : List ℕ} {b : Bool} {n at : ℕ} (going : Going w s slots v index filled b n at) where
  pub stops_full : length filled ≤ n → told_run (record { served = n; taken = at }) v filled ≡ run w s slots
  unfolding whole_records
  stops_full h =
      let none : 0 ≡ length slots - n = omega (arith, going.slots_long) in
      onward_ends n at v filled ∙ ap (λ (k : ℕ). onward n at v (whole_records k (drop at s)) filled) none ∙ going.same

  -- no whole record is left
  pub stops_short : short (take (length s - at) (drop at s)) ≡ true → {u : List ℕ} → u ≡ v
      → told_run (record { served = n; taken = at }) u filled ≡ run w s slots
  stops_short e same =
      let none = rw (rest_of s at) at e in
      rw same
      (onward_ends n at v filled
      ∙ ap (λ (l : List (List ℕ)). onward n at v l filled) (sym (no_more (length slots - n) (drop at s) none))
      ∙ going.same)

  -- a whole record is left, and was served
  module _ (whole_part : short (take (length s - at) (drop at s)) ≡ false) {r : Verdict} {u : List ℕ} (part : Serves v (take (length s - at) (drop at s)) r u) where
    there : short (drop at s) ≡ false
    there = rw (rest_of s at) at whole_part

    serves : Serves v (drop at s) r u
    serves = rw (rest_of s at) at part

    takes : r.taken ≡ taken (drop at s)
    takes = taken_is serves ∙ serve_takes v (drop at s)

    pub next_within : at + r.taken ≤ length s
    next_within =
        let l = length-drop at s in
        let fits = taken_there (whole (drop at s) there) in
        omega (arith, going.inside, takes)

    pub goes_on : n < length filled → {index' : Index} {b' : Bool} → Tested u index' b' → length u ≡ length v → {slot : ℕ} → slot ≡ answer_slot r.answer
        → Going w s slots u index' (set filled n slot) b' (n + 1) (at + r.taken)
    goes_on h t long {slot} told =
        record {
          tested = t;
          words_long = long ∙ going.words_long;
          slots_long = length-set filled n slot ∙ going.slots_long;
          inside = next_within;
          same = sym step ∙ going.same;
        }
      where
        rest : List ℕ
        rest = drop at s

        front : List ℕ
        front = take (taken rest) rest

        gives : serve v front ≡ record { answer = r.answer; taken = r.taken; words = u }
        gives = sym (serve_front v rest there) ∙ λ i. record { answer = sym (answer_is serves) i; taken = sym (taken_is serves) i; words = sym serves.words i }

        long_front : length front ≡ r.taken
        long_front = length-take-le (taken rest) rest (taken_there (whole rest there)) ∙ sym takes

        behind : drop (taken rest) rest ≡ drop (at + r.taken) s
        behind = ap (λ (k : ℕ). drop k rest) (sym takes) ∙ drop-drop r.taken at s

        step : onward n at v (whole_records (length slots - n) rest) filled
            ≡ onward (n + 1) (at + r.taken) u (whole_records (length slots - (n + 1)) (drop (at + r.taken) s)) (set filled n slot)
        step =
            let room : length slots - n ≡ suc (length slots - (n + 1)) = omega (arith, going.slots_long) in
            ap (λ (k : ℕ). onward n at v (whole_records k rest) filled) room
            ∙ ap (λ (l : List (List ℕ)). onward n at v l filled) (one_more (length slots - (n + 1)) rest there)
            ∙ onward_goes n at v front (whole_records (length slots - (n + 1)) (drop (taken rest) rest)) filled h
            ∙ (λ i. onward (n + 1) (at + long_front i) (gives i).words (whole_records (length slots - (n + 1)) (behind i)) (set filled n (answer_slot (gives i).answer)))
            ∙ ap (λ (x : ℕ). onward (n + 1) (at + r.taken) u (whole_records (length slots - (n + 1)) (drop (at + r.taken) s)) (set filled n x)) (sym told)
