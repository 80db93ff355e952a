-- The text that bytes still give: nothing for none, a line for bytes that are too short, and for a whole record its line and then the text
-- that the rest gives. Assumes nothing.
use mathlib.Core.Path.{◌≡◌, refl, ap, ◌∙◌}
use mathlib.Core.Bool.{true, false}
use mathlib.Core.List.{List, [], ◌∷◌, ◌++◌, append-nil}
use Prim.Native.Nat.{ℕ, suc, ◌-◌, ◌≤◌}
use native.Mathlib.Omega.{arith}
use lib.ListN.{take, drop}
use lib.Seq.{take-nil, take-append-le, drop-append-le}
use Rattle.model.specs.Lists.{empty}
use Rattle.model.specs.Records.{short, taken}
use Rattle.model.specs.Serve.{serve, answers, records}
use Rattle.model.specs.Listing.{line, lines}
use Rattle.model.specs.declared.Answer.{Answer}
use Rattle.invariants.proofs.Records.{whole, whole_behind, behind, taken_there, serve_front}
use Rattle.invariants.proofs.Cuts.{records_of_nothing, records_of_short, records_of_whole}
use Rattle.listing.specs.Steps.{last_place}

-- how many places are left
abbrev pub left : ℕ → ℕ
left place = suc last_place - place

-- the lines of the records that bytes are, from a place on, as far as places reach
unfoldable pub rest : List ℕ → ℕ → List ℕ → List ℕ
rest w place s = lines place (take (left place) (answers w (records s)))

-- no line more
pub rest_of_nothing : (w : List ℕ) (place : ℕ) → rest w place [] ≡ []
unfolding rest answers lines
rest_of_nothing w place = rw (records_of_nothing, take-nil {A = Answer} (left place))

pub rest_past_places : (w s : List ℕ) → rest w (suc last_place) s ≡ []
unfolding rest lines
rest_past_places w s = refl

-- a line, and then the others
first_line : (place : ℕ) (a : Answer) (rest : List Answer) → place ≤ last_place
    → lines place (take (left place) (a ∷ rest)) ≡ line place a ++ lines (suc place) (take (left (suc place)) rest)
unfolding lines
first_line place a rest h = let e : left place ≡ suc (left (suc place)) = omega arith in rw e

pub rest_of_short : (w s : List ℕ) (place : ℕ) → place ≤ last_place → empty s ≡ false → short s ≡ true
    → rest w place s ≡ line place (serve w s).answer
unfolding rest answers lines
rest_of_short w s place h e q =
    rw (records_of_short s e q)
    (first_line place (serve w s).answer [] h
    ∙ ap (λ l. line place (serve w s).answer ++ lines (suc place) l) (take-nil (left (suc place)))
    ∙ append-nil (line place (serve w s).answer))

-- the first record is cut off before what comes behind it
records_behind : (s later : List ℕ) → short s ≡ false → records (s ++ later) ≡ take (taken s) s ∷ records (drop (taken s) s ++ later)
records_behind s later q =
    let w = whole s q in
    let same = (behind s later w).same_taken in
    let there = taken_there w in
    records_of_whole (s ++ later) (whole_behind s later w)
    ∙ rw (same, take-append-le (taken s) s later there, drop-append-le (taken s) s later there)

pub rest_of_whole : (w s later : List ℕ) (place : ℕ) → place ≤ last_place → short s ≡ false
    → rest w place (s ++ later)
    ≡ line place (serve w s).answer ++ rest (serve w s).words (suc place) (drop (taken s) s ++ later)
unfolding rest answers
rest_of_whole w s later place h q =
    rw (records_behind s later q, ← serve_front w s q)
    (first_line place (serve w s).answer (answers (serve w s).words (records (drop (taken s) s ++ later))) h)
