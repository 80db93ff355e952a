-- What the stores of a goal come to: place after place, and from the first word to the last. Assumes nothing.
use mathlib.Core.Path.{◌≡◌, refl, sym, ap, ◌∙◌}
use mathlib.Core.List.{List, [], ◌∷◌, ◌++◌, append_assoc}
use Prim.Native.Nat.{ℕ, zero, suc, ◌+◌, ◌*◌, ◌≤◌, ◌<◌}
use native.Mathlib.Omega.{arith}
use native.Mathlib.Nat.{add-zero}
use native.Mathlib.Numerals.{add-one}
use lib.ListN.{length, get_or, set, take, drop, length-append, drop_of_length-le}
use lib.Seq.{sets, sets-eq}
use borrow.Rule.Slice.PartMut.{put_mid}
use Rattle.std.proofs.lemmas.List.Edits.{paste_all}
use Rattle.std.proofs.lemmas.Slice.{put_mid-paste}
use Rattle.model.specs.Lists.{joined}
use Rattle.laws.proofs.Pieces.{sets_whole, joined_length}
use Rattle.goals.specs.declared.Place.{Place}
use Rattle.goals.specs.Goals.{blank}
use Rattle.walk_told.specs.Arrivals.{goal_size, place_size, most_elements, elements_at, place_words}

-- two runs of stores, one behind the other, are one run
pub sets_append : {A : Type 0} (l : List A) (i : ℕ) (xs ys : List A) → sets l i (xs ++ ys) ≡ sets (sets l i xs) (i + length xs) ys
sets_append l i [] ys = ap (λ n. sets l n ys) (sym (add-zero i))
sets_append l i (x ∷ xs) ys =
    let n : suc i + length xs ≡ i + suc (length xs) = omega arith in
    sets_append (set l i x) (suc i) xs ys ∙ ap (λ m. sets (sets (set l i x) (suc i) xs) m ys) n

pub places_wide : (q : Place) → length (place_words q) ≡ place_size
unfolding place_words
places_wide q = refl

-- five words copied into their part of the goal
pub place_stored : (l : List ℕ) (at : ℕ) (q : Place) (k : ℕ) {part : List ℕ} → length l ≡ goal_size → at + place_size ≤ goal_size → k ≡ place_size → part ≡ place_words q
    → put_mid at k l part ≡ sets l at (place_words q)
place_stored l at q k long inside five e =
    let wide = places_wide q in
    put_mid-paste at k l _ (place_words q) (length (place_words q)) e (wide ∙ sym five) refl
    ∙ paste_all l at (place_words q) (length (place_words q)) refl
    ∙ sym (append_assoc (take at l) (place_words q) (drop (at + length (place_words q)) l))
    ∙ sym (sets-eq (place_words q) l at (omega arith))

-- A LOOP THAT STORES places: what is left to store gives the whole

rest_joined : (qs : List Place) (k : ℕ) → k < length qs → joined place_words (drop k qs) ≡ place_words (get_or qs k blank) ++ joined place_words (drop (suc k) qs)
unfolding joined
rest_joined [] k h = absurd (omega arith)
rest_joined (q ∷ qs) zero h = refl
rest_joined (q ∷ qs) (suc k) h = rest_joined qs k (omega arith)

pub places_onward : (out : List ℕ) (qs : List Place) (k : ℕ) {v u : List ℕ} → k < length qs
    → u ≡ sets out (elements_at + k * place_size) (place_words (get_or qs k blank)) → sets out (elements_at + k * place_size) (joined place_words (drop k qs)) ≡ v
    → sets u (elements_at + (k + 1) * place_size) (joined place_words (drop (k + 1) qs)) ≡ v
places_onward out qs k h e inv =
    let n : elements_at + (k + 1) * place_size ≡ elements_at + k * place_size + length (place_words (get_or qs k blank)) = omega (arith, places_wide (get_or qs k blank)) in
    let here = place_words (get_or qs k blank) in
    let behind = joined place_words (drop (suc k) qs) in
    rw (e, n, add-one k) (sym (sets_append out (elements_at + k * place_size) here behind) ∙ sym (ap (sets out (elements_at + k * place_size)) (rest_joined qs k h)) ∙ inv)

pub places_done : (out : List ℕ) (qs : List Place) (k : ℕ) {v : List ℕ} → length qs ≤ k → sets out (elements_at + k * place_size) (joined place_words (drop k qs)) ≡ v → out ≡ v
unfolding joined
places_done out qs k h inv = sym (ap (λ r. sets out (elements_at + k * place_size) (joined place_words r)) (drop_of_length-le qs h)) ∙ inv

-- THE WHOLE GOAL

pub goal_stored : (l : List ℕ) (n : ℕ) (q : Place) (qs : List Place) {u v : List ℕ} → length l ≡ goal_size → length qs ≡ most_elements
    → u ≡ sets (set l 0 n) 1 (place_words q) → v ≡ sets u elements_at (joined place_words qs) → v ≡ n ∷ place_words q ++ joined place_words qs
goal_stored l n q qs long eight e f =
    let wide : elements_at ≡ 1 + length (place_words q) = omega (arith, places_wide q) in
    let whole : length (n ∷ place_words q ++ joined place_words qs) ≡ length l
    = simp length-append (omega (arith, places_wide q, joined_length place_words place_size places_wide qs)) in
    f ∙ ap (λ (x : List ℕ). sets x elements_at (joined place_words qs)) e
    ∙ ap (λ (m : ℕ). sets (sets (set l 0 n) 1 (place_words q)) m (joined place_words qs)) wide
    ∙ sym (sets_append (set l 0 n) 1 (place_words q) (joined place_words qs))
    ∙ sets_whole l (n ∷ place_words q ++ joined place_words qs) whole
