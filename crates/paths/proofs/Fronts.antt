-- Bytes that a name can have, in front of others: which parts they make, and whether these are all valid names. Assumes nothing.
use mathlib.Core.Path.{◌≡◌, refl, sym, ap, ◌∙◌}
use mathlib.Core.Bool.{true, false, not, ◌&&◌}
use mathlib.Core.List.{List, [], ◌∷◌, ◌++◌}
use Prim.Native.Nat.{ℕ, ◌+◌, ◌-◌, ◌≤◌, ◌<◌}
use native.Mathlib.Omega.{arith}
use native.Mathlib.Numerals.{add-one}
use lib.Dec.{eqb}
use lib.ListN.{length, get_or, take, drop, length-drop}
use lib.Seq.{drop-cons, drop-drop, get_or-drop, take_all}
use borrow.Author.Tests.{eq-eqb, ne_eqb}
use Rattle.std.proofs.lemmas.List.{take-append-drop, append-nil, take_more}
use Rattle.model.specs.Lists.{all}
use Rattle.model.specs.Paths.{slash, parts, name_byte, valid_name}
use Rattle.laws.proofs.Bools.{and_left, and_right, not_true, and_true}
use Rattle.paths.specs.Split.{first_part, right_length}
use Rattle.paths.proofs.Names.{name_apart}
use Rattle.paths.proofs.Parts.{slash_first, byte_first, parts_split}

-- a byte that a name can have is no slash
no_slash : (b : ℕ) → name_byte b ≡ true → eqb b slash ≡ false
unfolding name_byte
no_slash b e = not_true (eqb b slash) (and_right (not (eqb b 0)) (not (eqb b slash)) e)

-- such bytes belong to the first part of what stands behind them
front_joins : (f s part : List ℕ) (others : List (List ℕ)) → all name_byte f ≡ true → parts s ≡ part ∷ others
    → parts (f ++ s) ≡ (f ++ part) ∷ others
unfolding all
front_joins [] s part others h q = q
front_joins (b ∷ f) s part others h q =
    let here = and_left (name_byte b) (all name_byte f) h in
    let later = and_right (name_byte b) (all name_byte f) h in
    byte_first b (f ++ s) (f ++ part) others (no_slash b here) (front_joins f s part others later q)

front_bytes : (f s : List ℕ) → all name_byte f ≡ true → all name_byte (f ++ s) ≡ all name_byte s
unfolding all
front_bytes [] s h = refl
front_bytes (b ∷ f) s h =
    let here = and_left (name_byte b) (all name_byte f) h in
    let later = and_right (name_byte b) (all name_byte f) h in
    rw here (front_bytes f s later)

-- one such name alone
front_name : (f : List ℕ) → all name_byte f ≡ true → valid_name f ≡ right_length f
front_name f h = name_apart f ∙ rw h

front_ends : (f : List ℕ) → all name_byte f ≡ true → all valid_name (parts f) ≡ right_length f
unfolding all parts
front_ends f h =
    let whole : parts f ≡ f ∷ [] = rw append-nil at (front_joins f [] [] [] h refl) in
    ap (all valid_name) whole ∙ and_true (valid_name f) ∙ front_name f h

front_slash : (f s : List ℕ) (b : ℕ) → all name_byte f ≡ true → b ≡ slash
    → all valid_name (parts (f ++ b ∷ s)) ≡ (right_length f && all valid_name (parts s))
unfolding all
front_slash f s b h e =
    let whole : parts (f ++ b ∷ s) ≡ f ∷ parts s = rw append-nil at (front_joins f (b ∷ s) [] (parts s) h (slash_first b s (eq-eqb b slash e))) in
    ap (all valid_name) whole ∙ ap (λ t. t && all valid_name (parts s)) (front_name f h)

front_zero : (f s : List ℕ) (b : ℕ) → all name_byte f ≡ true → b ≡ 0 → all valid_name (parts (f ++ b ∷ s)) ≡ false
unfolding all name_byte
front_zero f s b h e =
    let own = byte_first b s _ _ (rw e refl) (parts_split s) in
    let whole = front_joins f (b ∷ s) _ _ h own in
    let wrong : all name_byte (f ++ b ∷ first_part s) ≡ false = front_bytes f (b ∷ first_part s) h ∙ rw e in
    let none : valid_name (f ++ b ∷ first_part s) ≡ false = rw wrong at (name_apart (f ++ b ∷ first_part s)) in
    ap (all valid_name) whole ∙ rw none

-- IN A PATH

pub front_begins : (p : List ℕ) (at : ℕ) → all name_byte (take (at - at) (drop at p)) ≡ true
unfolding all
front_begins p at =
    let none : at - at ≡ 0 = omega arith in
    rw none

-- the bytes from `start` up to `at`, which a name can have
module _ (p : List ℕ) (start at : ℕ) (inside : start ≤ at) (clean : all name_byte (take (at - start) (drop start p)) ≡ true) where
  front_then : at < length p → drop start p ≡ take (at - start) (drop start p) ++ get_or p at 0 ∷ drop (at + 1) p
  front_then h =
      let n : start + (at - start) ≡ at = omega arith in
      let behind : drop (at - start) (drop start p) ≡ get_or p at 0 ∷ drop (at + 1) p =
      drop-drop (at - start) start p ∙ ap (λ i. drop i p) n ∙ drop-cons p at 0 h ∙ rw add-one in
      sym (ap (λ s. take (at - start) (drop start p) ++ s) (sym behind) ∙ take-append-drop (at - start) (drop start p))

  pub ended_at_zero : at < length p → get_or p at 0 ≡ 0 → all valid_name (parts (drop start p)) ≡ false
  ended_at_zero h e = ap (λ s. all valid_name (parts s)) (front_then h) ∙ front_zero (take (at - start) (drop start p)) (drop (at + 1) p) _ clean e

  pub ended_at_slash : at < length p → get_or p at 0 ≡ slash
      → all valid_name (parts (drop start p)) ≡ (right_length (take (at - start) (drop start p)) && all valid_name (parts (drop (at + 1) p)))
  ended_at_slash h e = ap (λ s. all valid_name (parts s)) (front_then h) ∙ front_slash (take (at - start) (drop start p)) (drop (at + 1) p) _ clean e

  pub ended_at_end : at ≡ length p → all valid_name (parts (drop start p)) ≡ right_length (take (at - start) (drop start p))
  ended_at_end e =
      let whole : take (at - start) (drop start p) ≡ drop start p = take_all _ _ (simp length-drop (omega arith)) in
      ap (λ s. all valid_name (parts s)) (sym whole) ∙ front_ends (take (at - start) (drop start p)) clean

  pub front_grows : at < length p → (get_or p at 0 ≡ 0 → ⊥) → (get_or p at 0 ≡ slash → ⊥)
      → all name_byte (take (at + 1 - start) (drop start p)) ≡ true
  unfolding all name_byte
  front_grows h z n =
      let i : at + 1 - start ≡ at - start + 1 = omega arith in
      let inner : at - start < length (drop start p) = omega (arith, length-drop start p) in
      let more = take_more (drop start p) (at - start) 0 inner in
      let same : get_or (drop start p) (at - start) 0 ≡ get_or p at 0 =
      get_or-drop start p (at - start) 0 ∙ ap (λ k. get_or p k 0) (omega arith) in
      let last : all name_byte (get_or p at 0 ∷ []) ≡ true = rw (ne_eqb _ 0 z, ne_eqb _ slash n) refl in
      ap (λ k. all name_byte (take k (drop start p))) i ∙ ap (all name_byte) more
      ∙ front_bytes (take (at - start) (drop start p)) (get_or (drop start p) (at - start) 0 ∷ []) clean
      ∙ ap (λ b. all name_byte (b ∷ [])) same ∙ last
