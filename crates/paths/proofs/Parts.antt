-- What stands between the slashes of a path: the first part, and the parts behind it. Assumes nothing.
use mathlib.Core.Path.{◌≡◌, refl, ap, ◌∙◌}
use mathlib.Core.Bool.{Bool, true, false, cond}
use mathlib.Core.List.{List, [], ◌∷◌}
use Prim.Native.Nat.{ℕ, suc, ◌+◌, ◌-◌, ◌≤◌, ◌<◌}
use native.Mathlib.Omega.{arith}
use native.Mathlib.Numerals.{add-one}
use lib.Dec.{eqb, ltb}
use lib.ListN.{length, get_or, take, drop, length-take, length-drop, drop_of_length-le}
use lib.Seq.{drop-cons, take_all}
use borrow.Author.Tests.{eq-eqb, ne_eqb, eqb-true, ltb-false}
use Rattle.std.specs.List.{position_or_len}
use Rattle.std.specs.Option.{unwrap_or}
use Rattle.std.specs.Prelude.{Option, Some, None}
use Rattle.std.proofs.lemmas.List.Recursion.{is_position_or_len}
use Rattle.model.specs.Paths.{slash, before, parts}
use Rattle.paths.specs.Split.{first_of, first_part}

-- the parts behind a first one: none at the end, or those behind its slash
unfoldable pub behind : List ℕ → List (List ℕ)
behind [] = []
behind (b ∷ s) = parts s

pub slash_first : (b : ℕ) (s : List ℕ) → eqb b slash ≡ true → parts (b ∷ s) ≡ [] ∷ parts s
unfolding parts before
slash_first b s e = simp (e, before)

pub byte_first : (b : ℕ) (s part : List ℕ) (others : List (List ℕ)) → eqb b slash ≡ false → parts s ≡ part ∷ others
    → parts (b ∷ s) ≡ (b ∷ part) ∷ others
unfolding parts before
byte_first b s part others e q = simp (e, q, before)

-- a first part and what is behind it are all the parts
pub parts_split : (s : List ℕ) → parts s ≡ first_part s ∷ behind (drop (length (first_part s)) s)
unfolding parts first_part first_of behind
parts_split [] = refl
parts_split (b ∷ s) = go (eqb b slash) refl (parts_split s)
  where
    go : (t : Bool) → eqb b slash ≡ t → parts s ≡ first_part s ∷ behind (drop (length (first_part s)) s)
        → parts (b ∷ s) ≡ first_of (parts (b ∷ s)) ∷ behind (drop (length (first_of (parts (b ∷ s)))) (b ∷ s))
    go true e h = rw (slash_first b s e)
    go false e h = rw (byte_first b s _ _ e h)

pub slash_ends : (b : ℕ) (s : List ℕ) → eqb b slash ≡ true → first_part (b ∷ s) ≡ []
unfolding first_part first_of
slash_ends b s e = rw (slash_first b s e)

pub byte_goes_on : (b : ℕ) (s : List ℕ) → eqb b slash ≡ false → first_part (b ∷ s) ≡ b ∷ first_part s
unfolding first_part first_of
byte_goes_on b s e = rw (byte_first b s _ _ e (parts_split s))

-- a first part begins the bytes, and is no longer than they are
pub first_part_begins : (s : List ℕ) → take (length (first_part s)) s ≡ first_part s
unfolding first_part first_of parts
first_part_begins [] = refl
first_part_begins (b ∷ s) = go (eqb b slash) refl (first_part_begins s)
  where
    go : (t : Bool) → eqb b slash ≡ t → take (length (first_part s)) s ≡ first_part s
        → take (length (first_part (b ∷ s))) (b ∷ s) ≡ first_part (b ∷ s)
    go true e h = rw (slash_ends b s e)
    go false e h = rw (byte_goes_on b s e, h)

pub first_part_fits : (s : List ℕ) → length (first_part s) ≤ length s
first_part_fits s = omega (arith, simp length-take at (ap length (first_part_begins s)))

-- where a first part stops before the end, a slash stands
pub first_part_stops : (s : List ℕ) → length (first_part s) < length s → get_or s (length (first_part s)) 0 ≡ slash
unfolding first_part first_of parts
first_part_stops [] h = absurd (omega arith)
first_part_stops (b ∷ s) h = go (eqb b slash) refl h (first_part_stops s)
  where
    go : (t : Bool) → eqb b slash ≡ t → length (first_part (b ∷ s)) < length (b ∷ s)
        → (length (first_part s) < length s → get_or s (length (first_part s)) 0 ≡ slash)
        → get_or (b ∷ s) (length (first_part (b ∷ s))) 0 ≡ slash
    go true e h f = rw (slash_ends b s e) (eqb-true b slash e)
    go false e h f = rw (byte_goes_on b s e) (f (omega (arith, ap length (byte_goes_on b s e))))

-- THE LIBRARY'S WORDS

-- a first part ends where the library's `position` finds a slash
pub slash_found : (s : List ℕ) → length (first_part s) ≡ position_or_len (λ b. eqb b slash) s
unfolding first_part first_of parts
slash_found s = is_position_or_len (λ xs. length (first_part xs)) (λ b. eqb b slash) refl step s
  where
    step : (b : ℕ) (xs : List ℕ) → length (first_part (b ∷ xs)) ≡ cond (eqb b slash) 0 (1 + length (first_part xs))
    step b xs = go (eqb b slash) refl
      where
        go : (t : Bool) → eqb b slash ≡ t → length (first_part (b ∷ xs)) ≡ cond t 0 (1 + length (first_part xs))
        go true e = ap length (slash_ends b xs e)
        go false e = ap length (byte_goes_on b xs e) ∙ omega arith

pub found_or_end : (s : List ℕ) (r : Option ℕ)
    → r ≡ cond (ltb (position_or_len (λ b. eqb b slash) s) (length s)) (Some (position_or_len (λ b. eqb b slash) s)) None
    → unwrap_or r (length s) ≡ length (first_part s)
found_or_end s r e = rw (e, ← slash_found s) (go (ltb (length (first_part s)) (length s)) refl)
  where
    go : (t : Bool) → ltb (length (first_part s)) (length s) ≡ t
        → unwrap_or (cond t (Some (length (first_part s))) None) (length s) ≡ length (first_part s)
    go true e = refl
    go false e = omega (arith, first_part_fits s, ltb-false (length (first_part s)) (length s) e)

module _ (p : List ℕ) (i : ℕ) where
  -- the code's `&path[at..]`
  pub rest_whole : take (length p - i) (drop i p) ≡ drop i p
  rest_whole = take_all _ _ (simp length-drop (omega arith))

  pub part_at_end : length p ≤ i → length (first_part (drop i p)) ≡ 0
  unfolding first_part first_of parts
  part_at_end h = rw (drop_of_length-le p h)

  pub part_at_slash : i < length p → get_or p i 0 ≡ slash → length (first_part (drop i p)) ≡ 0
  part_at_slash h e = rw (drop-cons p i 0 h, slash_ends _ _ (eq-eqb _ slash e))

  pub part_at_byte : i < length p → (get_or p i 0 ≡ slash → ⊥) → length (first_part (drop i p)) ≡ suc (length (first_part (drop (i + 1) p)))
  part_at_byte h n = rw (drop-cons p i 0 h, byte_goes_on _ _ (ne_eqb _ slash n), add-one)
