-- The tests of a path and of a target, one after the other: length, first byte, names. Assumes nothing.
use mathlib.Core.Path.{◌≡◌, refl, sym, ap, ◌∙◌}
use mathlib.Core.Bool.{Bool, true, false, ◌&&◌, false≢true}
use mathlib.Core.List.{List, [], ◌∷◌}
use mathlib.Core.Logic.{◌⊎◌, inl, inr}
use Prim.Native.Nat.{ℕ, ◌+◌, ◌≤◌, ◌<◌}
use native.Mathlib.Omega.{arith}
use denote.Bor.{Bor}
use lib.Dec.{eqb, leb}
use lib.ListN.{length, take, drop}
use lib.Pointwise.{pointwise}
use borrow.Author.Tests.{eq-eqb, ne_eqb, eqb-true, eqb-false, le-leb, lt-leb}
use Rattle.std.proofs.Common.{nat_eq}
use Rattle.std.specs.List.{starts_with}
use Rattle.std.specs.Option.{MatchOption, unwrap_or}
use Rattle.std.specs.Prelude.{Option, Some, None}
use Rattle.model.specs.Lists.{all}
use Rattle.model.specs.Paths.{slash, absolute, parts, names_behind, names, valid_name, valid_path, valid_target}
use Rattle.laws.proofs.Bools.{and_left}

and_true : (t : Bool) → (t && true) ≡ t
and_true true = refl
and_true false = refl

-- the library's `starts_with`, told a slash
pub absolute_told : (s : List ℕ) → starts_with nat_eq s (slash ∷ []) ≡ absolute s
unfolding absolute
absolute_told [] = refl
absolute_told (b ∷ s) = go (eqb b slash) refl
  where
    go : (t : Bool) → eqb b slash ≡ t → (eqb slash b && true) ≡ t
    go true e = and_true (eqb slash b) ∙ eq-eqb slash b (sym (eqb-true b slash e))
    go false e = and_true (eqb slash b) ∙ ne_eqb slash b (λ q. eqb-false b slash e (sym q))

absolute_long : (s : List ℕ) → absolute s ≡ true → 1 ≤ length s
unfolding absolute
absolute_long [] e = absurd (false≢true e)
absolute_long (b ∷ s) e = omega arith

module _ (s : List ℕ) where
  pub path_longer : 255 < length s → valid_path s ≡ false
  unfolding valid_path
  path_longer h = rw (le-leb 1 (length s) (omega arith), lt-leb (length s) 255 h)

  pub path_relative : length s ≤ 255 → absolute s ≡ false → valid_path s ≡ false
  unfolding valid_path
  path_relative h n = rw (le-leb (length s) 255 h, n) (neither (leb 1 (length s)))
    where
      neither : (t : Bool) → (t && true && false && all valid_name (names s)) ≡ false
      neither true = refl
      neither false = refl

  pub path_by_names : length s ≤ 255 → absolute s ≡ true → valid_path s ≡ all valid_name (names s)
  unfolding valid_path
  path_by_names h e = rw (le-leb 1 (length s) (absolute_long s e), le-leb (length s) 255 h, e)

  pub target_out_of_bounds : (length s < 1) ⊎ (64 < length s) → valid_target s ≡ false
  unfolding valid_target
  target_out_of_bounds (inl h) = rw (lt-leb 1 (length s) h)
  target_out_of_bounds (inr h) = rw (le-leb 1 (length s) (omega arith), lt-leb (length s) 64 h)

  pub target_by_names : 1 ≤ length s → length s ≤ 64 → valid_target s ≡ all valid_name (names s)
  unfolding valid_target
  target_by_names g h = rw (le-leb 1 (length s) g, le-leb (length s) 64 h)

-- THE NAMES BEHIND A FIRST SLASH

stripped : (p : List ℕ) → pointwise nat_eq (take 1 p) (slash ∷ []) ≡ true → names p ≡ names_behind (drop 1 p)
unfolding names
stripped [] e = absurd (false≢true e)
stripped (b ∷ s) e = simp (and_left (eqb b slash) true e, names)

unstripped : (p : List ℕ) → pointwise nat_eq (take 1 p) (slash ∷ []) ≡ false → names p ≡ names_behind p
unfolding names names_behind
unstripped [] e = refl
unstripped (b ∷ s) e = simp (sym (and_true (eqb b slash)) ∙ e, names)

-- the names of a path, where the library's `strip_prefix` took a slash off where there was one
pub names_stripped : (p : Bor (List ℕ)) (r : Option (Bor (List ℕ)))
    → MatchOption r (pointwise nat_eq (take 1 p.now) (slash ∷ []) ≡ false)
    (λ x. (pointwise nat_eq (take 1 p.now) (slash ∷ []) ≡ true) × (x.now ≡ drop 1 p.now) × (length x.now + 1 ≡ length p.now))
    → names p.now ≡ names_behind (unwrap_or r p).now
names_stripped p None h = unstripped p.now h
names_stripped p (Some x) h = stripped p.now h.0 ∙ ap names_behind (sym h.1)

pub none_behind : (s : List ℕ) → length s ≡ 0 → all valid_name (names_behind s) ≡ true
unfolding all names_behind
none_behind [] h = refl
none_behind (b ∷ s) h = absurd (omega arith)

pub parts_behind : (s : List ℕ) → (length s ≡ 0 → ⊥) → names_behind s ≡ parts s
unfolding names_behind
parts_behind [] h = absurd (h refl)
parts_behind (b ∷ s) h = refl
