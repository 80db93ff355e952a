-- What stands from a position of a path on: its names and its parts there, and the next name. Assumes nothing.
use mathlib.Core.Path.{◌≡◌, refl, ◌∙◌}
use mathlib.Core.List.{List, [], ◌∷◌}
use Prim.Native.Nat.{ℕ, ◌+◌, ◌-◌, ◌≤◌, ◌<◌}
use native.Mathlib.Nat.{add-zero}
use native.Mathlib.Omega.{arith}
use native.Mathlib.Numerals.{add-one}
use lib.ListN.{length, get_or, drop, length-drop, drop_of_length-le}
use lib.Seq.{drop-cons}
use borrow.Author.Tests.{eq-eqb, ne_eqb}
use Rattle.model.specs.Paths.{slash, parts, absolute, names_behind, names}
use Rattle.std.specs.Prelude.{Some, None}
use Rattle.paths.specs.Split.{first_part, slashes, located, next}
use Rattle.paths.proofs.Parts.{parts_split}

-- THE NAMES FROM A POSITION ON

names_behind_bytes : (s : List ℕ) → 1 ≤ length s → names_behind s ≡ parts s
unfolding names_behind
names_behind_bytes [] h = absurd (omega arith)
names_behind_bytes (b ∷ s) h = refl

module _ (p : List ℕ) (at : ℕ) where
  pub names_at_end : length p ≤ at → names (drop at p) ≡ []
  unfolding names
  names_at_end h = rw (drop_of_length-le p h)

  pub names_at_slash : at < length p → get_or p at 0 ≡ slash → names (drop at p) ≡ names_behind (drop (at + 1) p)
  unfolding names
  names_at_slash h e = rw (drop-cons p at 0 h, add-one) (simp (eq-eqb _ slash e, names))

  pub names_at_byte : at < length p → (get_or p at 0 ≡ slash → ⊥) → names (drop at p) ≡ parts (drop at p)
  unfolding names
  names_at_byte h n = rw (drop-cons p at 0 h) (simp (ne_eqb _ slash n, names))

  pub names_behind_slash : at < length p → get_or p at 0 ≡ slash → (at + 1 ≡ length p → ⊥) → names (drop at p) ≡ parts (drop (at + 1) p)
  names_behind_slash h e n = names_at_slash h e ∙ names_behind_bytes (drop (at + 1) p) (simp length-drop (omega arith))

  pub names_at_last_slash : at < length p → get_or p at 0 ≡ slash → at + 1 ≡ length p → names (drop at p) ≡ []
  unfolding names_behind
  names_at_last_slash h e n = names_at_slash h e ∙ rw (drop_of_length-le p {i = at + 1} (omega arith))

-- THE NEXT NAME

module _ (p : List ℕ) (at : ℕ) where
  pub next_at_end : length p ≤ at → next p at ≡ None
  unfolding next located
  next_at_end h = rw (names_at_end p at h)

  pub next_at_last_slash : at < length p → get_or p at 0 ≡ slash → at + 1 ≡ length p → next p at ≡ None
  unfolding next located
  next_at_last_slash h e n = rw (names_at_last_slash p at h e n)

  slashes_one : at < length p → get_or p at 0 ≡ slash → slashes (drop at p) ≡ 1
  unfolding slashes absolute
  slashes_one h e = rw (drop-cons p at 0 h) (simp (eq-eqb _ slash e, slashes))

  slashes_none : at < length p → (get_or p at 0 ≡ slash → ⊥) → slashes (drop at p) ≡ 0
  unfolding slashes absolute
  slashes_none h n = rw (drop-cons p at 0 h) (simp (ne_eqb _ slash n, slashes))

  pub next_behind_slash : at < length p → get_or p at 0 ≡ slash → (at + 1 ≡ length p → ⊥) → next p at ≡ Some (record { start = at + 1; length = length (first_part (drop (at + 1) p)) })
  unfolding next located
  next_behind_slash h e n = rw (slashes_one h e, names_behind_slash p at h e n, parts_split (drop (at + 1) p))

  pub next_here : at < length p → (get_or p at 0 ≡ slash → ⊥) → next p at ≡ Some (record { start = at; length = length (first_part (drop at p)) })
  unfolding next located
  next_here h n = rw (slashes_none h n, add-zero, names_at_byte p at h n, parts_split (drop at p))

  -- the same, where the name's end is known
  pub next_to_end : (start end : ℕ) → end ≡ start + length (first_part (drop start p))
      → next p at ≡ Some (record { start = start; length = length (first_part (drop start p)) }) → Some (record { start = start; length = end - start }) ≡ next p at
  next_to_end start end e q =
      let n : end - start ≡ length (first_part (drop start p)) = omega arith in
      rw (n, q)
