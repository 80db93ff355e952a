-- What `next_name` tells a walk: its answer is the first of the names that are left, and behind it stand the others. Assumes nothing.
use mathlib.Core.Path.{◌≡◌, refl, sym, ap, subst, ◌∙◌}
use mathlib.Core.Bool.{Bool, true, false}
use mathlib.Core.List.{List, [], ◌∷◌}
use Prim.Native.Nat.{ℕ, suc, ◌+◌, ◌≤◌, ◌<◌}
use native.Mathlib.Omega.{arith}
use native.Mathlib.Numerals.{add-one}
use lib.Dec.{eqb, leb}
use lib.ListN.{length, get_or, take, drop, length-drop, drop_of_length-le}
use lib.Seq.{drop-cons, drop-drop, get_or-drop}
use borrow.Author.Tests.{eqb-true, eqb-false, leb-true, leb-false}
use Rattle.model.specs.Lists.{all}
use Rattle.model.specs.Paths.{slash, parts, names, valid_name}
use Rattle.laws.proofs.Bools.{and_left, and_right, clash}
use Rattle.std.specs.Prelude.{Some, None}
use Rattle.paths.specs.declared.Part.{Part}
use Rattle.paths.specs.Split.{first_part, located, next}
use Rattle.paths.proofs.Parts.{behind, parts_split, first_part_begins, first_part_fits, first_part_stops, part_at_byte}
use Rattle.paths.proofs.Positions.{names_at_end, names_at_byte, names_behind_slash, next_at_end, next_at_last_slash, next_behind_slash, next_here}

-- The name that starts at `start` and has `size` bytes is the first of the names from `at` on, and lies behind `at`.
pub record Splits (path : List ℕ) (at start size : ℕ) : Type 0 where
  pub name : names (drop at path) ≡ take size (drop start path) ∷ behind (drop (start + size) path)
  pub long : length (take size (drop start path)) ≡ size
  pub inside : start + size ≤ length path
  pub onward : at < start + size
  pub stops : start + size < length path → get_or path (start + size) 0 ≡ slash

-- no name is left just where the names are none
none_located : (start : ℕ) (ns : List (List ℕ)) → located start ns ≡ None → ns ≡ []
unfolding located
none_located start [] e = refl
none_located start (n ∷ ns) e = absurd (let z : ◌≡◌ {A = ℕ} 0 1 = cc in omega arith)

pub next_ends : (path : List ℕ) (at : ℕ) → next path at ≡ None → names (drop at path) ≡ []
unfolding next
next_ends path at e = none_located _ (names (drop at path)) e

-- a name that starts where the names from `at` on are parts
starts : (path : List ℕ) (at start : ℕ) → at ≤ start → start < length path → (at ≡ start → get_or path start 0 ≡ slash → ⊥)
    → names (drop at path) ≡ parts (drop start path) → Splits path at start (length (first_part (drop start path)))
starts path at start low high apart e =
    let s = drop start path in
    let fits = first_part_fits s in
    let size = length-drop start path in
    record {
      name = e ∙ rw (first_part_begins s, ← drop-drop) (parts_split s);
      long = ap length (first_part_begins s);
      inside = omega arith;
      onward = go (leb (suc at) start) refl;
      stops = λ h. sym (get_or-drop start path (length (first_part s)) 0) ∙ first_part_stops s (omega arith);
    }
  where
    go : (t : Bool) → leb (suc at) start ≡ t → at < start + length (first_part (drop start path))
    go true q = omega (arith, leb-true (suc at) start q)
    go false q =
        let same : at ≡ start = omega (arith, leb-false (suc at) start q) in
        omega (arith, part_at_byte path start high (apart same))

-- the name found is the first of those that are left
pub next_splits : (path : List ℕ) (at start size : ℕ) → next path at ≡ Some (record { start = start; length = size }) → Splits path at start size
next_splits path at start size e = go (leb (length path) at) refl
  where
    from : (s : ℕ) → next path at ≡ Some (record { start = s; length = length (first_part (drop s path)) }) → Splits path at s (length (first_part (drop s path))) → Splits path at start size
    from s q h =
        let same : ◌≡◌ {A = Part} (record { start = s; length = length (first_part (drop s path)) }) (record { start = start; length = size }) = cc in
        let same_start = ap (λ (p : Part). p.start) same in
        let same_size = ap (λ (p : Part). p.length) same in
        subst (λ (n : ℕ). Splits path at start n) same_size
        (subst (λ (k : ℕ). Splits path at k (length (first_part (drop s path)))) same_start h)

    behind_slash : (t : Bool) → eqb (at + 1) (length path) ≡ t → at < length path → get_or path at 0 ≡ slash → Splits path at start size
    behind_slash true q h g =
        let ends = next_at_last_slash path at h g (eqb-true (at + 1) (length path) q) in
        absurd (let z : ◌≡◌ {A = ℕ} 0 1 = cc in omega arith)
    behind_slash false q h g =
        let n = eqb-false (at + 1) (length path) q in
        let far : at + 1 < length path = omega arith in
        from (at + 1) (next_behind_slash path at h g n)
        (starts path at (at + 1) (omega arith) far (λ a b. omega arith) (names_behind_slash path at h g n))

    inside : (t : Bool) → eqb (get_or path at 0) slash ≡ t → at < length path → Splits path at start size
    inside true q h = behind_slash (eqb (at + 1) (length path)) refl h (eqb-true (get_or path at 0) slash q)
    inside false q h =
        let n = eqb-false (get_or path at 0) slash q in
        from at (next_here path at h n) (starts path at at (omega arith) h (λ a b. n b) (names_at_byte path at h n))

    go : (t : Bool) → leb (length path) at ≡ t → Splits path at start size
    go true q =
        let ends = next_at_end path at (leb-true (length path) at q) in
        absurd (let z : ◌≡◌ {A = ℕ} 0 1 = cc in omega arith)
    go false q = inside (eqb (get_or path at 0) slash) refl (leb-false (length path) at q)

-- WHERE ALL NAMES ARE VALID

-- The same on valid names: behind the name stand the names from its end on, valid too, and none just where the path ends there.
pub record SplitsValid (path : List ℕ) (at start size : ℕ) : Type 0 where
  pub name : names (drop at path) ≡ take size (drop start path) ∷ names (drop (start + size) path)
  pub valid : valid_name (take size (drop start path)) ≡ true
  pub others_valid : all valid_name (names (drop (start + size) path)) ≡ true
  pub last : start + size ≡ length path → names (drop (start + size) path) ≡ []
  pub more : (start + size ≡ length path → ⊥) → names (drop (start + size) path) ≡ parts (drop (start + size + 1) path)

-- no valid name stands behind a slash at the very end
nothing_behind_last_slash : (path : List ℕ) (end : ℕ) → end + 1 ≡ length path → all valid_name (behind (drop end path)) ≡ false
unfolding behind parts all valid_name
nothing_behind_last_slash path end h =
    rw (drop-cons path end 0 (omega arith), ← add-one, drop_of_length-le path {i = end + 1} (omega arith))

behind_slash : (path : List ℕ) (end : ℕ) → end < length path → behind (drop end path) ≡ parts (drop (end + 1) path)
unfolding behind
behind_slash path end h = rw (drop-cons path end 0 h, add-one)

module _ (path : List ℕ) (end : ℕ) (valid : all valid_name (behind (drop end path)) ≡ true)
    (stops : end < length path → get_or path end 0 ≡ slash) where
  names_go_on : end < length path → names (drop end path) ≡ parts (drop (end + 1) path)
  names_go_on h = go (eqb (end + 1) (length path)) refl
    where
      go : (t : Bool) → eqb (end + 1) (length path) ≡ t → names (drop end path) ≡ parts (drop (end + 1) path)
      go true q = clash valid (nothing_behind_last_slash path end (eqb-true (end + 1) (length path) q))
      go false q = names_behind_slash path end h (stops h) (eqb-false (end + 1) (length path) q)

  -- what is behind a part is then the names from its end on
  behind_is_names : behind (drop end path) ≡ names (drop end path)
  unfolding behind names
  behind_is_names = go (leb (length path) end) refl
    where
      go : (t : Bool) → leb (length path) end ≡ t → behind (drop end path) ≡ names (drop end path)
      go true q = rw (drop_of_length-le path {i = end} (leb-true (length path) end q))
      go false q =
          let h = leb-false (length path) end q in
          behind_slash path end h ∙ sym (names_go_on h)

-- the name found is valid, and what a walk has left behind it are the names from there on
pub next_splits_valid : (path : List ℕ) (at start size : ℕ) → all valid_name (names (drop at path)) ≡ true → next path at ≡ Some (record { start = start; length = size })
    → SplitsValid path at start size
unfolding all
next_splits_valid path at start size v e =
    let h = next_splits path at start size e in
    let both = sym (ap (all valid_name) h.name) ∙ v in
    let name_valid = and_left (valid_name (take size (drop start path))) (all valid_name (behind (drop (start + size) path))) both in
    let rest_valid = and_right (valid_name (take size (drop start path))) (all valid_name (behind (drop (start + size) path))) both in
    let rest = behind_is_names path (start + size) rest_valid h.stops in
    record {
      name = h.name ∙ rw rest;
      valid = name_valid;
      others_valid = sym (ap (all valid_name) rest) ∙ rest_valid;
      last = λ q. names_at_end path (start + size) (omega arith);
      more = λ n. names_go_on path (start + size) rest_valid h.stops (let i = h.inside in omega arith);
    }
