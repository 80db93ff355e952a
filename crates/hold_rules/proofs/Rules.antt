-- Holds one by one: in a directory, and of a listed process. Assumes nothing.
use mathlib.Core.Path.{◌≡◌, sym, ap, ◌∙◌}
use mathlib.Core.Bool.{Bool, true, false, not, ◌&&◌, ◌||◌}
use mathlib.Core.List.{List}
use Prim.Native.Nat.{ℕ, ◌<◌}
use native.Mathlib.Omega.{arith}
use native.Mathlib.Decide.{dec_lt}
use lib.Dec.{eqb}
use lib.ListN.{length, get_or}
use Rattle.std.specs.Prelude.{HoldsAt, MatchBool}
use Rattle.std.specs.List.{AllWithin, range_with_len}
use Rattle.std.proofs.lemmas.List.FromFn.{length-range_with_len, get_or-range_with_len}
use Rattle.model.specs.Lists.{all}
use Rattle.model.specs.Tables.{Hold, no_hold, free_hold, hold_rows, is_directory, listed}
use Rattle.model.specs.Sound.{each_used, holds_in_directories, holds_of_listed}
use Rattle.model.specs.Words.{unpack}
use Rattle.laws.proofs.AllRows.{all_both, all_alike}
use Rattle.laws.proofs.Bools.{clash, or_and, or_left, is_false}
use Rattle.laws.proofs.Each.{each_by_place, each_passes}
use Rattle.laws.proofs.Members.{at_in, all_in}
use Rattle.rows.proofs.Parts.{holds_full}
use Rattle.hold_rules.specs.Placed.{placed, row_placed}
use Rattle.hold_rules.specs.Used.{used_rows}
use Rattle.hold_rules.proofs.Used.{used_inside, free_behind}

-- EVERY ROW

-- what a test of every number below n says, which the library says of the list of them
pub each_below : (p : ℕ → Bool) (n : ℕ) (r : Bool)
    → MatchBool r (AllWithin (λ k. p k ≡ true) (range_with_len 0 n) 0 (length (range_with_len 0 n)))
    ((k : ℕ) × (k < length (range_with_len 0 n)) × HoldsAt (λ k. p k ≡ false) (range_with_len 0 n) k)
    → MatchBool r ((k : ℕ) → k < n → p k ≡ true) ((k : ℕ) × (k < n) × (p k ≡ false))
each_below p n true m = λ k h.
    let at : get_or (range_with_len 0 n) k 0 ≡ k = omega (arith, get_or-range_with_len 0 n k 0 h) in
    ap p (sym at) ∙ m k 0 (omega arith) (omega (arith, length-range_with_len 0 n))
each_below p n false (k, h, m) =
    let l : k < n = omega (arith, length-range_with_len 0 n) in
    let at : get_or (range_with_len 0 n) k 0 ≡ k = omega (arith, get_or-range_with_len 0 n k 0 l) in
    (k, l, ap p (sym at) ∙ m 0)

module _ (w : List ℕ) where
  -- the two rules are one test of each row
  placed_rules : all (placed (unpack w)) (unpack w).holds ≡ (holds_in_directories (unpack w) && holds_of_listed (unpack w))
  unfolding holds_in_directories holds_of_listed each_used
  placed_rules =
      all_alike (placed (unpack w)) (λ x. in_one x && of_one x) (λ x. or_and (free_hold x) _ _) (unpack w).holds
      ∙ all_both in_one of_one (unpack w).holds
    where
      in_one : Hold → Bool
      in_one x = free_hold x || is_directory (unpack w).nodes x.place.directory

      of_one : Hold → Bool
      of_one x = free_hold x || (not (eqb x.process 0) && listed (unpack w).processes x.process)

  not_placed : (i : ℕ) → i < hold_rows → row_placed w i ≡ false → false ≡ (holds_in_directories (unpack w) && holds_of_listed (unpack w))
  not_placed i r f =
      let here = at_in (unpack w).holds i no_hold (omega (arith, holds_full w)) in
      sym (is_false (holds_in_directories (unpack w) && holds_of_listed (unpack w)) (λ t.
      clash (all_in (placed (unpack w)) (unpack w).holds (placed_rules ∙ t) here) f))

  all_placed : {rows : ℕ} → rows ≡ used_rows w → ((k : ℕ) → k < rows → row_placed w k ≡ true)
      → true ≡ (holds_in_directories (unpack w) && holds_of_listed (unpack w))
  all_placed {rows} e right = sym (each_passes (placed (unpack w)) (each_by_place (unpack w).holds no_hold passes)) ∙ placed_rules
    where
      passes : (k : ℕ) → k < length (unpack w).holds → row_placed w k ≡ true
      passes k l = elim (dec_lt k rows) [ yes a ↦ right k a | no n ↦ or_left _ (free_behind w e k (omega arith) (omega (arith, holds_full w))) ]

  pub rows_decide : {rows : ℕ} → rows ≡ used_rows w → (r : Bool)
      → MatchBool r ((k : ℕ) → k < rows → row_placed w k ≡ true) ((k : ℕ) × (k < rows) × (row_placed w k ≡ false))
      → r ≡ (holds_in_directories (unpack w) && holds_of_listed (unpack w))
  rows_decide e true m = all_placed e m
  rows_decide e false m = let inside = m.1 in not_placed m.0 (omega (arith, used_inside w e)) m.2
