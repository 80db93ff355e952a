-- Chains over the numbers of a list's rows: `(0..n)` searched with `find` and `any`, and filtered and counted, gives what the model's `first`,
-- `any` and `count` say of the rows, where the closure tests the row of its number. Assumes nothing.
use mathlib.Core.Path.{◌≡◌, refl, sym, ap, ◌∙◌}
use mathlib.Core.Bool.{Bool, true, false, cond, ◌||◌}
use mathlib.Core.List.{List, [], ◌∷◌}
use Prim.Native.Nat.{ℕ, suc, ◌+◌, ◌≤◌, ◌<◌}
use native.Mathlib.Omega.{arith}
use borrow.Author.Tests.{lt-ltb, le-ltb}
use denote.Param.Members.{Mut}
use denote.Ref.{Bor}
use lib.Dec.{ltb}
use lib.ListN.{length, get_or}
use Rattle.std.specs.declared.ops.Range.{Range}
use Rattle.std.specs.Prelude.{Option, Some, None, MatchOption}
use Rattle.std.specs.Bool.{⊤}
use Rattle.std.specs.Fn.{Called, CalledAt}
use Rattle.std.specs.Iterator.{YieldsThen, Drains}
use Rattle.std.specs.Iterator.Adapters.{filter_source, filter_callee, filter_steps}
use Rattle.std.specs.declared.iter.Filter.{Filter}
use Rattle.std.specs.List.{FoldsTo, filter, list_any, range_with_len}
use Rattle.std.proofs.iter.Yields.{nat_range_steps}
use Rattle.std.proofs.lemmas.Iterator.{first_from_Range, YieldsList-from_range}
use Rattle.std.proofs.lemmas.Iterator.Consumers.{YieldsList-at, YieldsList-from_filter, count_from_yields_List}
use Rattle.std.proofs.lemmas.Iterator.Search.{any_from_yields_List}
use Rattle.std.proofs.lemmas.List.Recursion.{is_position_or_len}
use Rattle.std.proofs.lemmas.List.Sums.{position_or_len_is}
use Rattle.model.specs.Lists.{any, count, first}
use Rattle.laws.proofs.Loops.{first_shift}

module _ {A : Type 0} (t : A → Bool) (d : A) where
  -- a test of numbers that tests the row of each
  any_numbered : (h : ℕ → Bool) (a : ℕ) (rows : List A) → ((k : ℕ) → k < length rows → h (a + k) ≡ t (get_or rows k d))
      → list_any h (range_with_len a (length rows)) ≡ any t rows
  unfolding any
  any_numbered h a [] e = refl
  any_numbered h a (x ∷ xs) e =
      ap (λ b. b || list_any h (range_with_len (a + 1) (length xs))) (ap h (omega arith) ∙ e 0 (omega arith))
      ∙ ap (λ b. t x || b) (any_numbered h (a + 1) xs (λ k l. ap h (omega arith) ∙ e (suc k) (omega arith)))

  count_numbered : (h : ℕ → Bool) (a : ℕ) (rows : List A) → ((k : ℕ) → k < length rows → h (a + k) ≡ t (get_or rows k d))
      → length (filter h (range_with_len a (length rows))) ≡ count t rows
  unfolding count
  count_numbered h a [] e = refl
  count_numbered h a (x ∷ xs) e =
      ap (λ b. length (cond b (a ∷ rest) rest)) (ap h (omega arith) ∙ e 0 (omega arith)) ∙ go (t x) (count_numbered h (a + 1) xs (λ k l. ap h (omega arith) ∙ e (suc k) (omega arith)))
    where
      rest : List ℕ
      rest = filter h (range_with_len (a + 1) (length xs))

      go : (b : Bool) → length rest ≡ count t xs → length (cond b (a ∷ rest) rest) ≡ elim b as (λ _. ℕ) [ true ↦ suc (count t xs) | false ↦ count t xs ]
      go true i = ap suc i
      go false i = i

  -- the first row that passes is known by those before it
  pub first_is : (rows : List A) (i : ℕ) → i ≤ length rows → ((k : ℕ) → k < i → t (get_or rows k d) ≡ false)
      → (i < length rows → t (get_or rows i d) ≡ true) → first t 0 rows ≡ i
  unfolding first
  first_is rows i h before here = is_position_or_len (first t 0) t refl next rows ∙ position_or_len_is t rows i d h before here
    where
      next : (x : A) (xs : List A) → first t 0 (x ∷ xs) ≡ cond (t x) 0 (1 + first t 0 xs)
      next x xs = go (t x) (omega (arith, first_shift t xs 0))
        where
          go : (b : Bool) → first t 1 xs ≡ 1 + first t 0 xs → elim b as (λ _. ℕ) [ true ↦ 0 | false ↦ first t 1 xs ] ≡ cond b 0 (1 + first t 0 xs)
          go true e = refl
          go false e = e

  module _ {F : Type 0} (rows : List A) {s : Range ℕ} (starts : s.start ≡ 0) (ends : s.end ≡ length rows) where
    -- `find` gives the number of the first row that passes, if there is one
    pub find_gives : {g : Mut F (Bor ℕ × Unit {0}) Bool} (u : Range ℕ) {f : F} (r : Option ℕ)
        → (xs : List ℕ) × (j : F) × YieldsThen nat_range_steps s xs r u × FoldsTo (λ p x q. CalledAt g p x false q) f xs j × MatchOption r ⊤ (λ x. (h : F) × CalledAt g j x true h)
        → ((x : ℕ) (b : Bool) (q : F) → CalledAt g f x b q → (q ≡ f) × (b ≡ t (get_or rows x d)))
        → r ≡ cond (ltb (first t 0 rows) (length rows)) (Some (first t 0 rows)) None
    find_gives u {f} r ran says =
        told r (first_from_Range s u f r (λ k. t (get_or rows k d) ≡ true) (λ k. t (get_or rows k d) ≡ false) ran
        (λ x q h. sym (says x true q h).1) (λ x q h. ((says x false q h).0, sym (says x false q h).1)))
      where
        told : (r : Option ℕ) → MatchOption r ((k : ℕ) → s.start ≤ k → k < s.end → t (get_or rows k d) ≡ false)
            (λ i. (s.start ≤ i) × (i < s.end) × (t (get_or rows i d) ≡ true) × ((k : ℕ) → s.start ≤ k → k < i → t (get_or rows k d) ≡ false))
            → r ≡ cond (ltb (first t 0 rows) (length rows)) (Some (first t 0 rows)) None
        told None h =
            let k : first t 0 rows ≡ length rows = first_is rows (length rows) (omega arith) (λ k l. h k (omega arith) (omega arith)) (λ l. absurd (omega arith)) in
            rw (k, le-ltb (length rows) (length rows) (omega arith))
        told (Some i) h =
            let k : first t 0 rows ≡ i = first_is rows i (omega arith) (λ k l. h.3 k (omega arith) l) (λ l. h.2) in
            rw (k, lt-ltb i (length rows) (omega arith))

    -- `any` tells whether a row passes
    pub any_gives : {g : Mut F (ℕ × Unit {0}) Bool} (u : Range ℕ) {f : F} (r : Bool)
        → (xs : List ℕ) × (o : Option ℕ) × (j : F) × YieldsThen nat_range_steps s xs o u × FoldsTo (λ p x q. Called g p (x, tt) false q) f xs j
        × MatchOption o (r ≡ false) (λ x. (r ≡ true) × ((h : F) × Called g j (x, tt) true h))
        → ((x : ℕ) (b : Bool) (q : F) → Called g f (x, tt) b q → (q ≡ f) × (b ≡ t (get_or rows x d)))
        → r ≡ any t rows
    any_gives u {f} r ran says =
        any_from_yields_List (λ x. t (get_or rows x d)) u f r ran (YieldsList-from_range s.start s.end (length rows) refl (omega arith)) says
        ∙ any_numbered (λ x. t (get_or rows x d)) s.start rows (λ k l. ap (λ n. t (get_or rows n d)) (omega arith))

    -- `filter` and `count` give how many rows pass
    pub count_gives : {g : Mut F (Bor ℕ × Unit {0}) Bool} {m : Filter (Range ℕ) F} {f : F} (r : ℕ) → filter_source m ≡ s → filter_callee m ≡ f
        → (xs : List ℕ) × Drains (filter_steps nat_range_steps g) m xs × (r ≡ length xs)
        → ((x : ℕ) (b : Bool) (q : F) → CalledAt g f x b q → (q ≡ f) × (b ≡ t (get_or rows x d)))
        → r ≡ count t rows
    count_gives {g} {m} r source callee ran says =
        count_from_yields_List m r ran
        (YieldsList-from_filter g (λ x. t (get_or rows x d))
        (YieldsList-at source (YieldsList-from_range s.start s.end (length rows) refl (omega arith))) callee says)
        ∙ count_numbered (λ x. t (get_or rows x d)) s.start rows (λ k l. ap (λ n. t (get_or rows n d)) (omega arith))
