-- Rows tested one by one: `all` over their numbers is the model's `all_from`, where the closure tests the row of its number. Assumes nothing.
use mathlib.Core.Path.{◌≡◌, refl, sym, ap, ap₂, ◌∙◌}
use mathlib.Core.Bool.{Bool, true, false, ◌&&◌}
use mathlib.Core.List.{List, [], ◌∷◌}
use Prim.Native.Nat.{ℕ, suc, ◌+◌}
use native.Mathlib.Omega.{arith}
use denote.Param.Members.{Mut}
use lib.ListN.{length, get_or}
use Rattle.std.specs.declared.ops.Range.{Range}
use Rattle.std.specs.Prelude.{Option, MatchOption}
use Rattle.std.specs.Fn.{Called}
use Rattle.std.specs.Iterator.{YieldsThen}
use Rattle.std.specs.List.{FoldsTo, list_all, range_with_len}
use Rattle.std.proofs.iter.Yields.{nat_range_steps}
use Rattle.std.proofs.lemmas.Iterator.{YieldsList-from_range}
use Rattle.std.proofs.lemmas.Iterator.Search.{all_from_yields_List}
use Rattle.model.specs.Lists.{all_from}

module _ {A : Type 0} (test : ℕ → A → Bool) (d : A) where
  numbered : (h : ℕ → Bool) (a : ℕ) (rows : List A) → ((k : ℕ) → h (a + k) ≡ test (1 + (a + k)) (get_or rows k d))
      → list_all h (range_with_len a (length rows)) ≡ all_from (1 + a) test rows
  unfolding all_from
  numbered h a [] e = refl
  numbered h a (x ∷ rows) e =
      let here : a + 0 ≡ a = omega arith in
      let next : 1 + (a + 1) ≡ suc (1 + a) = omega arith in
      ap₂ ◌&&◌ (ap h (sym here) ∙ e 0 ∙ ap (λ n. test (1 + n) x) here)
      (numbered h (a + 1) rows (λ k. let m : a + 1 + k ≡ a + suc k = omega arith in ap h m ∙ e (suc k) ∙ ap (λ n. test (1 + n) (get_or rows k d)) (sym m))
      ∙ ap (λ n. all_from n test rows) next)

  pub all_gives : {F : Type 0} (rows : List A) {s : Range ℕ} (starts : s.start ≡ 0) (ends : s.end ≡ length rows) {g : Mut F (ℕ × Unit {0}) Bool} (u : Range ℕ)
      {f : F} (r : Bool)
      → (xs : List ℕ) × (o : Option ℕ) × (j : F) × YieldsThen nat_range_steps s xs o u × FoldsTo (λ p x q. Called g p (x, tt) true q) f xs j
      × MatchOption o (r ≡ true) (λ x. (r ≡ false) × ((h : F) × Called g j (x, tt) false h))
      → ((x : ℕ) (b : Bool) (q : F) → Called g f (x, tt) b q → (q ≡ f) × (b ≡ test (1 + x) (get_or rows x d)))
      → r ≡ all_from 1 test rows
  all_gives rows {s} starts ends u {f} r ran says =
      all_from_yields_List (λ x. test (1 + x) (get_or rows x d)) u f r ran (YieldsList-from_range s.start s.end (length rows) refl (omega arith)) says
      ∙ ap (λ a. list_all (λ x. test (1 + x) (get_or rows x d)) (range_with_len a (length rows))) starts
      ∙ numbered (λ x. test (1 + x) (get_or rows x d)) 0 rows
      (λ k. let m : 0 + k ≡ k = omega arith in ap (λ n. test (1 + (0 + k)) (get_or rows n d)) m)
