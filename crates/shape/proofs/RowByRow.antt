-- A table tested row by row: the rows by their numbers, or the words of a table whose rows have one word, are its pieces. Assumes nothing.
use mathlib.Core.Path.{◌≡◌, refl, sym, ap, ap₂, ◌∙◌}
use mathlib.Core.Bool.{Bool, ◌&&◌}
use mathlib.Core.List.{List, [], ◌∷◌}
use Prim.Native.Nat.{ℕ, zero, suc, ◌+◌, ◌*◌}
use native.Mathlib.Omega.{arith}
use lib.ListN.{length, take, drop}
use lib.Seq.{drop-drop}
use Rattle.std.specs.List.{list_all, range_with_len}
use Rattle.model.specs.Lists.{all, pieces}

-- the library's test of a whole list is the model's
pub all_same : {A : Type 0} (test : A → Bool) (xs : List A) → list_all test xs ≡ all test xs
unfolding all
all_same test [] = refl
all_same test (x ∷ xs) = ap (λ b. test x && b) (all_same test xs)

module _ (test : List ℕ → Bool) where
  -- n rows of k words from word a on
  module _ (k a : ℕ) (w : List ℕ) (by_row : ℕ → Bool) (same_test : (row : ℕ) → by_row row ≡ test (take k (drop (a + row * k) w))) where
    rows_from : (n row : ℕ) → list_all by_row (range_with_len row n) ≡ all test (pieces n k (drop (a + row * k) w))
    unfolding all pieces
    rows_from zero row = refl
    rows_from (suc n) row =
        let next : a + (row + 1) * k ≡ a + row * k + k = omega arith in
        ap₂ ◌&&◌ (same_test row) (rows_from n (row + 1) ∙ ap (λ l. all test (pieces n k l)) (ap (λ m. drop m w) next ∙ sym (drop-drop k (a + row * k) w)))

    pub all_rows : (n : ℕ) → list_all by_row (range_with_len 0 n) ≡ all test (pieces n k (drop a w))
    all_rows n = let front : a + 0 * k ≡ a = omega arith in rows_from n 0 ∙ ap (λ m. all test (pieces n k (drop m w))) front

  pub all_words : (n : ℕ) (ws : List ℕ) → length ws ≡ n → list_all (λ x. test (x ∷ [])) ws ≡ all test (pieces n 1 ws)
  unfolding all pieces
  all_words zero [] l = refl
  all_words zero (x ∷ ws) l = absurd (omega arith)
  all_words (suc n) [] l = absurd (omega arith)
  all_words (suc n) (x ∷ ws) l = ap (λ b. test (x ∷ []) && b) (all_words n ws (omega arith))
