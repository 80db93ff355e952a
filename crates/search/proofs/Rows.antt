-- The row that a search gives: it is the model's, it is one of the list's, and a row passes just where there is one. Assumes nothing.
use mathlib.Core.Path.{◌≡◌, refl, sym, ap, ◌∙◌}
use mathlib.Core.Bool.{Bool, true, false, not}
use mathlib.Core.List.{List}
use Prim.Native.Nat.{ℕ, ◌<◌}
use native.Mathlib.Omega.{arith}
use borrow.Author.Tests.{lt-ltb, le-ltb}
use lib.ListN.{length, set}
use lib.Seq.{set_out}
use Rattle.std.specs.Prelude.{Option, Some, None, is_some}
use Rattle.model.specs.Lists.{any, first, put}
use Rattle.laws.proofs.Loops.{any_first, none_first, put_first}
use Rattle.search.specs.Rows.{first_row}

pub record Found {A : Type 0} (f : A → Bool) (rows : List A) (k : ℕ) : Type 0 where
  pub is : k ≡ first f 0 rows
  pub inside : k < length rows
  pub some : any f rows ≡ true

module _ {A : Type 0} (f : A → Bool) (rows : List A) where
  some_is : any f rows ≡ true → first_row f rows ≡ Some (first f 0 rows)
  some_is t = rw (lt-ltb (first f 0 rows) (length rows) (any_first f rows t))

  none_is : any f rows ≡ false → first_row f rows ≡ None
  none_is t = rw (le-ltb (first f 0 rows) (length rows) (omega (arith, none_first f rows t)))

  pub found_row : {k : ℕ} → Some k ≡ first_row f rows → Found f rows k
  found_row {k} e = go (any f rows) refl
    where
      go : (b : Bool) → any f rows ≡ b → Found f rows k
      go true t =
          let same : Some k ≡ Some (first f 0 rows) = e ∙ some_is t in
          let is : k ≡ first f 0 rows = cc in
          record { is = is; inside = omega (arith, any_first f rows t); some = t }
      go false t = let no : Some k ≡ None = e ∙ none_is t in cc

  pub found_none : None ≡ first_row f rows → any f rows ≡ false
  found_none e = go (any f rows) refl
    where
      go : (b : Bool) → any f rows ≡ b → b ≡ false
      go false t = refl
      go true t = let no : None ≡ Some (first f 0 rows) = e ∙ some_is t in cc

  pub found_any : {r : Option ℕ} → r ≡ first_row f rows → is_some r ≡ any f rows
  found_any {r} e = go (any f rows) refl
    where
      go : (b : Bool) → any f rows ≡ b → is_some r ≡ b
      go true t = ap is_some (e ∙ some_is t)
      go false t = ap is_some (e ∙ none_is t)

  -- the same, as `is_none` says it
  pub found_lacks : {r : Option ℕ} → r ≡ first_row f rows → {b : Bool} → is_some r ≡ not b → b ≡ not (any f rows)
  found_lacks e {b} h = go b (sym h ∙ found_any e)
    where
      go : (b : Bool) → not b ≡ any f rows → b ≡ not (any f rows)
      go true t = ap not t
      go false t = ap not t

  -- a new row goes into the one that is found free
  pub put_found : (new : A) {k : ℕ} → Some k ≡ first_row f rows → put f new rows ≡ set rows k new
  put_found new e = put_first f new rows ∙ ap (λ n. set rows n new) (sym (found_row e).is)

  pub put_missing : (new : A) → None ≡ first_row f rows → put f new rows ≡ rows
  put_missing new e = put_first f new rows ∙ set_out rows (first f 0 rows) new (omega (arith, none_first f rows (found_none e)))
