-- The tests of a call's fields, one after the other, and the number that the first of them to apply refuses with. Assumes nothing.
use mathlib.Core.Path.{◌≡◌, refl, sym}
use mathlib.Core.Bool.{Bool, true, false, not, ◌&&◌, ◌||◌}
use mathlib.Core.List.{List, [], ◌∷◌}
use Prim.Native.Nat.{ℕ}
use native.Mathlib.Omega.{arith}
use lib.Dec.{eqb}
use lib.ListN.{length}
use borrow.Author.Tests.{eq-eqb, ne_eqb}
use Rattle.std.proofs.Common.{Ok, Err}
use Rattle.model.specs.Lists.{empty}
use Rattle.model.specs.Refusals.{refused, granted, ◌when◌, ◌>>◌}
use Rattle.model.specs.Paths.{valid_path, valid_target}
use Rattle.model.specs.Records.{Call, row_of, known, not_blank, not_valid, blank, fork_call, fields_broken, paths_broken, well_formed}
use Rattle.fields.specs.declared.Numbers.{Numbers}
use Rattle.fields.specs.declared.table.Row.{Row}
use Rattle.fields.specs.declared.table.Wanted.{Wanted}
use Rattle.fields.specs.declared.table.Wanted.TheVariants.{Blank, Path, Target}
use Rattle.fields.specs.Rows.{coded_row, is_call, meant}
use Rattle.fields.specs.Given.{given, numbers_broken, fault_of}
use Rattle.fields.proofs.TableRows.{made_by_process, there_cell, argument_cell, path1_cell, path2_cell}

-- THE NUMBERS

or_true : (a : Bool) → (a || true) ≡ true
or_true true = refl
or_true false = refl

-- all but the zero bits
abbrev zeros_apart : Numbers → Row → Bool
zeros_apart n row =
    not (is_call row.0) || eqb n.process 0 || (eqb n.call fork_call && eqb n.argument 0)
    || (not row.1 && not (eqb n.argument 0))

module _ (n : Numbers) (row : Row) where
  pub zeros_set : (n.zeros ≡ 0 → ⊥) → numbers_broken n row ≡ true
  unfolding numbers_broken
  zeros_set z = rw (ne_eqb n.zeros 0 z) (or_true (zeros_apart n row))

  module _ {found : Bool} (asked : found ≡ is_call row.0) where
    pub no_such_call : not found ≡ true → numbers_broken n row ≡ true
    unfolding numbers_broken
    no_such_call e = rw (sym asked, e)

    pub process_none : not found ≡ false → n.process ≡ 0 → numbers_broken n row ≡ true
    unfolding numbers_broken
    process_none there e = rw (sym asked, there, eq-eqb n.process 0 e)

    module _ (there : not found ≡ false) (process : n.process ≡ 0 → ⊥) (zeros : n.zeros ≡ 0) where
      -- without an argument only fork is wrong
      pub no_argument : n.argument ≡ 0 → numbers_broken n row ≡ eqb n.call fork_call
      unfolding numbers_broken
      no_argument e =
          rw (sym asked, there, ne_eqb n.process 0 process, eq-eqb n.zeros 0 zeros, eq-eqb n.argument 0 e) (go (eqb n.call fork_call) row.1)
        where
          go : (f w : Bool) → ((f && true) || (not w && false) || false) ≡ f
          go true w = refl
          go false true = refl
          go false false = refl

      pub an_argument : (n.argument ≡ 0 → ⊥) → numbers_broken n row ≡ not row.1
      unfolding numbers_broken
      an_argument e =
          rw (sym asked, there, ne_eqb n.process 0 process, eq-eqb n.zeros 0 zeros, ne_eqb n.argument 0 e) (go (eqb n.call fork_call) row.1)
        where
          go : (f w : Bool) → ((f && false) || (not w && true) || false) ≡ not w
          go true true = refl
          go true false = refl
          go false true = refl
          go false false = refl

-- THE PATHS

blank_filled : (s : List ℕ) → not_blank blank s ≡ not (eqb (length s) 0)
unfolding not_blank empty
blank_filled [] = refl
blank_filled (b ∷ s) = rw (ne_eqb (length (b ∷ s)) 0 (λ e. omega arith))

module _ (w : Wanted) (s : List ℕ) where
  pub filled_at_blank : w ≡ Blank → not_blank (meant w) s ≡ not (eqb (length s) 0)
  unfolding meant
  filled_at_blank e = rw e (blank_filled s)

  pub filled_elsewhere : (w ≡ Blank → ⊥) → not_blank (meant w) s ≡ false
  unfolding meant not_blank
  filled_elsewhere f = go w f
    where
      go : (w : Wanted) → (w ≡ Blank → ⊥) → not_blank (meant w) s ≡ false
      go Blank g = absurd (g refl)
      go Path g = refl
      go Target g = refl

  pub valid_at_blank : w ≡ Blank → not_valid (meant w) s ≡ false
  unfolding meant not_valid
  valid_at_blank e = rw e

  pub valid_at_path : w ≡ Path → not_valid (meant w) s ≡ not (valid_path s)
  unfolding meant not_valid
  valid_at_path e = rw e

  pub valid_at_target : w ≡ Target → not_valid (meant w) s ≡ not (valid_target s)
  unfolding meant not_valid
  valid_at_target e = rw e

-- THE ORDER OF THE TESTS

-- the zero bits may be asked with the other numbers
zeros_earlier : (x e f g : Bool) → (x || e || f || g) ≡ (x || g || e || f)
zeros_earlier true e f g = refl
zeros_earlier false true f true = refl
zeros_earlier false true f false = refl
zeros_earlier false false true true = refl
zeros_earlier false false true false = refl
zeros_earlier false false false true = refl
zeros_earlier false false false false = refl

-- what is found by the row that the code looked up
module _ (n : Numbers) (p q : List ℕ) (r : Row) (e : r ≡ coded_row (row_of n.call)) {k : Bool} where
  pub fields_by_row : k ≡ (numbers_broken n r || not_blank (meant r.2) p || not_blank (meant r.3) q) → fields_broken (given n p q) ≡ k
  unfolding fields_broken numbers_broken known
  fields_by_row found =
      rw (
        found,
        ← there_cell r n.call e,
        made_by_process n.call,
        ← argument_cell r n.call e,
        path1_cell r n.call e,
        path2_cell r n.call e,
      )
      (zeros_earlier (zeros_apart n r) (not_blank (row_of n.call).path1 p) (not_blank (row_of n.call).path2 q) (not (eqb n.zeros 0)))

  pub paths_by_row : k ≡ (not_valid (meant r.2) p || not_valid (meant r.3) q) → paths_broken (given n p q) ≡ k
  unfolding paths_broken
  paths_by_row found = rw (found, path1_cell r n.call e, path2_cell r n.call e)

module _ (c : Call) where
  pub fields_first : fields_broken c ≡ true → fault_of (well_formed c) ≡ Err 2
  unfolding well_formed ◌>>◌ fault_of
  fields_first e = rw e

  pub paths_second : fields_broken c ≡ false → paths_broken c ≡ true → fault_of (well_formed c) ≡ Err 3
  unfolding well_formed ◌>>◌ fault_of
  paths_second e h = rw (e, h)

  pub nothing_third : fields_broken c ≡ false → paths_broken c ≡ false → fault_of (well_formed c) ≡ Ok tt
  unfolding well_formed ◌>>◌ fault_of
  nothing_third e h = rw (e, h)

-- WHAT THE ANSWER SAYS

module _ (c : Call) where
  pub fault_refuses : {n : ℕ} → Err n ≡ fault_of (well_formed c) → well_formed c ≡ refused n
  unfolding well_formed ◌>>◌ fault_of
  fault_refuses {n} e = go (fields_broken c) (paths_broken c) e
    where
      go : (a b : Bool) → Err n ≡ fault_of ((2 when a) >> ((3 when b) >> granted c)) → ((2 when a) >> ((3 when b) >> granted c)) ≡ refused n
      go true b q = cc
      go false true q = cc
      go false false q = cc

  pub no_fault : Ok tt ≡ fault_of (well_formed c) → well_formed c ≡ granted c
  unfolding well_formed ◌>>◌ fault_of
  no_fault e = go (fields_broken c) (paths_broken c) e
    where
      go : (a b : Bool) → Ok tt ≡ fault_of ((2 when a) >> ((3 when b) >> granted c)) → ((2 when a) >> ((3 when b) >> granted c)) ≡ granted c
      go true b q = cc
      go false true q = cc
      go false false q = refl
