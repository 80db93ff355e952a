-- Names by their blocks: two blocks of names are the same where the names are. Assumes nothing.
use mathlib.Core.Path.{◌≡◌, refl, sym, ap, ◌∙◌}
use mathlib.Core.Bool.{Bool, true, false, ◌&&◌}
use mathlib.Core.List.{List, [], ◌∷◌}
use Prim.Native.Nat.{ℕ}
use native.Mathlib.Omega.{arith}
use borrow.Author.Tests.{eq-eqb, eqb-true}
use lib.Dec.{eqb}
use lib.ListN.{length, get_or}
use Rattle.model.specs.Lists.{same}
use Rattle.model.specs.Paths.{Name}
use Rattle.model.specs.Words.{pack_name, unpack_name}
use Rattle.laws.proofs.Bools.{and_left, and_right}
use Rattle.laws.proofs.Pieces.{same_self, same_equal}
use Rattle.rows.specs.declared.Block.{Block}
use Rattle.rows.specs.Blocks.{block_words, name_of, Named, block_of, same_block}
use Rattle.laws.proofs.Words.{name_wide}

pub same_when : (p q : Bool) → (p ≡ true → q ≡ true) → (q ≡ true → p ≡ true) → p ≡ q
same_when true q f g = sym (f refl)
same_when false true f g = g refl
same_when false false f g = refl

-- TWO BLOCKS COMPARED, word by word

module _ (a b : Block) where
  pub same_block_is : same_block a b ≡ true → a ≡ b
  unfolding same_block
  same_block_is e =
      let t = and_right (eqb a.first b.first) (eqb a.second b.second && (eqb a.third b.third && eqb a.fourth b.fourth)) e in
      let f = and_right (eqb a.second b.second) (eqb a.third b.third && eqb a.fourth b.fourth) t in
      let x = eqb-true a.first b.first (and_left (eqb a.first b.first) (eqb a.second b.second && (eqb a.third b.third && eqb a.fourth b.fourth)) e) in
      let y = eqb-true a.second b.second (and_left (eqb a.second b.second) (eqb a.third b.third && eqb a.fourth b.fourth) t) in
      let z = eqb-true a.third b.third (and_left (eqb a.third b.third) (eqb a.fourth b.fourth) f) in
      let u = eqb-true a.fourth b.fourth (and_right (eqb a.third b.third) (eqb a.fourth b.fourth) f) in
      λ i. record { first = x i; second = y i; third = z i; fourth = u i }

  same_words : block_words a ≡ block_words b → same_block a b ≡ true
  unfolding same_block
  same_words e =
      let x : a.first ≡ b.first = cc in
      let y : a.second ≡ b.second = cc in
      let z : a.third ≡ b.third = cc in
      let u : a.fourth ≡ b.fourth = cc in
      simp (eq-eqb a.first b.first x, eq-eqb a.second b.second y, eq-eqb a.third b.third z, eq-eqb a.fourth b.fourth u)

-- BLOCKS OF NAMES

pub same_blocks_same_names : (a b : Block) → Named a → Named b → same_block a b ≡ same (name_of a) (name_of b)
unfolding Named
same_blocks_same_names a b p q =
    same_when (same_block a b) (same (name_of a) (name_of b))
    (λ e. ap (λ x. same (name_of a) (name_of x)) (sym (same_block_is a b e)) ∙ same_self (name_of a))
    (λ e. same_words a b (sym p ∙ ap pack_name (same_equal (name_of a) (name_of b) e) ∙ q))

four_long : (l : List ℕ) → length l ≡ 4 → get_or l 0 0 ∷ get_or l 1 0 ∷ get_or l 2 0 ∷ get_or l 3 0 ∷ [] ≡ l
four_long [] h = let z : ⊥ = omega arith in absurd z
four_long (a ∷ []) h = let z : ⊥ = omega arith in absurd z
four_long (a ∷ b ∷ []) h = let z : ⊥ = omega arith in absurd z
four_long (a ∷ b ∷ c ∷ []) h = let z : ⊥ = omega arith in absurd z
four_long (a ∷ b ∷ c ∷ d ∷ []) h = refl
four_long (a ∷ b ∷ c ∷ d ∷ x ∷ l) h = let z : ⊥ = omega arith in absurd z

pub block_of_words : (n : Name) → block_words (block_of n) ≡ pack_name n
unfolding block_of
block_of_words n = four_long (pack_name n) (name_wide n)

-- a name that its block gives back
module _ (n : Name) (e : unpack_name (pack_name n) ≡ n) where
  pub name_back : name_of (block_of n) ≡ n
  unfolding name_of
  name_back = ap unpack_name (block_of_words n) ∙ e

  pub block_named : Named (block_of n)
  unfolding Named
  block_named = ap pack_name name_back ∙ sym (block_of_words n)

  -- compared with any block of a name
  pub same_name_block : (b : Block) → Named b → same_block (block_of n) b ≡ same n (name_of b)
  same_name_block b q = same_blocks_same_names (block_of n) b block_named q ∙ ap (λ m. same m (name_of b)) name_back
