-- Chains of rows by bucket, for any table: how they are built row by row. Assumes nothing.
use mathlib.Core.Path.{◌≡◌, refl, sym, ap, ◌∙◌}
use mathlib.Core.Bool.{Bool, true, false}
use mathlib.Core.List.{List}
use Prim.Native.Nat.{ℕ, zero, suc, ◌+◌, ◌-◌, ◌≤◌, ◌<◌}
use native.Mathlib.Omega.{arith}
use native.Mathlib.Numerals.{add-one}
use native.Mathlib.Decide.{dec_lt, ℕ_discrete}
use borrow.Author.Tests.{eqb-true, eq-eqb, ne_eqb}
use lib.ListN.{length, get_or, set, replicate, get_or-replicate, length-replicate, length-set}
use lib.Seq.{get_or-set_same, get_or-set_other}
use Rattle.laws.proofs.Bools.{clash, and_false, and_left, and_right, both, is_false}
use Rattle.index.specs.Buckets.{last_below, Chains, row_in, in_bucket, Linked, Chained}

-- THE LAST ROW BELOW

module _ (p : ℕ → Bool) where
  pub last_here : (i : ℕ) → p i ≡ true → last_below p (suc i) ≡ suc i
  unfolding last_below
  last_here i e = simp (e, last_below)

  pub last_earlier : (i : ℕ) → p i ≡ false → last_below p (suc i) ≡ last_below p i
  unfolding last_below
  last_earlier i e = simp (e, last_below)

  pub last_of_none : last_below p 0 ≡ 0
  unfolding last_below
  last_of_none = refl

  pub last_within : (i : ℕ) → last_below p i ≤ i
  unfolding last_below
  last_within zero = omega arith
  last_within (suc i) = go (p i) (last_within i)
    where
      go : (b : Bool) → last_below p i ≤ i → elim b as (λ _. ℕ) [ true ↦ suc i | false ↦ last_below p i ] ≤ suc i
      go true h = omega arith
      go false h = omega arith

  -- a row that passes is not behind it
  pub last_covers : (i j : ℕ) → j < i → p j ≡ true → j < last_below p i
  unfolding last_below
  last_covers zero j h t = absurd (omega arith)
  last_covers (suc i) j h t = go (p i) refl (λ a. last_covers i j a t)
    where
      go : (b : Bool) → p i ≡ b → (j < i → j < last_below p i) → j < elim b as (λ _. ℕ) [ true ↦ suc i | false ↦ last_below p i ]
      go true e r = h
      go false e r = elim (dec_lt j i) [ yes a ↦ r a | no n ↦ (let m : i ≡ j = omega arith in clash (ap p m ∙ t) e) ]

  pub last_passes : (i : ℕ) → (last_below p i ≡ 0 → ⊥) → p (last_below p i - 1) ≡ true
  unfolding last_below
  last_passes zero n = absurd (n refl)
  last_passes (suc i) n = go (p i) refl n (last_passes i)
    where
      go : (b : Bool) → p i ≡ b → (◌≡◌ {A = ℕ} (elim b as (λ _. ℕ) [ true ↦ suc i | false ↦ last_below p i ]) 0 → ⊥)
          → ((last_below p i ≡ 0 → ⊥) → p (last_below p i - 1) ≡ true)
          → p (elim b as (λ _. ℕ) [ true ↦ suc i | false ↦ last_below p i ] - 1) ≡ true
      go true e n r = let z : suc i - 1 ≡ i = omega arith in ap p z ∙ e
      go false e n r = r n

  -- where there is none, no row below passes
  pub none_below : (i : ℕ) → last_below p i ≡ 0 → (j : ℕ) → j < i → p j ≡ false
  none_below i z j h = is_false (p j) (λ t. let a = last_covers i j h t in let x : ⊥ = omega arith in x)

-- where m implies b, the last m below the last b is the last m
pub last_of_last : (m b : ℕ → Bool) → ((j : ℕ) → m j ≡ true → b j ≡ true) → (k : ℕ) → last_below m (last_below b k) ≡ last_below m k
unfolding last_below
last_of_last m b h zero = refl
last_of_last m b h (suc k) = go (b k) refl (last_of_last m b h k)
  where
    go : (c : Bool) → b k ≡ c → last_below m (last_below b k) ≡ last_below m k
        → last_below m (elim c as (λ _. ℕ) [ true ↦ suc k | false ↦ last_below b k ]) ≡ last_below m (suc k)
    go true e r = refl
    go false e r = r ∙ sym (last_earlier m k (is_false (m k) (λ t. clash (h k t) e)))

-- CHAINS BUILT ROW BY ROW

module _ {A : Type 0} (t : Chains A) where
  pub in_this_bucket : {b : ℕ} (k : ℕ) → t.chosen (row_in t k) ≡ true → t.bucket (row_in t k) ≡ b → in_bucket t b k ≡ true
  unfolding in_bucket
  in_this_bucket k e f = both e (eq-eqb _ _ f)

  pub chosen_row : (b k : ℕ) → in_bucket t b k ≡ true → t.chosen (row_in t k) ≡ true
  unfolding in_bucket
  chosen_row b k e = and_left (t.chosen (row_in t k)) _ e

  its_bucket : (b k : ℕ) → in_bucket t b k ≡ true → t.bucket (row_in t k) ≡ b
  unfolding in_bucket
  its_bucket b k e = eqb-true (t.bucket (row_in t k)) b (and_right (t.chosen (row_in t k)) _ e)

  not_chained : (b k : ℕ) → t.chosen (row_in t k) ≡ false → in_bucket t b k ≡ false
  unfolding in_bucket
  not_chained b k e = rw e

  in_other_bucket : (b k : ℕ) → (t.bucket (row_in t k) ≡ b → ⊥) → in_bucket t b k ≡ false
  unfolding in_bucket
  in_other_bucket b k n = and_false (t.chosen (row_in t k)) _ (λ _. ne_eqb (t.bucket (row_in t k)) b n)

  pub link_at : (next : List ℕ) (i : ℕ) → Linked t next i → (k : ℕ) → k < i → (b : ℕ) → in_bucket t b k ≡ true
      → get_or next k 0 ≡ last_below (in_bucket t b) k
  unfolding Linked
  link_at next i l = l

  module _ (heads next : List ℕ) where
    pub chained_none : heads ≡ replicate t.size 0 → next ≡ replicate t.rows 0 → Chained t heads next 0
    unfolding Linked
    chained_none e l =
        record {
          inside = omega arith;
          heads_long = ap length e ∙ length-replicate {A = ℕ} t.size 0;
          next_long = ap length l ∙ length-replicate {A = ℕ} t.rows 0;
          heads_right = λ b a. ap (λ x. get_or x b 0) e ∙ get_or-replicate t.size b 0 0 a ∙ sym (last_of_none (in_bucket t b));
          linked = λ k a b u. absurd (let z : ⊥ = omega arith in z);
        }

    module _ {i : ℕ} (c : Chained t heads next i) (r : i < t.rows) where
      pub chained_past : t.chosen (row_in t i) ≡ false → Chained t heads next (i + 1)
      unfolding Linked
      chained_past z =
          record {
            inside = omega arith;
            heads_long = c.heads_long;
            next_long = c.next_long;
            heads_right = λ b a.
                c.heads_right b a ∙ sym (last_earlier (in_bucket t b) i (not_chained b i z)) ∙ ap (last_below (in_bucket t b)) (sym (add-one i));
            linked = λ k a b u. elim (dec_lt k i) [
              | yes h ↦ c.linked k h b u
              | no n ↦ (let m : k ≡ i = omega arith in clash u (ap (in_bucket t b) m ∙ not_chained b i z))
            ];
          }

      pub chained_more : {h : ℕ} → t.chosen (row_in t i) ≡ true → h ≡ t.bucket (row_in t i) → h < t.size
          → Chained t (set heads h (i + 1)) (set next i (get_or heads h 0)) (i + 1)
      unfolding Linked
      chained_more {h} u g s =
          let l : h < length heads = omega (arith, c.heads_long) in
          let m : i < length next = omega (arith, c.next_long) in
          record {
            inside = omega arith;
            heads_long = length-set heads h (i + 1) ∙ c.heads_long;
            next_long = length-set next i (get_or heads h 0) ∙ c.next_long;
            heads_right = λ b a. elim (ℕ_discrete b h) [
              | yes e ↦ ap (λ y. get_or (set heads h (i + 1)) y 0) e ∙ get_or-set_same heads h (i + 1) 0 l ∙ add-one i
                  ∙ sym (last_here (in_bucket t b) i (in_this_bucket i u (sym (e ∙ g))))
                  ∙ ap (last_below (in_bucket t b)) (sym (add-one i))
              | no n ↦ get_or-set_other heads h b (i + 1) 0 n ∙ c.heads_right b a
                  ∙ sym (last_earlier (in_bucket t b) i (in_other_bucket b i (λ e. n (sym e ∙ sym g))))
                  ∙ ap (last_below (in_bucket t b)) (sym (add-one i))
            ];
            linked = λ k a b v. elim (dec_lt k i) [
              | yes e ↦ get_or-set_other next i k (get_or heads h 0) 0 (λ (q : k ≡ i). let z : ⊥ = omega arith in z) ∙ c.linked k e b v
              | no n ↦ (let e : k ≡ i = omega arith in
                  let f : h ≡ b = g ∙ sym (ap (λ y. t.bucket (row_in t y)) e) ∙ its_bucket b k v in
                  ap (λ y. get_or (set next i (get_or heads h 0)) y 0) e ∙ get_or-set_same next i (get_or heads h 0) 0 m
                  ∙ c.heads_right h s ∙ ap (λ y. last_below (in_bucket t y) i) f ∙ ap (last_below (in_bucket t b)) (sym e))
            ];
          }
