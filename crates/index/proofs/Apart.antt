-- Distinct rows found by chains, for any table: each used row is looked for among those before it, and then chained. Assumes nothing.
use mathlib.Core.Path.{◌≡◌, sym, ap, subst, ◌∙◌}
use mathlib.Core.Bool.{Bool, true, false, not}
use mathlib.Core.List.{List}
use Prim.Native.Nat.{ℕ, zero, suc, ◌+◌, ◌-◌, ◌≤◌, ◌<◌}
use native.Mathlib.Omega.{arith}
use lib.ListN.{length, get_or, set, replicate}
use Rattle.model.specs.Lists.{distinct}
use Rattle.laws.proofs.Bools.{clash, is_false}
use Rattle.laws.proofs.Distinct.{UnlikeBelow, unlike_more, unlike_none, unlike_distinct, alike_twice}
use Rattle.index.specs.Buckets.{last_below, Chains, row_in, Chained}
use Rattle.index.proofs.Buckets.{last_within, last_passes, none_below, chained_none, chained_past, chained_more}

module _ {A : Type 0} (t : Chains A) (free : A → Bool) (alike : A → A → Bool) where
  -- a table whose used rows are chained, and whose rows that are alike are free or used together
  pub record Comparable : Type 0 where
    pub full : length t.every ≡ t.rows
    pub used : (x : A) → t.chosen x ≡ not (free x)
    pub together : (x y : A) → alike x y ≡ true → free x ≡ free y

  -- what holds before row i is looked at
  pub record ApartChained (heads next : List ℕ) (i : ℕ) : Type 0 where
    pub chained : Chained t heads next i
    pub unlike : UnlikeBelow free alike t.none t.every i

module _ {A : Type 0} {t : Chains A} {free : A → Bool} {alike : A → A → Bool} (o : Comparable t free alike) {heads next : List ℕ} where
  pub apart_starts : heads ≡ replicate t.size 0 → next ≡ replicate t.rows 0 → ApartChained t free alike heads next 0
  apart_starts e l = record { chained = chained_none t heads next e l; unlike = unlike_none free alike t.none t.every }

  module _ {i : ℕ} (g : ApartChained t free alike heads next i) (r : i < t.rows) where
    -- a free row is like no used one
    pub apart_past : free (row_in t i) ≡ true → ApartChained t free alike heads next (i + 1)
    apart_past z =
        record {
          chained = chained_past t heads next g.chained r (o.used (row_in t i) ∙ ap not z);
          unlike =
              unlike_more free alike t.none t.every i g.unlike (λ j a u.
              is_false (alike (row_in t j) (row_in t i)) (λ same. clash (o.together (row_in t j) (row_in t i) same ∙ z) u));
        }

    module _ (u : free (row_in t i) ≡ false) {l : ℕ} (last : l ≡ last_below (λ k. alike (row_in t k) (row_in t i)) i) where
      abbrev like_this : ℕ → Bool
      like_this k = alike (row_in t k) (row_in t i)

      -- a used row that none before it is like
      pub apart_more : l ≡ 0 → {h : ℕ} → h ≡ t.bucket (row_in t i) → h < t.size
          → ApartChained t free alike (set heads h (i + 1)) (set next i (get_or heads h 0)) (i + 1)
      apart_more z e s =
          record {
            chained = chained_more t heads next g.chained r (o.used (row_in t i) ∙ ap not u) e s;
            unlike = unlike_more free alike t.none t.every i g.unlike (λ j a v. none_below like_this i (sym last ∙ z) j a);
          }

      -- a used row that one before it is like
      pub apart_twice : (l ≡ 0 → ⊥) → false ≡ distinct free alike t.every
      apart_twice n =
          let j = last_below like_this i - 1 in
          let some : last_below like_this i ≡ 0 → ⊥ = λ q. n (last ∙ q) in
          let same : like_this j ≡ true = last_passes like_this i some in
          let b = last_within like_this i in
          sym (alike_twice free alike t.none t.every j i (omega arith) (omega (arith, o.full))
          (o.together (row_in t j) (row_in t i) same ∙ u) same)

  -- the same for every row from i on, where all of them are free
  pub apart_behind : (n : ℕ) {i : ℕ} → i + n ≡ t.rows → ((k : ℕ) → i ≤ k → k < t.rows → free (row_in t k) ≡ true)
      → ApartChained t free alike heads next i → ApartChained t free alike heads next t.rows
  apart_behind zero {i} e f g = let q : i ≡ t.rows = omega arith in subst (ApartChained t free alike heads next) q g
  apart_behind (suc n) {i} e f g =
      apart_behind n (omega arith) (λ k a b. f k (omega arith) b) (apart_past g (omega arith) (f i (omega arith) (omega arith)))

  module _ {i : ℕ} (g : ApartChained t free alike heads next i) (h : t.rows ≤ i) where
    at_end : i ≡ t.rows
    at_end = omega (arith, g.chained.inside)

    pub apart_ends : true ≡ distinct free alike t.every
    apart_ends =
        sym (unlike_distinct free alike t.none t.every
        (subst (UnlikeBelow free alike t.none t.every) (at_end ∙ sym o.full) g.unlike))

    pub all_chained : Chained t heads next t.rows
    all_chained = subst (Chained t heads next) at_end g.chained
