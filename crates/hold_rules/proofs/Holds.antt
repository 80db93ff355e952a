-- Holds by their chains: what the code needs while it looks for a hold that stands in two rows. Assumes nothing.
use mathlib.Core.Path.{◌≡◌, refl, sym, ap, ap₂, ◌∙◌}
use mathlib.Core.Bool.{Bool, true, false, not}
use mathlib.Core.List.{List}
use Prim.Native.Nat.{ℕ, ◌+◌, ◌-◌, ◌*◌, ◌%◌, ◌≤◌, ◌<◌}
use native.Mathlib.Omega.{arith}
use borrow.Author.Tests.{eq-eqb, ne_eqb}
use lib.ListN.{get_or}
use Rattle.model.specs.Tables.{Place, Hold, free_hold, hold_rows}
use Rattle.model.specs.Sound.{same_hold, holds_distinct}
use Rattle.model.specs.Words.{unpack}
use Rattle.laws.proofs.Places.{same_hold_one, free_together}
use Rattle.rows.specs.Stands.{hold_row}
use Rattle.rows.proofs.Parts.{holds_full}
use Rattle.index.specs.Buckets.{no_links, with_row, last_below, Asked, Last}
use Rattle.index.proofs.Apart.{Comparable, ApartChained, apart_starts, apart_past, apart_more, apart_twice, apart_behind, apart_ends}
use Rattle.index.proofs.Descents.{bucket_chain, bucket_asked, last_passing}
use Rattle.hold_rules.specs.Used.{used_rows}
use Rattle.hold_rules.specs.Chains.{hold_buckets, HoldIndex, place_sum, hold_bucket, hold_chains, same_as_row}
use Rattle.hold_rules.proofs.Used.{free_behind}

-- the same hold is of one bucket: place and process alone decide
same_bucket : (x y : Hold) → same_hold x y ≡ true → hold_bucket x ≡ hold_bucket y
same_bucket x y same =
    let one = same_hold_one x y same in
    ap₂ (λ (q : Place) (p : ℕ). (place_sum q + p * 401) % hold_buckets) one.place one.process

comparable : (w : List ℕ) → Comparable (hold_chains (unpack w).holds) free_hold same_hold
comparable w = record { full = holds_full w; used = λ x. refl; together = free_together }

-- what holds before row i is looked at
abbrev pub Comparing : List ℕ → HoldIndex → ℕ → Type 0
Comparing w x i = ApartChained (hold_chains (unpack w).holds) free_hold same_hold x.heads x.next i

module _ (w : List ℕ) {x : HoldIndex} where
  pub comparing_starts : x ≡ no_links → Comparing w x 0
  comparing_starts e = apart_starts (comparable w) (ap (λ (x : HoldIndex). x.heads) e) (ap (λ (x : HoldIndex). x.next) e)

  module _ {i : ℕ} (g : Comparing w x i) (r : i < hold_rows) {d : ℕ} (e : d ≡ (hold_row w i).place.directory) where
    pub comparing_past : d ≡ 0 → Comparing w x (i + 1)
    unfolding free_hold
    comparing_past z = apart_past (comparable w) g r (eq-eqb (hold_row w i).place.directory 0 (sym e ∙ z))

    module _ (u : d ≡ 0 → ⊥) where
      this_used : free_hold (hold_row w i) ≡ false
      unfolding free_hold
      this_used = ne_eqb (hold_row w i).place.directory 0 (λ z. u (e ∙ z))

      -- only rows of its bucket have the row's hold: whether a row has it may be asked of each, and the answers find the last
      module _ {h : ℕ} (f : h ≡ hold_bucket (hold_row w i)) (s : h < hold_buckets) where
        pub same_asked : {may : ℕ → Type 0} → ((k : ℕ) → k < hold_rows → may k) → Asked may x.next (get_or x.heads h 0)
        same_asked m = bucket_asked _ _ (bucket_chain g.chained s) (λ k l _. m k (omega (arith, l)))

        pub same_last : {says : ℕ → Bool → Type 0} {found : ℕ} → Last says x.next (get_or x.heads h 0) found
            → ((k : ℕ) (answer : Bool) → says k answer → answer ≡ same_as_row w i k) → found ≡ last_below (same_as_row w i) i
        same_last found told =
            last_passing _ _ (bucket_chain g.chained s) found (λ x. same_hold x (hold_row w i)) (λ k answer _ _ a. told k answer a)
            (λ x same. (ap not (free_together x (hold_row w i) same ∙ this_used), same_bucket x (hold_row w i) same ∙ sym f))

      module _ {l : ℕ} (last : l ≡ last_below (same_as_row w i) i) where
        pub comparing_more : l ≡ 0 → {h : ℕ} → h ≡ hold_bucket (hold_row w i) → h < hold_buckets
            → Comparing w (with_row x h i) (i + 1)
        comparing_more z f s = apart_more (comparable w) g r this_used last z f s

        pub comparing_twice : (l ≡ 0 → ⊥) → false ≡ holds_distinct (unpack w)
        unfolding holds_distinct
        comparing_twice = apart_twice (comparable w) g r this_used last

  pub comparing_ends : {i rows : ℕ} → Comparing w x i → rows ≡ used_rows w → rows ≤ i → true ≡ holds_distinct (unpack w)
  unfolding holds_distinct
  comparing_ends {i} g e h =
      let r = g.chained.inside in
      let end : hold_rows ≤ hold_rows = omega arith in
      let all : Comparing w x hold_rows
      = apart_behind (comparable w) (hold_rows - i) (omega arith) (λ k a b. free_behind w e k (omega arith) b) g in
      apart_ends (comparable w) all end
