-- End holds by their chains: each agrees with all before it where it agrees with the last of them on its place. Assumes nothing.
use mathlib.Core.Path.{◌≡◌, subst, sym, ap, ap₂, ◌∙◌}
use mathlib.Core.Bool.{Bool, true, false, ◌||◌}
use mathlib.Core.List.{List}
use Prim.Native.Nat.{ℕ, suc, ◌+◌, ◌-◌, ◌≤◌, ◌<◌}
use native.Mathlib.Omega.{arith}
use native.Mathlib.Decide.{dec_lt, ℕ_discrete}
use borrow.Author.Tests.{eqb-true, eq-eqb, ne_eqb}
use lib.Dec.{eqb}
use lib.ListN.{length, get_or}
use Rattle.model.specs.Lists.{all}
use Rattle.model.specs.Tables.{Hold, Process, no_hold, free_hold, hold_rows, end_role, same_place, user_of}
use Rattle.model.specs.Sound.{each_used, is_end, agree, ends_of_one_user}
use Rattle.model.specs.Words.{unpack}
use Rattle.laws.proofs.Bools.{clash, and_left, and_right, both, or_left, or_right, is_false}
use Rattle.laws.proofs.Each.{each_by_place, each_passes}
use Rattle.laws.proofs.HoldPairs.{agree_when, agreed_users}
use Rattle.laws.proofs.Members.{at_in, all_in}
use Rattle.laws.proofs.Places.{same_place_self, same_place_equal}
use Rattle.rows.specs.Stands.{hold_row}
use Rattle.rows.proofs.Fields.{hold_row_fits}
use Rattle.rows.proofs.Parts.{holds_full}
use Rattle.index.specs.Buckets.{no_links, with_row, last_below, in_bucket, Chained, Chain, Asked, Last}
use Rattle.index.proofs.Buckets.{last_within, last_passes, none_below, chained_none, chained_past, chained_more}
use Rattle.index.proofs.Descents.{bucket_chain, bucket_asked, last_passing}
use Rattle.hold_rules.specs.Used.{used_rows}
use Rattle.hold_rules.specs.Chains.{hold_buckets, HoldIndex, EndsBefore, place_bucket, end_chains, end_on, end_at_row, user_of_row, last_agrees}
use Rattle.hold_rules.proofs.Used.{free_behind}

agree_swap : (processes : List Process) (x y : Hold) → agree processes x y ≡ true → agree processes y x ≡ true
agree_swap processes x y a = agree_when processes y x (λ p q s. sym (agreed_users processes x y a q p (sym s)))

-- a row with an end hold is used
end_used : (w : List ℕ) (k : ℕ) → is_end (hold_row w k) ≡ true → free_hold (hold_row w k) ≡ false
unfolding is_end free_hold
end_used w k t =
    ne_eqb (hold_row w k).place.directory 0 (λ z.
    let e = ap (λ (h : Hold). h.role) ((hold_row_fits w k).free z) in
    let o = eqb-true (hold_row w k).role end_role t in
    let x : ⊥ = omega arith in x)

-- the end holds before row i in the bucket of its place: whether one is on the place may be asked of each, and the answers find the last
module _ (w : List ℕ) (i : ℕ) (r : i < hold_rows) {next : List ℕ} {from : ℕ}
    (c : Chain (in_bucket (end_chains (unpack w).holds) (place_bucket (hold_row w i).place)) next from i) where
  pub ends_asked : {may : ℕ → Type 0} → ((k : ℕ) → k < hold_rows → may k) → Asked may next from
  ends_asked m = bucket_asked _ _ c (λ k l _. m k (omega (arith, l)))

  pub ends_last : {says : ℕ → Bool → Type 0} {found : ℕ} → Last says next from found
      → ((k : ℕ) (answer : Bool) → says k answer → answer ≡ same_place (hold_row w k).place (hold_row w i).place) → found ≡ last_below (end_at_row w i) i
  ends_last found told =
      last_passing _ _ c found (end_on (hold_row w i).place) (λ k answer _ chosen a. told k answer a ∙ sym (rw chosen))
      (λ x t. (and_left (is_end x) _ t, ap place_bucket (same_place_equal x.place (hold_row w i).place (and_right (is_end x) _ t))))

-- row i compared with the last before it
module _ (w : List ℕ) (i : ℕ) where
  pub no_last : 0 ≡ last_below (end_at_row w i) i → true ≡ last_agrees w i
  unfolding last_agrees
  no_last z = sym (or_left _ (eq-eqb (last_below (end_at_row w i) i) 0 (sym z)))

  module _ {row : ℕ} (e : suc row ≡ last_below (end_at_row w i) i) where
    pub last_row : i < hold_rows → row < hold_rows
    last_row h = omega (arith, last_within (end_at_row w i) i)

    pub users_decide : {p q u v : ℕ} → p ≡ (hold_row w row).process → u ≡ user_of (unpack w).processes p → q ≡ (hold_row w i).process
        → v ≡ user_of (unpack w).processes q → eqb u v ≡ last_agrees w i
    unfolding last_agrees
    users_decide a b c d =
        let here : row ≡ last_below (end_at_row w i) i - 1 = omega arith in
        ap₂ eqb (b ∙ ap (user_of (unpack w).processes) a ∙ ap (user_of_row w) here) (d ∙ ap (user_of (unpack w).processes) c)
        ∙ sym (rw (ne_eqb (last_below (end_at_row w i) i) 0 (λ y. omega arith)))

-- BEFORE ROW i IS LOOKED AT

abbrev rows_agree : List ℕ → ℕ → ℕ → Bool
rows_agree w j k = agree (unpack w).processes (hold_row w j) (hold_row w k)

abbrev agrees_with_all : List ℕ → Hold → Bool
agrees_with_all w x = free_hold x || all (agree (unpack w).processes x) (unpack w).holds

pub record Agreeing (w : List ℕ) (x : HoldIndex) (i : ℕ) : Type 0 where
  pub chained : Chained (end_chains (unpack w).holds) x.heads x.next i
  pub agreed : (j k : ℕ) → j < k → k < i → agree (unpack w).processes (hold_row w j) (hold_row w k) ≡ true

module _ (w : List ℕ) {x : HoldIndex} where
  pub agreeing_starts : x ≡ no_links → Agreeing w x 0
  agreeing_starts e =
      record {
        chained = chained_none (end_chains (unpack w).holds) x.heads x.next (ap (λ (x : HoldIndex). x.heads) e) (ap (λ (x : HoldIndex). x.next) e);
        agreed = λ j k a b. absurd (let z : ⊥ = omega arith in z);
      }

  -- of any two rows before
  all_agreed : {i : ℕ} → Agreeing w x i → (j k : ℕ) → j < i → k < i → rows_agree w j k ≡ true
  all_agreed g j k a b =
      elim (dec_lt j k) [
        | yes l ↦ g.agreed j k l b
        | no l ↦ elim (dec_lt k j) [
          | yes m ↦ agree_swap (unpack w).processes (hold_row w k) (hold_row w j) (g.agreed k j m a)
          | no m ↦ (let q : j ≡ k = omega arith in
              agree_when (unpack w).processes (hold_row w j) (hold_row w k) (λ _ _ _. ap (user_of_row w) q))
        ]
      ]

  module _ {i : ℕ} (g : Agreeing w x i) (r : i < hold_rows) {n : ℕ} (e : n ≡ (hold_row w i).role) where
    -- all before agree, and row i with all before
    with_this : ((j : ℕ) → j < i → rows_agree w j i ≡ true) → (j k : ℕ) → j < k → k < i + 1 → rows_agree w j k ≡ true
    with_this h j k a b =
        elim (dec_lt k i) [ yes l ↦ g.agreed j k a l | no m ↦ (let q : k ≡ i = omega arith in ap (rows_agree w j) q ∙ h j (omega arith)) ]

    -- a row with no end hold agrees with all
    pub agreeing_past : (n ≡ end_role → ⊥) → Agreeing w x (i + 1)
    unfolding is_end
    agreeing_past m =
        let no_end : is_end (hold_row w i) ≡ false = ne_eqb (hold_row w i).role end_role (λ q. m (e ∙ q)) in
        record {
          chained = chained_past (end_chains (unpack w).holds) x.heads x.next g.chained r no_end;
          agreed = with_this (λ j a. agree_when (unpack w).processes (hold_row w j) (hold_row w i) (λ p q s. clash q no_end));
        }

    module _ (one : n ≡ end_role) where
      this_end : is_end (hold_row w i) ≡ true
      unfolding is_end
      this_end = eq-eqb (hold_row w i).role end_role (sym e ∙ one)

      pub ends_before : {h : ℕ} → h ≡ place_bucket (hold_row w i).place → h < hold_buckets → EndsBefore w x h i
      ends_before {h} f s =
          let its : ℕ → Type 0 = λ b. Chain (in_bucket (end_chains (unpack w).holds) b) x.next (get_or x.heads h 0) i in
          record { inside = s; chain = subst its f (bucket_chain g.chained s) }

      abbrev last : ℕ
      last = last_below (end_at_row w i) i

      -- the last before row i, where there is one
      module _ (z : last ≡ 0 → ⊥) where
        at_last : end_at_row w i (last - 1) ≡ true
        at_last = last_passes (end_at_row w i) i z

        last_low : last - 1 < i
        last_low = omega (arith, last_within (end_at_row w i) i)

        last_end : is_end (hold_row w (last - 1)) ≡ true
        last_end = and_left (is_end (hold_row w (last - 1))) _ at_last

        last_place : (hold_row w (last - 1)).place ≡ (hold_row w i).place
        last_place =
            same_place_equal (hold_row w (last - 1)).place (hold_row w i).place (and_right (is_end (hold_row w (last - 1))) _ at_last)

        -- every end hold on the place has its user
        user_of_last : (j : ℕ) → j < i → is_end (hold_row w j) ≡ true → (hold_row w j).place ≡ (hold_row w i).place
            → user_of_row w j ≡ user_of_row w (last - 1)
        user_of_last j a p s =
            agreed_users (unpack w).processes (hold_row w j) (hold_row w (last - 1)) (all_agreed g j (last - 1) a last_low) p last_end (s ∙ sym last_place)

      pub agreeing_more : last_agrees w i ≡ true → {h : ℕ} → h ≡ place_bucket (hold_row w i).place → h < hold_buckets
          → Agreeing w (with_row x h i) (i + 1)
      unfolding last_agrees
      agreeing_more t f s =
          record {
            chained = chained_more (end_chains (unpack w).holds) x.heads x.next g.chained r this_end f s;
            agreed = with_this (λ j a. agree_when (unpack w).processes (hold_row w j) (hold_row w i) (λ p q v. one_user j a p v));
          }
        where
          one_user : (j : ℕ) → j < i → is_end (hold_row w j) ≡ true → (hold_row w j).place ≡ (hold_row w i).place
              → user_of_row w j ≡ user_of_row w i
          one_user j a p v =
              elim (ℕ_discrete last 0) [
                | yes z ↦ clash (both p (rw v (same_place_self (hold_row w i).place))) (none_below (end_at_row w i) i z j a)
                | no z ↦ user_of_last z j a p v ∙ eqb-true (user_of_row w (last - 1)) (user_of_row w i) (rw (ne_eqb last 0 z) at t)
              ]

      pub agreeing_broken : last_agrees w i ≡ false → false ≡ ends_of_one_user (unpack w)
      unfolding last_agrees ends_of_one_user each_used
      agreeing_broken b = sym (is_false (all (agrees_with_all w) (unpack w).holds) broken)
        where
          some : last ≡ 0 → ⊥
          some z = clash (or_left (eqb (user_of_row w (last - 1)) (user_of_row w i)) (eq-eqb last 0 z)) b

          broken : all (agrees_with_all w) (unpack w).holds ≡ true → ⊥
          broken t =
              let before : last - 1 < length (unpack w).holds = omega (arith, last_low some, holds_full w) in
              let this : i < length (unpack w).holds = omega (arith, holds_full w) in
              let x : agrees_with_all w (hold_row w (last - 1)) ≡ true
              = all_in (agrees_with_all w) (unpack w).holds t (at_in (unpack w).holds (last - 1) no_hold before) in
              let y = all_in (agree (unpack w).processes (hold_row w (last - 1))) (unpack w).holds (rw (end_used w (last - 1) (last_end some)) at x)
              (at_in (unpack w).holds i no_hold this) in
              clash (or_right (eqb last 0) (eq-eqb (user_of_row w (last - 1)) (user_of_row w i)
              (agreed_users (unpack w).processes (hold_row w (last - 1)) (hold_row w i) y (last_end some) this_end (last_place some)))) b

  pub agreeing_ends : {i rows : ℕ} → Agreeing w x i → rows ≡ used_rows w → rows ≤ i → true ≡ ends_of_one_user (unpack w)
  unfolding ends_of_one_user each_used
  agreeing_ends {i} g e h =
      sym (each_passes (agrees_with_all w) (each_by_place (unpack w).holds no_hold (λ j a.
      or_right (free_hold (hold_row w j)) (each_passes (agree (unpack w).processes (hold_row w j)) (each_by_place (unpack w).holds no_hold (λ k b.
      any_two j k (omega (arith, holds_full w)) (omega (arith, holds_full w))))))))
    where
      -- a row behind those in use has no end hold
      before : (k : ℕ) → k < hold_rows → is_end (hold_row w k) ≡ true → k < i
      before k b t = elim (dec_lt k i) [ yes l ↦ l | no n ↦ clash (free_behind w e k (omega arith) b) (end_used w k t) ]

      any_two : (j k : ℕ) → j < hold_rows → k < hold_rows → rows_agree w j k ≡ true
      any_two j k a b =
          agree_when (unpack w).processes (hold_row w j) (hold_row w k) (λ p q s.
          agreed_users (unpack w).processes (hold_row w j) (hold_row w k) (all_agreed g j k (before j a p) (before k b q)) p q s)
