-- Processes by their chains: what the code needs while it builds the index, and what a lookup finds by it. Assumes nothing.
use mathlib.Core.Path.{◌≡◌, refl, sym, ap, ◌∙◌}
use mathlib.Core.Bool.{Bool, true, false, not}
use mathlib.Core.List.{List}
use Prim.Native.Nat.{ℕ, suc, ◌+◌, ◌-◌, ◌%◌, ◌≤◌, ◌<◌}
use native.Mathlib.Omega.{arith}
use borrow.Author.Tests.{eqb-true, eq-eqb, ne_eqb}
use lib.Dec.{eqb}
use lib.ListN.{get_or}
use Rattle.std.specs.Prelude.{Option, Some, None}
use Rattle.std.specs.Option.{is_some}
use Rattle.model.specs.Lists.{find, any}
use Rattle.model.specs.Tables.{Process, no_process, free_process, is_process, listed, user_of, process_rows}
use Rattle.model.specs.Sound.{same_process, processes_distinct}
use Rattle.model.specs.Words.{unpack}
use Rattle.laws.proofs.Distinct.{none_by_place}
use Rattle.laws.proofs.Members.{◌∈◌, at_in, in_any, each_in, find_in}
use Rattle.laws.proofs.Rules.{find_only}
use Rattle.laws.proofs.Searches.{find_missing}
use Rattle.laws.proofs.Words.{ProcessFits, unpacked_fits}
use Rattle.rows.specs.Stands.{Stands, process_row}
use Rattle.rows.proofs.Parts.{processes_full}
use Rattle.index.specs.Buckets.{no_links, with_row, last_below, counted, Chained, Asked, Last}
use Rattle.index.proofs.Apart.{Comparable, ApartChained, apart_starts, apart_past, apart_more, apart_twice, apart_ends, all_chained}
use Rattle.index.proofs.Buckets.{last_within, last_passes, none_below}
use Rattle.index.proofs.Descents.{bucket_chain, bucket_asked, last_passing}
use Rattle.process_index.specs.Processes.{process_buckets, ProcessIndex, process_chains, row_of, ProcessesIndexed}

-- a process of a number is that number's
numbered : {p : ℕ} (x : Process) → is_process p x ≡ true → x.number ≡ p
unfolding is_process
numbered {p} x e = eqb-true x.number p e

-- a row of number 0 is free
without_number : (x : Process) → x.number ≡ 0 → free_process x ≡ true
unfolding free_process
without_number x z = eq-eqb x.number 0 z

with_number : (x : Process) → (x.number ≡ 0 → ⊥) → free_process x ≡ false
unfolding free_process
with_number x n = ne_eqb x.number 0 n

-- the chain of a number, with the rows below i, begins at its bucket's head
module _ (w : List ℕ) {heads next : List ℕ} {i : ℕ} (c : Chained (process_chains (unpack w).processes) heads next i) {h : ℕ} (s : h < process_buckets) where
  -- whether a row has the number may be asked of each
  pub number_asked : {may : ℕ → Type 0} → ((k : ℕ) → k < process_rows → may k) → Asked may next (get_or heads h 0)
  number_asked f = bucket_asked _ _ (bucket_chain c s) (λ k l _. f k (omega (arith, c.inside)))

  -- and its answers find the last; only rows of the bucket have the number
  pub number_last : (p : ℕ) → (p ≡ 0 → ⊥) → h ≡ p % process_buckets → {says : ℕ → Bool → Type 0} {found : ℕ} → Last says next (get_or heads h 0) found
      → ((k : ℕ) (answer : Bool) → says k answer → answer ≡ eqb (process_row w k).number p) → found ≡ last_below (row_of w p) i
  unfolding is_process
  number_last p u e f told =
      last_passing _ _ (bucket_chain c s) f (is_process p) (λ k answer _ _ a. told k answer a)
      (λ x its.
      let n = numbered x its in
      (ap not (with_number x (λ z. u (sym n ∙ z))), ap (λ y. y % process_buckets) n ∙ sym e))

-- THE INDEX IS BUILT

comparable : (w : List ℕ) → Comparable (process_chains (unpack w).processes) free_process same_process
unfolding same_process free_process
comparable w =
    record {
      full = processes_full w;
      used = λ x. refl;
      together = λ x y same. ap (λ n. eqb n 0) (eqb-true x.number y.number same);
    }

-- what holds before row i is looked at
abbrev pub Building : List ℕ → ProcessIndex → ℕ → Type 0
Building w x i = ApartChained (process_chains (unpack w).processes) free_process same_process x.heads x.next i

module _ (w : List ℕ) {x : ProcessIndex} where
  pub building_starts : x ≡ no_links → Building w x 0
  building_starts e = apart_starts (comparable w) (ap (λ (x : ProcessIndex). x.heads) e) (ap (λ (x : ProcessIndex). x.next) e)

  module _ {i : ℕ} (g : Building w x i) (r : i < process_rows) {n : ℕ} (e : n ≡ (process_row w i).number) where
    -- a free row is like none before it
    pub building_past : n ≡ 0 → Building w x (i + 1)
    building_past z = apart_past (comparable w) g r (without_number (process_row w i) (sym e ∙ z))

    module _ (u : n ≡ 0 → ⊥) {l : ℕ} (last : l ≡ last_below (row_of w n) i) where
      this_used : free_process (process_row w i) ≡ false
      this_used = with_number (process_row w i) (λ z. u (e ∙ z))

      same_last : l ≡ last_below (λ k. same_process (process_row w k) (process_row w i)) i
      unfolding same_process is_process
      same_last = last ∙ ap (λ m. last_below (λ k. eqb (process_row w k).number m) i) e

      -- a used row that none before it is like
      pub building_more : l ≡ 0 → {h : ℕ} → h ≡ n % process_buckets → h < process_buckets
          → Building w (with_row x h i) (i + 1)
      building_more z f s = apart_more (comparable w) g r this_used same_last z (f ∙ ap (λ m. m % process_buckets) e) s

      -- a used row that one before it is like
      pub building_twice : (l ≡ 0 → ⊥) → false ≡ processes_distinct (unpack w)
      unfolding processes_distinct
      building_twice = apart_twice (comparable w) g r this_used same_last

  pub building_ends : {i : ℕ} → Stands w → Building w x i → process_rows ≤ i
      → (true ≡ processes_distinct (unpack w)) × (◌≡◌ {A = Bool} true true → ProcessesIndexed w x)
  unfolding processes_distinct
  building_ends s g h =
      let d = apart_ends (comparable w) g h in
      (d, λ _. record { stands = s; chained = all_chained (comparable w) g h; distinct = sym d })

-- A PROCESS LOOKED FOR BY IT

module _ (w : List ℕ) (p : ℕ) where
  module _ {row : ℕ} (last : suc row ≡ last_below (row_of w p) process_rows) where
    its_number : row_of w p row ≡ true
    its_number =
        let here : last_below (row_of w p) process_rows - 1 ≡ row = omega arith in
        rw here at (last_passes (row_of w p) process_rows (λ z. omega arith))

    pub row_low : row < process_rows
    row_low = omega (arith, last_within (row_of w p) process_rows)

    row_there : process_row w row ∈ (unpack w).processes
    row_there = at_in (unpack w).processes row no_process (omega (arith, row_low, processes_full w))

    found_listed : true ≡ listed (unpack w).processes p
    unfolding listed
    found_listed = sym (in_any (is_process p) row_there its_number)

    pub user_found : {n : ℕ} → (p ≡ 0 → ⊥) → processes_distinct (unpack w) ≡ true → n ≡ (process_row w row).user → n ≡ user_of (unpack w).processes p
    unfolding user_of processes_distinct is_process same_process free_process
    user_found u D f =
        f ∙ ap (λ (x : Process). x.user) (sym (find_only free_process same_process (is_process p) no_process
        (λ x h. with_number x (λ y. u (sym (numbered x h) ∙ y)))
        (λ x y h k. eq-eqb x.number y.number (numbered x h ∙ sym (numbered y k)))
        (unpack w).processes (process_row w row) D row_there its_number))

  module _ (none : 0 ≡ last_below (row_of w p) process_rows) where
    none_listed : any (is_process p) (unpack w).processes ≡ false
    none_listed =
        none_by_place (is_process p) no_process (unpack w).processes (λ k h.
        none_below (row_of w p) process_rows (sym none) k (omega (arith, processes_full w)))

    found_nowhere : false ≡ listed (unpack w).processes p
    unfolding listed
    found_nowhere = sym none_listed

    pub no_user : 0 ≡ user_of (unpack w).processes p
    unfolding user_of
    no_user = sym (ap (λ (x : Process). x.user) (find_missing (is_process p) no_process (unpack w).processes none_listed))

  pub found_decides : (found : Option ℕ) → counted found ≡ last_below (row_of w p) process_rows → is_some found ≡ listed (unpack w).processes p
  found_decides None none = found_nowhere none
  found_decides (Some row) last = found_listed last

-- number 0 is that of free rows alone, which have no user
pub no_process_user : (w : List ℕ) {p : ℕ} → p ≡ 0 → 0 ≡ user_of (unpack w).processes p
unfolding user_of
no_process_user w {p} z = go (any (is_process p) (unpack w).processes) refl
  where
    free_there : (x : Process) → ProcessFits x → is_process p x ≡ true → 0 ≡ x.user
    free_there x f t = ap (λ (y : Process). y.user) (sym (f.free (numbered x t ∙ z)))

    go : (c : Bool) → any (is_process p) (unpack w).processes ≡ c → 0 ≡ (find (is_process p) no_process (unpack w).processes).user
    go true t =
        let found = find_in (is_process p) no_process (unpack w).processes t in
        free_there (find (is_process p) no_process (unpack w).processes) (each_in (unpacked_fits w).processes_fit found.0) found.1
    go false t = ap (λ (x : Process). x.user) (sym (find_missing (is_process p) no_process (unpack w).processes t))
