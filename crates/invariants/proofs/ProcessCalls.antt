-- Calls 1 to 4, enter, fork, exec and exit: tables in order stay in order. Assumes nothing.
use mathlib.Core.Path.{◌≡◌, refl, sym, ap, ◌∙◌}
use mathlib.Core.Bool.{Bool, true, false, ◌&&◌}
use mathlib.Core.Logic.{◌≢◌}
use mathlib.Core.List.{List}
use Prim.Native.Nat.{ℕ, ◌^◌, ◌<◌}
use borrow.Author.Tests.{eqb-true, eqb-false, eq-eqb, ne_eqb}
use lib.Dec.{eqb}
use Rattle.model.specs.Lists.{any, distinct, keep}
use Rattle.model.specs.Tables.{Hold, Process, Tables, no_hold, no_process, free_hold, free_process, is_process, listed, user_of, with_processes, with_holds}
use Rattle.model.specs.Sound.{same_hold, is_end, same_process}
use Rattle.model.specs.Records.{Call}
use Rattle.model.specs.Holds.{of_process, add_holds, copy_for, copies, drop_holds}
use Rattle.model.specs.Calls.{Change, no_free_process, add_process, drop_process}
use Rattle.laws.proofs.Bools.{clash, and_left, and_right, is_false, not_false}
use Rattle.laws.proofs.Each.{Each, each_find, each_put, each_put_all, each_clear}
use Rattle.laws.proofs.Members.{◌∈◌, each_in, in_each, in_none, none_in, from_map, from_keep}
use Rattle.laws.proofs.Places.{OneHold, same_hold_one, same_hold_turned}
use Rattle.laws.proofs.Rules.{distinct_put, distinct_clear, distinct_keep, distinct_map, Apart, apart, length_put, length_put_all, length_clear}
use Rattle.laws.proofs.Searches.{any_put_keeps, any_put_new, find_put_other, find_put_new, any_clear_other, find_clear_other}
use Rattle.invariants.proofs.Cases.{Entered, Forked, Execed, Exited}
use Rattle.invariants.proofs.Rows.{same_process_turned, like_no_process}
use Rattle.invariants.proofs.Soundness.{Holding}
use Rattle.laws.proofs.Words.{HoldFits, ProcessFits, no_hold_fits, no_process_fits}
use Rattle.invariants.proofs.Holdings.{holding_fewer, from_drop, Still, holding_still, holding_more, NewHold}
use Rattle.invariants.proofs.Order.{InOrder, RowsKept, rows_same, same_tree, Proper, process_there, child_there}

-- THE LIST OF PROCESSES

-- a free row lists no process but 0
free_not_listing : (a : ℕ) → a ≢ 0 → (q : Process) → free_process q ≡ true → is_process a q ≡ false
unfolding free_process is_process
free_not_listing a nz q e = rw (eqb-true q.number 0 e) (ne_eqb 0 a (λ z. nz (sym z)))

no_process_other : (a : ℕ) → a ≢ 0 → is_process a no_process ≡ false
unfolding is_process
no_process_other a nz = ne_eqb 0 a (λ z. nz (sym z))

listed_other : (processes : List Process) (a p : ℕ) → listed processes a ≡ true → listed processes p ≡ false → p ≢ a
listed_other processes a p l n e = clash l (rw e at n)

module _ (processes : List Process) (p user : ℕ) (new : listed processes p ≡ false) where
  -- the others are listed as before
  pub added_listed : (a : ℕ) → a ≢ 0 → listed processes a ≡ true → listed (add_process p user processes) a ≡ true
  unfolding listed add_process
  added_listed a nz l = any_put_keeps (is_process a) free_process (record { number = p; user = user }) (free_not_listing a nz) processes l

  pub added_user : (a : ℕ) → a ≢ 0 → listed processes a ≡ true → user_of (add_process p user processes) a ≡ user_of processes a
  unfolding user_of add_process is_process
  added_user a nz l =
      ap (λ (q : Process). q.user)
      (find_put_other (is_process a) free_process (record { number = p; user = user }) (free_not_listing a nz) no_process
      (ne_eqb p a (listed_other processes a p l new)) processes)

  pub added_distinct : distinct free_process same_process processes ≡ true →
      distinct free_process same_process (add_process p user processes) ≡ true
  unfolding add_process same_process listed is_process
  added_distinct d =
      distinct_put free_process same_process same_process_turned (record { number = p; user = user }) processes
      (λ q m. is_false (eqb p q.number)
      (λ h. clash (eq-eqb q.number p (sym (eqb-true p q.number h))) (in_none (is_process p) new m))) d

  -- where a row is free, the new one is listed with its user
  pub newly_listed : any free_process processes ≡ true → listed (add_process p user processes) p ≡ true
  unfolding listed add_process is_process
  newly_listed row = any_put_new (is_process p) free_process (record { number = p; user = user }) (eq-eqb p p refl) processes row

  pub new_user : any free_process processes ≡ true → user_of (add_process p user processes) p ≡ user
  unfolding user_of add_process is_process listed
  new_user row =
      ap (λ (q : Process). q.user)
      (find_put_new (is_process p) free_process (record { number = p; user = user }) no_process (eq-eqb p p refl) processes new row)

module _ (processes : List Process) (p : ℕ) where
  none_both : (a : ℕ) → p ≢ a → any (λ q. is_process p q && is_process a q) processes ≡ false
  unfolding is_process
  none_both a differ =
      none_in (λ q. is_process p q && is_process a q) processes
      (λ q m. is_false (is_process p q && is_process a q)
      (λ h. differ (sym (eqb-true _ _ (and_left (eqb q.number p) _ h)) ∙ eqb-true _ _ (and_right (eqb q.number p) _ h))))

  pub dropped_listed : (a : ℕ) → a ≢ 0 → p ≢ a → listed processes a ≡ true → listed (drop_process p processes) a ≡ true
  unfolding listed drop_process
  dropped_listed a nz differ l =
      any_clear_other (is_process a) (is_process p) no_process (no_process_other a nz) processes (none_both a differ) ∙ l

  pub dropped_user : (a : ℕ) → a ≢ 0 → p ≢ a → user_of (drop_process p processes) a ≡ user_of processes a
  unfolding user_of drop_process
  dropped_user a nz differ =
      ap (λ (q : Process). q.user)
      (find_clear_other (is_process a) (is_process p) no_process (no_process_other a nz) no_process processes (none_both a differ))

-- the holds there are as right as before
pub added_holding : (t : Tables) → InOrder t → (p user : ℕ) → listed t.processes p ≡ false →
    Holding t.nodes (add_process p user t.processes) t.holds
added_holding t order p user new =
    holding_still t.nodes t.nodes t.processes (add_process p user t.processes) t.holds order.sound.holding
    (λ h m used.
    let right = order.sound.holding.right h m used in
    record {
      directory = right.in_directory;
      holder = added_listed t.processes p user new h.process right.holder_numbered right.holder;
      user = added_user t.processes p user new h.process right.holder_numbered right.holder;
    })

-- a new process fits, where its number and user do
process_fits : (p user : ℕ) → p ≢ 0 → p < 2 ^ 16 → user < 2 ^ 16 → ProcessFits (record { number = p; user = user })
process_fits p user nz width user_width = record { free = λ e. absurd (nz e); number = width; user = user_width }

process_kept : (t : Tables) → InOrder t → (p user : ℕ) → p ≢ 0 → p < 2 ^ 16 → user < 2 ^ 16 →
    RowsKept ProcessFits t.processes (add_process p user t.processes)
unfolding add_process
process_kept t order p user nz width user_width =
    record {
      as_many = length_put free_process (record { number = p; user = user }) t.processes;
      fit = each_put free_process order.fits.processes_fit (process_fits p user nz width user_width);
    }

drop_kept : (t : Tables) → InOrder t → (gone : Hold → Bool) → RowsKept HoldFits t.holds (drop_holds gone t.holds)
unfolding drop_holds
drop_kept t order gone =
    record { as_many = length_clear gone no_hold t.holds; fit = each_clear gone order.fits.holds_fit no_hold_fits }

module _ (t : Tables) (order : InOrder t) (r : Call) (proper : Proper r) (c : Change) where
  -- 1
  pub enter_keeps : Entered t r c → InOrder c.tables
  unfolding add_process
  enter_keeps is =
      rw is.gives.tables
      (same_tree t t.holds (add_process r.process r.argument t.processes) order
      (added_holding t order r.process r.argument is.new)
      (added_distinct t.processes r.process r.argument is.new order.sound.distinct_processes) (rows_same order.fits.holds_fit)
      (process_kept t order r.process r.argument (process_there r proper) proper.process proper.argument))

  -- 3
  pub exec_keeps : Execed t r c → InOrder c.tables
  unfolding drop_holds
  exec_keeps is =
      rw is.gives.tables
      (same_tree t (drop_holds (of_process r.process) t.holds) t.processes order
      (holding_fewer t.nodes t.processes (of_process r.process) t.holds order.sound.holding)
      order.sound.distinct_processes (drop_kept t order (of_process r.process)) (rows_same order.fits.processes_fit))

  -- 4
  pub exit_keeps : Exited t r c → InOrder c.tables
  unfolding drop_holds drop_process of_process free_process
  exit_keeps is =
      rw is.gives.tables
      (same_tree t (drop_holds (of_process r.process) t.holds) (drop_process r.process t.processes) order
      (holding_still t.nodes t.nodes t.processes (drop_process r.process t.processes)
      (drop_holds (of_process r.process) t.holds)
      (holding_fewer t.nodes t.processes (of_process r.process) t.holds order.sound.holding) still)
      (distinct_clear free_process same_process (is_process r.process) no_process refl like_no_process t.processes
      order.sound.distinct_processes)
      (drop_kept t order (of_process r.process))
      (record {
        as_many = length_clear (is_process r.process) no_process t.processes;
        fit = each_clear (is_process r.process) order.fits.processes_fit no_process_fits;
      }))
    where
      still : (h : Hold) → h ∈ drop_holds (of_process r.process) t.holds → free_hold h ≡ false →
          Still t.nodes t.processes (drop_process r.process t.processes) h
      still h m used =
          let was = from_drop (of_process r.process) t.holds h m used in
          let right = order.sound.holding.right h was.0 used in
          let other : r.process ≢ h.process = λ e. eqb-false h.process r.process was.1 (sym e) in
          record {
            directory = right.in_directory;
            holder = dropped_listed t.processes r.process h.process right.holder_numbered other right.holder;
            user = dropped_user t.processes r.process h.process right.holder_numbered other;
          }

-- 2, FORK

-- the parent's holds, copied for the child, are right, and new
module _ (t : Tables) (order : InOrder t) (parent child : ℕ) (numbered : parent ≢ 0) (child_numbered : child ≢ 0)
    (new : listed t.processes child ≡ false) (row : any free_process t.processes ≡ true) where
  user : ℕ
  user = user_of t.processes parent

  processes : List Process
  processes = add_process child user t.processes

  -- a copy, and the parent's hold that it is of
  record CopyOf (h k : Hold) : Type 0 where
    there : k ∈ t.holds
    of : k.process ≡ parent
    used : free_hold k ≡ false
    copy : h ≡ copy_for child k

  from_copies : (h : Hold) → h ∈ copies parent child t.holds → (k : Hold) × CopyOf h k
  unfolding copies of_process free_hold
  from_copies h m =
      let found = from_map (copy_for child) (keep (of_process parent) t.holds) m in
      let kept = from_keep (of_process parent) t.holds found.1 in
      let k = found.0 in
      let of_parent : k.process ≡ parent = eqb-true k.process parent kept.1 in
      (k, record { there = kept.0; of = of_parent; used = used_of k kept.0 of_parent; copy = found.2 })
    where
      used_of : (k : Hold) → k ∈ t.holds → k.process ≡ parent → free_hold k ≡ false
      used_of k i e =
          is_false (free_hold k)
          (λ free.
          let blank = (each_in order.fits.holds_fit i).free (eqb-true k.place.directory 0 free) in
          numbered (sym e ∙ ap (λ (x : Hold). x.process) blank))

  copy_right : (h : Hold) → h ∈ copies parent child t.holds → NewHold t.nodes processes t.holds child h
  unfolding copy_for is_end processes user free_hold
  copy_right h m = go (from_copies h m)
    where
      go : (k : Hold) × CopyOf h k → NewHold t.nodes processes t.holds child h
      go found =
          let k = found.0 in
          let is = found.1 in
          let right = order.sound.holding.right k is.there is.used in
          rw is.copy
          (record {
            process = refl;
            right =
                record {
                  in_directory = right.in_directory;
                  named = right.named;
                  role = right.role;
                  holder = newly_listed t.processes child user new row;
                  holder_numbered = child_numbered;
                };
            user = λ l i used_l end_k end_l same.
                let other = order.sound.holding.right l i used_l in
                new_user t.processes child user new row ∙ ap (user_of t.processes) (sym is.of)
                ∙ order.sound.holding.one_user k l is.there i is.used end_k end_l same
                ∙ sym (added_user t.processes child user new l.process other.holder_numbered other.holder);
          })

  copies_apart : Apart same_hold (copies parent child t.holds) t.holds
  unfolding copies copy_for free_hold same_hold of_process
  copies_apart =
      apart free_hold same_hold same_hold_turned (copies parent child t.holds) t.holds
      (λ h m. let found = from_copies h m in rw found.1.copy found.1.used)
      (distinct_map free_hold same_hold (copy_for child) (keep (of_process parent) t.holds) (λ h m u. u) same_before
      (distinct_keep free_hold same_hold (of_process parent) t.holds order.sound.holding.distinct_holds))
      (λ h k m i. is_false (same_hold h k) (λ s. unlike h k (from_copies h m) i (same_hold_one h k s)))
    where
      same_before : (h k : Hold) → h ∈ keep (of_process parent) t.holds → k ∈ keep (of_process parent) t.holds →
          same_hold (copy_for child h) (copy_for child k) ≡ true → same_hold h k ≡ true
      same_before h k m i s =
          let of_h = eqb-true h.process parent (from_keep (of_process parent) t.holds m).1 in
          let of_k = eqb-true k.process parent (from_keep (of_process parent) t.holds i).1 in
          rw (eq-eqb h.process k.process (of_h ∙ sym of_k)) (rw (eq-eqb child child refl) at s)

      unlike : (h k : Hold) → (x : Hold) × CopyOf h x → k ∈ t.holds → OneHold h k → ⊥
      unlike h k found i one =
          let process : k.process ≡ child = sym one.process ∙ ap (λ (x : Hold). x.process) found.1.copy in
          let place : k.place ≡ found.0.place = sym one.place ∙ ap (λ (x : Hold). x.place) found.1.copy in
          let used : free_hold k ≡ false = rw place found.1.used in
          clash (rw process at (order.sound.holding.right k i used).holder) new

  copies_fit : child < 2 ^ 16 → Each HoldFits (copies parent child t.holds)
  unfolding copy_for free_hold
  copies_fit width = in_each (copies parent child t.holds) (λ h m. go h (from_copies h m))
    where
      go : (h : Hold) → (k : Hold) × CopyOf h k → HoldFits h
      go h found =
          let k = found.0 in
          let fits = each_in order.fits.holds_fit found.1.there in
          rw found.1.copy
          (record {
            free = λ e. absurd (eqb-false k.place.directory 0 found.1.used e);
            directory = fits.directory;
            name = fits.name;
            process = width;
            role = fits.role;
          })

  pub forked_order : child < 2 ^ 16 →
      InOrder
      (with_processes (with_holds t (add_holds (copies parent child t.holds) t.holds)) (add_process child (user_of t.processes parent) t.processes))
  unfolding add_holds add_process processes user user_of
  forked_order width =
      same_tree t (add_holds (copies parent child t.holds) t.holds) processes order
      (holding_more t.nodes processes child (copies parent child t.holds) t.holds copies_apart copy_right
      (added_holding t order child user new))
      (added_distinct t.processes child user new order.sound.distinct_processes)
      (record {
        as_many = length_put_all free_hold (copies parent child t.holds) t.holds;
        fit = each_put_all free_hold (copies_fit width) order.fits.holds_fit;
      })
      (process_kept t order child user child_numbered width (each_find (is_process parent) order.fits.processes_fit no_process_fits).user)

pub fork_keeps : (t : Tables) → InOrder t → (r : Call) → Proper r → r.call ≡ 2 → (c : Change) → Forked t r c → InOrder c.tables
unfolding no_free_process
fork_keeps t order r proper e c is =
    rw is.gives.tables
    (forked_order t order r.process r.argument (process_there r proper) (child_there r proper e) is.new (not_false _ is.row)
    proper.argument)
