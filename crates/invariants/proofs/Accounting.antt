-- How many entry rows are used after a call: one more after an accepted creation, one less after an accepted removal, and else as many.
-- Assumes nothing.
use mathlib.Core.Path.{◌≡◌, refl, sym, ◌∙◌}
use mathlib.Core.Bool.{Bool, true, false, not, ◌&&◌}
use mathlib.Core.Logic.{◌≢◌}
use mathlib.Core.List.{List}
use Prim.Native.Nat.{ℕ, ◌+◌}
use native.Mathlib.Omega.{arith}
use borrow.Author.Tests.{eqb-true, eqb-false, ne_eqb}
use lib.Dec.{eqb}
use Rattle.model.specs.Lists.{any, count, put, clear}
use Rattle.model.specs.Refusals.{granted}
use Rattle.model.specs.Paths.{valid_path}
use Rattle.model.specs.Tables.{Place, Entry, Hold, Tables, no_entry, free_entry, at, lookup}
use Rattle.model.specs.Sound.{same_entry}
use Rattle.model.specs.Records.{Call, Effect, one_more_entry, one_entry_less, own_rule, entries_stay, calls, row_of}
use Rattle.model.specs.Walk.{Goal}
use Rattle.model.specs.Calls.{Change, step, absent, no_free_entry, add_entry, drop_entry, with_entry, without_entry}
use Rattle.laws.proofs.Bools.{and_left, not_false}
use Rattle.laws.proofs.Rules.{one_if, count_put, count_clear, count_some, count_alone}
use Rattle.invariants.proofs.Cases.{Saw, seen, held, Made, Linked, Unlinked, Rmdired, Step, by_enter, by_fork, by_exec, by_exit, by_check, by_look, by_use, by_create, by_mkdir, by_symlink, by_link, by_unlink, by_rmdir, step_cases}
use Rattle.invariants.proofs.Lookups.{at_used, at_alike, entry_at}
use Rattle.invariants.proofs.Order.{InOrder, Proper, path1_valid}
use Rattle.invariants.proofs.Goals.{goal_arrives, StopsAt, stops_at_absence, stops_at_file, stops_below_root}

-- the used entry rows
unfoldable pub used_entries : Tables → ℕ
used_entries t = count (λ e. not (free_entry e)) t.entries

-- the calls that make an entry, and those that remove one, by the table of calls
unfoldable pub makes_entry : Effect → Bool
makes_entry one_more_entry = true
makes_entry one_entry_less = false
makes_entry own_rule = false
makes_entry entries_stay = false

unfoldable pub removes_entry : Effect → Bool
removes_entry one_more_entry = false
removes_entry one_entry_less = true
removes_entry own_rule = false
removes_entry entries_stay = false

unfoldable pub is_creation : ℕ → Bool
is_creation call = makes_entry (row_of call).effect

unfoldable pub is_removal : ℕ → Bool
is_removal call = removes_entry (row_of call).effect

-- ENTRIES ADDED AND REMOVED

used_more : (entries : List Entry) (q : Place) (n : ℕ) → q.directory ≢ 0 → any free_entry entries ≡ true →
    count (λ e. not (free_entry e)) (put free_entry (record { place = q; node = n }) entries) ≡ count (λ e. not (free_entry e)) entries + 1
unfolding free_entry
used_more entries q n in_directory row =
    let sum = count_put (λ (e : Entry). not (free_entry e)) free_entry (record { place = q; node = n }) entries (λ e m free. rw free) row in
    let used : one_if (not (eqb q.directory 0)) ≡ 1 = rw (ne_eqb q.directory 0 in_directory) in
    omega arith

used_less : (t : Tables) → InOrder t → (q : Place) → q.directory ≢ 0 → lookup t.entries q ≢ 0 →
    count (λ e. not (free_entry e)) (clear (at q) no_entry t.entries) + 1 ≡ count (λ e. not (free_entry e)) t.entries
unfolding free_entry
used_less t order q in_directory there =
    let e = entry_at t.entries q there in
    let m : Entry → Bool = λ x. at q x && not (free_entry x) in
    let some : m e.0 ≡ true = simp (e.1.there, at_used q in_directory e.0 e.1.there) in
    let least = count_some m t.entries e.1.listed some in
    let most =
    count_alone free_entry same_entry m (λ x h. at_used q in_directory x (and_left _ _ h))
    (λ x y h i. at_alike q x y (and_left _ _ h) (and_left _ _ i)) t.entries order.sound.tree.distinct_entries
    in
    let sum = count_clear (λ (x : Entry). not (free_entry x)) (at q) no_entry refl t.entries in
    omega arith

-- BY CALL

-- the used entry rows before and after a granted call of this number
unfoldable pub Accounts : Tables → Tables → ℕ → Type 0
Accounts before after call = used_entries after + one_if (is_removal call) ≡ used_entries before + one_if (is_creation call)

module _ (before after : Tables) (call : ℕ) where
  neither : is_removal call ≡ false → is_creation call ≡ false → used_entries after ≡ used_entries before → Accounts before after call
  unfolding Accounts
  neither no_removal no_creation e = rw (no_removal, no_creation) (omega arith)

  creation : is_removal call ≡ false → is_creation call ≡ true → used_entries after ≡ used_entries before + 1 → Accounts before after call
  unfolding Accounts
  creation no_removal its_creation e = rw (no_removal, its_creation) (omega arith)

  removal : is_removal call ≡ true → is_creation call ≡ false → used_entries after + 1 ≡ used_entries before → Accounts before after call
  unfolding Accounts
  removal its_removal no_creation e = rw (its_removal, no_creation) (omega arith)

module _ (t : Tables) (order : InOrder t) (r : Call) (proper : Proper r) (c : Change) where
  made_more : (kind : ℕ) (target : List ℕ) → valid_path r.path1 ≡ true → Made kind target t r c →
      used_entries c.tables ≡ used_entries t + 1
  unfolding used_entries with_entry add_entry absent no_free_entry
  made_more kind target valid is =
      let arrived = goal_arrives t order false r.path1 is.goal proper.path1 valid is.walked in
      let end = stops_at_absence t is.goal arrived (eqb-true _ _ (not_false _ is.absence)) in
      rw (is.gives.tables, end.1.at_end) (used_more t.entries end.0 _ end.1.numbered (not_false _ is.entry_row))

  linked_more : valid_path r.path1 ≡ true → Linked t r c → used_entries c.tables ≡ used_entries t + 1
  unfolding used_entries with_entry add_entry absent no_free_entry
  linked_more valid is =
      let arrived = goal_arrives t order false r.path1 is.goal proper.path1 valid is.walked in
      let end = stops_at_absence t is.goal arrived (eqb-true _ _ (not_false _ is.absence)) in
      rw (is.gives.tables, end.1.at_end) (used_more t.entries end.0 _ end.1.numbered (not_false _ is.entry_row))

  removed_less : (g : Goal) (q : Place) → StopsAt t g q → absent g ≡ false → (holds : List Hold) →
      used_entries (without_entry t g holds) + 1 ≡ used_entries t
  unfolding used_entries without_entry drop_entry absent
  removed_less g q stop there holds =
      rw stop.at_end (used_less t order q stop.numbered (λ z. eqb-false g.node 0 there (sym stop.found ∙ z)))

  unlinked_less : valid_path r.path1 ≡ true → Unlinked t r c → used_entries c.tables + 1 ≡ used_entries t
  unlinked_less valid is =
      let arrived = goal_arrives t order false r.path1 is.goal proper.path1 valid is.walked in
      let end = stops_at_file t is.goal arrived is.no_directory in
      rw is.gives.tables (removed_less is.goal end.0 end.1 is.there _)

  rmdired_less : valid_path r.path1 ≡ true → Rmdired t r c → used_entries c.tables + 1 ≡ used_entries t
  rmdired_less valid is =
      let arrived = goal_arrives t order false r.path1 is.goal proper.path1 valid is.walked in
      let end = stops_below_root t is.goal arrived is.not_root in
      rw is.gives.tables (removed_less is.goal end.0 end.1 is.there _)

  -- whatever changes but the entries
  as_many : (u : Tables) → c.tables ≡ u → u.entries ≡ t.entries → used_entries c.tables ≡ used_entries t
  unfolding used_entries
  as_many u e same = rw (e, same)

  saw_as_many : (p : ℕ) (g : Goal) → Saw t p g c → used_entries c.tables ≡ used_entries t
  saw_as_many p g (seen way gives) = as_many _ gives.tables refl
  saw_as_many p g (held way room gives) = as_many _ gives.tables refl

  by_case : Step t r c → Accounts t c.tables r.call
  unfolding is_removal is_creation removes_entry makes_entry row_of calls
  by_case (by_enter n is) = rw n (neither t c.tables 1 refl refl (as_many _ is.gives.tables refl))
  by_case (by_fork n is) = rw n (neither t c.tables 2 refl refl (as_many _ is.gives.tables refl))
  by_case (by_exec n is) = rw n (neither t c.tables 3 refl refl (as_many _ is.gives.tables refl))
  by_case (by_exit n is) = rw n (neither t c.tables 4 refl refl (as_many _ is.gives.tables refl))
  by_case (by_check n is) = rw n (neither t c.tables 5 refl refl (saw_as_many r.process is.goal is.saw))
  by_case (by_look n is) = rw n (neither t c.tables 6 refl refl (saw_as_many r.process is.goal is.saw))
  by_case (by_use n is) = rw n (neither t c.tables 7 refl refl (saw_as_many r.process is.goal is.saw))
  by_case (by_create n is) = rw n (creation t c.tables 8 refl refl (made_more _ _ (path1_valid r proper (rw n)) is))
  by_case (by_mkdir n is) = rw n (creation t c.tables 9 refl refl (made_more _ _ (path1_valid r proper (rw n)) is))
  by_case (by_symlink n is) = rw n (creation t c.tables 10 refl refl (made_more _ _ (path1_valid r proper (rw n)) is))
  by_case (by_link n is) = rw n (creation t c.tables 11 refl refl (linked_more (path1_valid r proper (rw n)) is))
  by_case (by_unlink n is) = rw n (removal t c.tables 12 refl refl (unlinked_less (path1_valid r proper (rw n)) is))
  by_case (by_rmdir n is) = rw n (removal t c.tables 13 refl refl (rmdired_less (path1_valid r proper (rw n)) is))

  pub step_accounts : step t r ≡ granted c → Accounts t c.tables r.call
  step_accounts e = by_case (step_cases t r c e)
