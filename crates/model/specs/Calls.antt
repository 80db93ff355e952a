-- The thirteen calls of document 01, each with its tests in the order of 'Numbers given back': the first that applies refuses. A call that
-- walks is told in two parts, up to the end of its walk and from there on. Assumes nothing.
use Rattle.std.specs.Prelude.{Bool, true, false, not, ◌&&◌, ◌||◌, List, [], ◌∷◌, ℕ, zero, suc, ◌+◌, ◌-◌, eqb, get_or, set}
use Rattle.std.proofs.Math.Option.{Option, none, some}
use Rattle.model.specs.Lists.{any, first, put, clear}
use Rattle.model.specs.Refusals.{Outcome, refused, granted, ◌when◌, ◌>>◌, ◌>>=◌}
use Rattle.model.specs.Tables.{Place, Entry, Node, Hold, Process, Tables, with_entries, with_nodes, with_holds, with_processes, a_file, a_directory, a_link, no_entry, no_node, no_process, free_entry, free_node, free_process, node_at, is_directory, at, is_process, listed, user_of}
use Rattle.model.specs.Records.{Call}
use Rattle.model.specs.Walk.{Goal, walk}
use Rattle.model.specs.Holds.{root, of_process, end_held, entry_held, inside_held, wanted, lacking, no_room, add_holds, copies, drop_holds, preempted, overruled, emptied, taking}
use Rattle.model.specs.declared.Answer.{Answer}
use Rattle.model.specs.declared.Answer.TheVariants.{Held, Seen, Done}

-- what a granted call comes to: its answer, and the tables after it
pub record Change : Type 0 where
  pub answer : Answer
  pub tables : Tables

abbrev pub grant : Answer → Tables → Outcome Change
grant a t = granted (record { answer = a; tables = t })

-- Numbers given back, 4: the caller is in no row of the processes
unfoldable pub unlisted : Tables → ℕ → Bool
unlisted t p = not (listed t.processes p)

-- Numbers given back, 4 and then the walk's numbers: where a path leads process p
unfoldable pub reaching : Tables → ℕ → Bool → List ℕ → Outcome Goal
reaching t p follow_last path = do
  4 when unlisted t p
  walk t.entries t.nodes follow_last path

-- Numbers given back, the calls with two paths: path 1 is walked before path 2; neither walk follows a last link
pub record Ends : Type 0 where
  pub new : Goal
  pub old : Goal

unfoldable pub reaching_both : Tables → ℕ → List ℕ → List ℕ → Outcome Ends
reaching_both t p path1 path2 = do
  new ← reaching t p false path1
  old ← walk t.entries t.nodes false path2
  granted (record { new = new; old = old })

-- CALLS 1 TO 4: PROCESSES

-- Numbers given back, 6: every row of the processes is in use
unfoldable pub no_free_process : Tables → Bool
no_free_process t = not (any free_process t.processes)

-- Holds: the new process takes the lowest free row
unfoldable pub add_process : ℕ → ℕ → List Process → List Process
add_process p user processes = put free_process (record { number = p; user = user }) processes

-- Holds, exit: the process's row becomes free
unfoldable pub drop_process : ℕ → List Process → List Process
drop_process p processes = clear (is_process p) no_process processes

-- The thirteen calls, 1: the process is listed with the argument as its user
unfoldable pub enter : Tables → Call → Outcome Change
enter t r = do
  5 when listed t.processes r.process  -- a process already
  6 when no_free_process t
  grant (Done r.process)
      (with_processes t (add_process r.process r.argument t.processes))

-- The thirteen calls, 2, and Holds, fork: the child gets the parent's user, and copies of its holds
unfoldable pub fork : Tables → Call → Outcome Change
fork t r = do
  4 when unlisted t r.process
  5 when listed t.processes r.argument  -- the child is one already
  6 when no_free_process t
  let new = copies r.process r.argument t.holds
  16 when no_room t new
  grant (Done r.argument)
      (with_processes (with_holds t (add_holds new t.holds))
      (add_process r.argument (user_of t.processes r.process) t.processes))

-- The thirteen calls, 3, and Holds, exec: the caller's holds are dropped
unfoldable pub exec : Tables → Call → Outcome Change
exec t r = do
  4 when unlisted t r.process
  grant (Done r.process) (with_holds t (drop_holds (of_process r.process) t.holds))

-- The thirteen calls, 4, and Holds, exit: they are dropped, and the process
unfoldable pub exit : Tables → Call → Outcome Change
exit t r = do
  4 when unlisted t r.process
  grant (Done r.process)
      (with_processes (with_holds t (drop_holds (of_process r.process) t.holds)) (drop_process r.process t.processes))

-- CALLS 5 TO 7: CHECK, LOOK AND USE

-- Numbers given back: the walk stopped where no entry is
unfoldable pub absent : Goal → Bool
absent g = eqb g.node 0

-- Holds: a held call takes what the process lacks, after root's drops
unfoldable pub hold_at : Tables → ℕ → Goal → Outcome Change
hold_at t p g = do
  16 when no_room t (lacking t.holds (wanted p g))
  grant (Held g.node) (with_holds t (taking t (wanted p g) (preempted t p g)))

-- Holds: seen where another user has an end hold on the end entry and the caller is not root, and else held
unfoldable pub seen_or_held : Tables → ℕ → Goal → Outcome Change
seen_or_held t p g = elim (end_held t p g && not (root t p)) [ true ↦ grant (Seen g.node) t | false ↦ hold_at t p g ]

-- Holds, use: an absence is refused before it is asked who holds its name
unfoldable pub look_at : Bool → Tables → ℕ → Goal → Outcome Change
look_at must_exist t p g = do
  10 when must_exist && absent g  -- a use finds nothing
  seen_or_held t p g

-- Walking a path, what calls 5 to 7 share: `follow_last` where a link at the last name is followed; `must_exist` where an absence is refused
unfoldable pub looking : Bool → Bool → Tables → Call → Outcome Change
looking follow_last must_exist t r = do
  g ← reaching t r.process follow_last r.path1
  look_at must_exist t r.process g

-- The thirteen calls, 5: it follows a last link, and an absence will do
unfoldable pub check : Tables → Call → Outcome Change
check t r = looking true false t r

-- The thirteen calls, 6: it stops at a last link, and an absence will do
unfoldable pub look : Tables → Call → Outcome Change
look t r = looking false false t r

-- The thirteen calls, 7: it follows a last link, and something must be there
unfoldable pub use_of : Tables → Call → Outcome Change
use_of t r = looking true true t r

-- CALLS 8 TO 13: WHAT CREATION AND REMOVAL SHARE

-- Numbers given back, 14: another user's hold on the end entry, and the caller is not root
unfoldable pub blocked : Tables → ℕ → Goal → Bool
blocked t p g = entry_held t p g && not (root t p)

-- Numbers given back, 15: every entry row is in use; every node is
unfoldable pub no_free_entry : Tables → Bool
no_free_entry t = not (any free_entry t.entries)

unfoldable pub no_free_node : Tables → Bool
no_free_node t = not (any free_node t.nodes)

-- Holds, new nodes: the lowest number that is free
unfoldable pub new_node : List Node → ℕ
new_node nodes = first free_node 1 nodes

-- The lent tables: node n becomes x; there is no node 0
unfoldable pub set_node : ℕ → Node → List Node → List Node
set_node zero x nodes = nodes
set_node (suc n) x nodes = set nodes n x

-- Holds: a new entry for the end of the walk takes the lowest free row; `/` has no entry
unfoldable pub add_entry : Option Place → ℕ → List Entry → List Entry
add_entry none n entries = entries
add_entry (some q) n entries = put free_entry (record { place = q; node = n }) entries

-- Holds, removal: the row of the end entry becomes free
unfoldable pub drop_entry : Option Place → List Entry → List Entry
drop_entry none entries = entries
drop_entry (some q) entries = clear (at q) no_entry entries

-- Holds, link: one entry more leads to the node
unfoldable pub one_more : Node → Node
one_more x = record { kind = x.kind; count = x.count + 1; target = x.target }

-- Holds, removal: one entry less leads to the node, and one with none left is cleared
unfoldable pub one_less : Node → Node
one_less x = elim (eqb x.count 1) [ true ↦ no_node | false ↦ record { kind = x.kind; count = x.count - 1; target = x.target } ]

-- CALLS 8 TO 11: CREATION

-- Holds, creation: a new entry at the end of the walk leads to node n, which is now x, and the holds on path 1 are taken
unfoldable pub with_entry : Tables → ℕ → Goal → ℕ → Node → Tables
with_entry t p g n x =
    with_holds (with_nodes (with_entries t (add_entry g.end n t.entries)) (set_node n x t.nodes)) (taking t (wanted p g) (overruled t p g))

-- Numbers given back, calls 8 to 10 behind their walk
unfoldable pub make_at : ℕ → List ℕ → Tables → ℕ → Goal → Outcome Change
make_at kind target t p g = do
  11 when not (absent g)  -- something is there; of `/` the walk always finds node 1
  14 when blocked t p g
  15 when no_free_entry t || no_free_node t
  16 when no_room t (lacking t.holds (wanted p g))
  let n = new_node t.nodes
  grant (Done n) (with_entry t p g n (record { kind = kind; count = 1; target = target }))

-- The thirteen calls, 8 to 10: a new node of this kind with this target; a last link is not followed
unfoldable pub make : ℕ → List ℕ → Tables → Call → Outcome Change
make kind target t r = do
  g ← reaching t r.process false r.path1
  make_at kind target t r.process g

-- The thirteen calls, 8: a file
unfoldable pub create : Tables → Call → Outcome Change
create t r = make a_file [] t r

-- The thirteen calls, 9: a directory
unfoldable pub mkdir : Tables → Call → Outcome Change
mkdir t r = make a_directory [] t r

-- The thirteen calls, 10: a link whose target is path 2
unfoldable pub symlink : Tables → Call → Outcome Change
symlink t r = make a_link r.path2 t r

-- Numbers given back, call 11 behind its two walks; `old` is where path 2 led
unfoldable pub link_at : Tables → ℕ → Goal → Goal → Outcome Change
link_at t p g old = do
  10 when absent old  -- nothing is there to link to
  11 when not (absent g)  -- the new path is taken, or is `/`
  12 when is_directory t.nodes old.node  -- a directory has one entry
  14 when blocked t p g
  15 when no_free_entry t
  16 when no_room t (lacking t.holds (wanted p g))
  grant (Done old.node) (with_entry t p g old.node (one_more (node_at t.nodes old.node)))

-- The thirteen calls, 11: one more entry leads to the old path's node; path 1 is walked before path 2
unfoldable pub link : Tables → Call → Outcome Change
link t r = do
  ends ← reaching_both t r.process r.path1 r.path2
  link_at t r.process ends.new ends.old

-- CALLS 12 AND 13: REMOVAL

-- Holds, removal: the entry at the end of the walk is gone, and one entry less leads to its node
unfoldable pub without_entry : Tables → Goal → List Hold → Tables
without_entry t g holds =
    let nodes = set_node g.node (one_less (node_at t.nodes g.node)) t.nodes in
    with_holds (with_nodes (with_entries t (drop_entry g.end t.entries)) nodes) holds

-- Numbers given back, call 12 behind its walk
unfoldable pub unlink_at : Tables → ℕ → Goal → Outcome Change
unlink_at t p g = do
  10 when absent g  -- nothing is there
  12 when is_directory t.nodes g.node  -- rmdir is for those
  14 when blocked t p g
  16 when no_room t (lacking t.holds (wanted p g))
  grant (Done g.node) (without_entry t g (taking t (wanted p g) (overruled t p g)))

-- The thirteen calls, 12: a file or a link loses the entry at the path
unfoldable pub unlink : Tables → Call → Outcome Change
unlink t r = do
  g ← reaching t r.process false r.path1
  unlink_at t r.process g

-- Walking a path: the walk stopped at node 1 by `/`, where no end entry is
unfoldable pub at_root : Goal → Bool
at_root g = elim g.end [ none ↦ true | some q ↦ false ]

-- Numbers given back, 13: some entry is in the directory
unfoldable pub has_entries : List Entry → ℕ → Bool
has_entries entries d = any (λ e. eqb e.place.directory d) entries

-- Holds, rmdir's 14: another user's hold on the end entry or inside the directory
unfoldable pub directory_blocked : Tables → ℕ → Goal → Bool
directory_blocked t p g = (entry_held t p g || inside_held t p g.node) && not (root t p)

-- Numbers given back, call 13 behind its walk; Holds, rmdir: the holds inside go before new ones are added
unfoldable pub rmdir_at : Tables → ℕ → Goal → Outcome Change
rmdir_at t p g = do
  10 when absent g  -- nothing is there
  12 when at_root g || not (is_directory t.nodes g.node)  -- `/` itself, or no directory
  13 when has_entries t.entries g.node  -- it is not empty
  14 when directory_blocked t p g
  16 when no_room t (lacking t.holds (wanted p g))
  grant (Done g.node) (without_entry t g (taking t (wanted p g) (emptied t p g)))

-- The thirteen calls, 13: an empty directory is removed, with all holds on names inside it
unfoldable pub rmdir : Tables → Call → Outcome Change
rmdir t r = do
  g ← reaching t r.process false r.path1
  rmdir_at t r.process g

-- THE THIRTEEN CALLS

-- The thirteen calls, by number. The list begins with call 0, and what stands behind its end is for calls above 13; both are refused with 2 by
-- reading (Records, `fields_broken`), so that a call which was read never meets these two.
unfoldable pub step : Tables → Call → Outcome Change
step t r =
    get_or
    (refused 2
    ∷ enter t r
    ∷ fork t r
    ∷ exec t r
    ∷ exit t r
    ∷ check t r
    ∷ look t r
    ∷ use_of t r
    ∷ create t r
    ∷ mkdir t r
    ∷ symlink t r
    ∷ link t r
    ∷ unlink t r
    ∷ rmdir t r
    ∷ [])
    r.call
    (refused 2)

unfoldable pub computing_calls : Unit {0}
unfolding unlisted reaching reaching_both no_free_process add_process drop_process enter fork exec exit absent hold_at seen_or_held look_at looking
    check look use_of blocked no_free_entry no_free_node new_node set_node add_entry drop_entry one_more one_less with_entry make_at make create mkdir
    symlink link_at link without_entry unlink_at unlink at_root has_entries directory_blocked rmdir_at rmdir step
computing_calls = tt
