-- Another user than process p's, not root: what p holds is in that user's way, and that user drops none of it. Assumes nothing.
use mathlib.Core.Path.{◌≡◌, refl, ap, sym}
use mathlib.Core.Bool.{Bool, true, false, ◌&&◌, ◌||◌, true≢false}
use mathlib.Core.Logic.{◌≢◌}
use mathlib.Core.List.{List}
use mathlib.Core.Option.{some}
use Prim.Native.Nat.{ℕ}
use borrow.Author.Tests.{eq-eqb, ne_eqb}
use Rattle.model.specs.Paths.{Name}
use Rattle.model.specs.Tables.{Place, Hold, Process, Tables, free_hold, is_directory, lookup, listed, user_of, with_processes, with_holds}
use Rattle.model.specs.Holds.{root, foreign, on, inside, entry_held, inside_held, hold_by, preempted, overruled}
use Rattle.model.specs.Walk.{Goal}
use Rattle.model.specs.Calls.{blocked, directory_blocked}
use Rattle.laws.proofs.Bools.{both, clash}
use Rattle.laws.proofs.Places.{same_place_self}
use Rattle.guard.proofs.Demand3.{AnotherUser}
use Rattle.guard.proofs.Pins.{Has, Pinned, mine, above, Frame}
use Rattle.guard.proofs.Edits.{has_shows, alike}
use Rattle.guard.proofs.Seen.{and_sees, on_sees, inside_sees, foreign_sees}

-- process p is there
pub record Present (p : ℕ) (t : Tables) : Type 0 where
  pub used : p ≢ 0
  pub listing : listed t.processes p ≡ true

-- process q is of another user than p, and not root's
pub record OfAnotherUser (p q : ℕ) (t : Tables) : Type 0 where
  pub present : Present p t
  pub user : AnotherUser (user_of t.processes p) (user_of t.processes q)

-- FRAMES OF PART OF THE TABLES

pub same_frame : (p : ℕ) (t : Tables) → Frame p t t
same_frame p t =
    record {
      listing = refl;
      user = refl;
      holds = λ role q used h. h;
      entry = λ q used pin. refl;
      node = λ q used pin. alike _;
    }

-- the entries and the nodes are as before
pub tree_frame : (p : ℕ) (t : Tables) (holds : List Hold) (processes : List Process) →
    listed processes p ≡ listed t.processes p → user_of processes p ≡ user_of t.processes p →
    ((role : ℕ) (q : Place) → q.directory ≢ 0 → Has t.holds (hold_by p role q) → Has holds (hold_by p role q)) →
    Frame p t (with_processes (with_holds t holds) processes)
tree_frame p t holds processes listing user kept =
    record { listing = listing; user = user; holds = kept; entry = λ q used pin. refl; node = λ q used pin. alike _ }

module _ (p q : ℕ) (t : Tables) (another : OfAnotherUser p q t) where
  pub apart : q ≢ p
  apart e = another.user.not_U (ap (user_of t.processes) e)

  no_root : root t q ≡ false
  unfolding root
  no_root = ne_eqb (user_of t.processes q) 0 another.user.not_root

  -- THE OTHER USER DROPS NOTHING

  pub preempts_none : (g : Goal) (h : Hold) → preempted t q g h ≡ false
  unfolding preempted
  preempts_none g h = simp no_root

  pub overrules_none : (g : Goal) (h : Hold) → overruled t q g h ≡ false
  unfolding overruled
  overrules_none g h = simp no_root

  -- AND p'S HOLDS ARE IN THE WAY

  foreign_mine : (role : ℕ) (at : Place) → at.directory ≢ 0 → foreign t q (hold_by p role at) ≡ true
  unfolding foreign free_hold hold_by
  foreign_mine role at used =
      rw (
        ne_eqb at.directory 0 used,
        ne_eqb (user_of t.processes p) (user_of t.processes q) (λ e. another.user.not_U (sym e)),
      )

  pub way_clear : (g : Goal) → blocked t q g ≡ false → entry_held t q g ≡ false
  unfolding blocked
  way_clear g e = go (entry_held t q g) (rw no_root at e)
    where
      go : (b : Bool) → (b && true) ≡ false → b ≡ false
      go true f = f
      go false f = refl

  pub directory_way_clear : (g : Goal) → directory_blocked t q g ≡ false → (entry_held t q g ≡ false) × (inside_held t q g.node ≡ false)
  unfolding directory_blocked
  directory_way_clear g e = go (entry_held t q g) (inside_held t q g.node) (rw no_root at e)
    where
      go : (b c : Bool) → ((b || c) && true) ≡ false → (b ≡ false) × (c ≡ false)
      go true c f = absurd (true≢false f)
      go false true f = absurd (true≢false f)
      go false false f = (refl, refl)

  -- p has no hold on an entry that nobody is in the way at
  pub not_mine : (g : Goal) (at : Place) (role : ℕ) → at.directory ≢ 0 → g.end ≡ some at → entry_held t q g ≡ false →
      Has t.holds (hold_by p role at) → ⊥
  unfolding entry_held on hold_by
  not_mine g at role used end way h =
      clash
      (has_shows (hold_by p role at) (λ h. on g.end h && foreign t q h) (and_sees (on_sees g.end) (foreign_sees t q)) t.holds
      (rw end (both (same_place_self at) (foreign_mine role at used))) h)
      way

  -- nor inside a directory that nobody holds an entry in
  pub not_mine_inside : (d : ℕ) (at : Place) (role : ℕ) → at.directory ≢ 0 → at.directory ≡ d → inside_held t q d ≡ false →
      Has t.holds (hold_by p role at) → ⊥
  unfolding inside_held inside hold_by
  not_mine_inside d at role used there way h =
      clash
      (has_shows (hold_by p role at) (λ h. inside d h && foreign t q h) (and_sees (inside_sees d) (foreign_sees t q)) t.holds
      (both (eq-eqb at.directory d there) (foreign_mine role at used)) h)
      way

  -- so the entry is not pinned, where nothing is pinned inside what it leads to
  pub not_pinned : (g : Goal) (at : Place) → at.directory ≢ 0 → g.end ≡ some at → entry_held t q g ≡ false →
      (is_directory t.nodes (lookup t.entries at) ≡ true →
      (name : Name) → Pinned p t (record { directory = lookup t.entries at; name = name }) → ⊥) →
      Pinned p t at → ⊥
  not_pinned g at used end way within (mine role h) = not_mine g at role used end way h
  not_pinned g at used end way within (above name d pin) = within d name pin
