-- What the calls test of a hold: its place, process and role, and nothing else that a row may have. Assumes nothing.
use mathlib.Core.Path.{◌≡◌, refl, ap, ap₂}
use mathlib.Core.Bool.{Bool, not, ◌&&◌, ◌||◌}
use mathlib.Core.Option.{Option, none, some}
use Prim.Native.Nat.{ℕ}
use lib.Dec.{eqb}
use Rattle.model.specs.Tables.{Place, Hold, Tables, end_role, free_hold, same_place, user_of}
use Rattle.model.specs.Sound.{is_end}
use Rattle.model.specs.Walk.{Goal}
use Rattle.model.specs.Holds.{foreign, on, inside, of_process, preempted, overruled, emptied}
use Rattle.laws.proofs.Places.{OneHold}

abbrev pub SeesNoMore : (Hold → Bool) → Type 0
SeesNoMore test = (a b : Hold) → OneHold a b → test a ≡ test b

pub and_sees : {f g : Hold → Bool} → SeesNoMore f → SeesNoMore g → SeesNoMore (λ h. f h && g h)
and_sees sf sg a b one = ap₂ ◌&&◌ (sf a b one) (sg a b one)

pub on_sees : (end : Option Place) → SeesNoMore (on end)
unfolding on
on_sees none a b one = refl
on_sees (some q) a b one = ap (λ (at : Place). same_place at q) one.place

pub inside_sees : (d : ℕ) → SeesNoMore (inside d)
unfolding inside
inside_sees d a b one = ap (λ (at : Place). eqb at.directory d) one.place

pub of_process_sees : (p : ℕ) → SeesNoMore (of_process p)
unfolding of_process
of_process_sees p a b one = ap (λ (q : ℕ). eqb q p) one.process

pub foreign_sees : (t : Tables) (p : ℕ) → SeesNoMore (foreign t p)
unfolding foreign free_hold
foreign_sees t p a b one =
    ap₂ (λ (at : Place) (q : ℕ). not (eqb at.directory 0) && not (eqb (user_of t.processes q) (user_of t.processes p))) one.place one.process

is_end_sees : SeesNoMore is_end
unfolding is_end
is_end_sees a b one = ap (λ (role : ℕ). eqb role end_role) one.role

pub preempted_sees : (t : Tables) (p : ℕ) (g : Goal) → SeesNoMore (preempted t p g)
unfolding preempted
preempted_sees t p g a b one = rw (is_end_sees a b one, on_sees g.end a b one, foreign_sees t p a b one)

pub overruled_sees : (t : Tables) (p : ℕ) (g : Goal) → SeesNoMore (overruled t p g)
unfolding overruled
overruled_sees t p g a b one = rw (on_sees g.end a b one, foreign_sees t p a b one)

pub emptied_sees : (t : Tables) (p : ℕ) (g : Goal) → SeesNoMore (emptied t p g)
unfolding emptied
emptied_sees t p g a b one = ap₂ ◌||◌ (overruled_sees t p g a b one) (inside_sees g.node a b one)
