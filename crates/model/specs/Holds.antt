-- Document 01, 'Holds': who holds what, and which holds a call takes and drops. Assumes nothing.
use Rattle.std.specs.Prelude.{Bool, true, false, not, ◌&&◌, ◌||◌, List, [], ◌∷◌, ◌++◌, map, ℕ, eqb, ltb, length}
use Rattle.std.proofs.Math.Option.{Option, none, some}
use Rattle.model.specs.Lists.{any, count, keep, put_all, clear}
use Rattle.model.specs.Tables.{Place, Hold, Tables, end_role, element_role, no_hold, free_hold, same_place, user_of}
use Rattle.model.specs.Sound.{same_hold, is_end}
use Rattle.model.specs.Walk.{Goal}

-- What the service covers: user 0 is root
unfoldable pub root : Tables → ℕ → Bool
root t p = eqb (user_of t.processes p) 0

-- Holds: a hold that is another user's than process p's
unfoldable pub foreign : Tables → ℕ → Hold → Bool
foreign t p h = not (free_hold h) && not (eqb (user_of t.processes h.process) (user_of t.processes p))

-- Holds: a hold on the end entry, whatever its role; `/` has no end entry
unfoldable pub on : Option Place → Hold → Bool
on none h = false
on (some q) h = same_place h.place q

-- Holds, rmdir: a hold on an entry inside directory d
unfoldable pub inside : ℕ → Hold → Bool
inside d h = eqb h.place.directory d

-- Holds, fork, exec and exit: a hold of process p
unfoldable pub of_process : ℕ → Hold → Bool
of_process p h = eqb h.process p

-- WHO IS IN THE WAY

-- Holds, seen: somebody else's end hold is on the end entry
unfoldable pub end_held : Tables → ℕ → Goal → Bool
end_held t p g = any (λ h. is_end h && on g.end h && foreign t p h) t.holds

-- Holds, creation and removal: somebody else's hold is on the end entry, as end or as element
unfoldable pub entry_held : Tables → ℕ → Goal → Bool
entry_held t p g = any (λ h. on g.end h && foreign t p h) t.holds

-- Holds, rmdir: somebody else's hold is on a name inside the directory
unfoldable pub inside_held : Tables → ℕ → ℕ → Bool
inside_held t p d = any (λ h. inside d h && foreign t p h) t.holds

-- WHAT IS TAKEN

-- Holds: process p's hold in this role on this place
unfoldable pub hold_by : ℕ → ℕ → Place → Hold
hold_by p role q = record { place = q; process = p; role = role }

-- Holds: an end hold for the end entry; a walk that stopped by `/` has none
unfoldable pub end_wanted : ℕ → Option Place → List Hold
end_wanted p none = []
end_wanted p (some q) = hold_by p end_role q ∷ []

-- Holds: the elements' holds as they were met, and the end's behind them
unfoldable pub wanted : ℕ → Goal → List Hold
wanted p g = map (hold_by p element_role) g.elements ++ end_wanted p g.end

-- Holds: each only if the process lacks it; one that is wanted twice is lacking once
unfoldable pub lacking : List Hold → List Hold → List Hold
lacking have [] = []
lacking have (h ∷ hs) = elim (any (same_hold h) have) [ true ↦ lacking have hs | false ↦ h ∷ lacking (h ∷ have) hs ]

-- Numbers given back, 16: the call needs more hold rows than it found free, drops not counted
unfoldable pub no_room : Tables → List Hold → Bool
no_room t new = ltb (count free_hold t.holds) (length new)

-- Holds: new rows take the lowest free row
unfoldable pub add_holds : List Hold → List Hold → List Hold
add_holds new holds = put_all free_hold new holds

-- Holds, fork: the parent's hold as the child's
unfoldable pub copy_for : ℕ → Hold → Hold
copy_for child h = record { place = h.place; process = child; role = h.role }

-- of the parent's holds alone, row by row
unfoldable pub copies : ℕ → ℕ → List Hold → List Hold
copies parent child holds = map (copy_for child) (keep (of_process parent) holds)

-- WHAT IS DROPPED

-- The lent tables: the rows of dropped holds become free
unfoldable pub drop_holds : (Hold → Bool) → List Hold → List Hold
drop_holds f holds = clear f no_hold holds

-- Holds, root's calls 5 to 7: what it drops of others before it takes its own, end holds alone
unfoldable pub preempted : Tables → ℕ → Goal → Hold → Bool
preempted t p g h = root t p && is_end h && on g.end h && foreign t p h

-- Holds, root's calls 8 to 13: what it drops of others before it takes its own, in either role
unfoldable pub overruled : Tables → ℕ → Goal → Hold → Bool
overruled t p g h = root t p && on g.end h && foreign t p h

-- Holds, rmdir: with what root drops, every hold on an entry inside the directory
unfoldable pub emptied : Tables → ℕ → Goal → Hold → Bool
emptied t p g h = overruled t p g h || inside g.node h

-- WHAT A CALL LEAVES

-- Holds: the holds after a call that was granted: some are gone, and then what is lacking of what it wants is taken
unfoldable pub taking : Tables → List Hold → (Hold → Bool) → List Hold
taking t wants gone = add_holds (lacking t.holds wants) (drop_holds gone t.holds)

unfoldable pub computing_holds : Unit {0}
unfolding root foreign on inside of_process end_held entry_held inside_held hold_by end_wanted wanted lacking no_room add_holds copy_for copies drop_holds preempted overruled emptied taking
computing_holds = tt
