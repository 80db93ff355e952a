-- No call is refused as unsound, with number 1: that number is for the test of the words alone. Assumes nothing.
use mathlib.Core.Path.{◌≡◌}
use mathlib.Core.Bool.{Bool, true, false, not, ◌&&◌, true≢false}
use mathlib.Core.Logic.{◌≢◌}
use mathlib.Core.List.{List, [], ◌∷◌}
use Prim.Native.Nat.{ℕ, zero, suc}
use native.Mathlib.Omega.{arith}
use Rattle.model.specs.Refusals.{Outcome, refused, granted, ◌when◌, ◌>>◌, ◌>>=◌}
use Rattle.model.specs.Paths.{Name}
use Rattle.model.specs.Tables.{Place, Entry, Node, Tables, a_file, a_directory, a_link}
use Rattle.model.specs.Records.{Call, well_formed}
use Rattle.model.specs.Walk.{Goal, Found, nothing, file, directory, link, found, Trip, here, astray, past, after_link, follow, turn, trip_names, trip_within, trip, walk}
use Rattle.model.specs.Holds.{root, end_held}
use Rattle.model.specs.Calls.{Change, grant, reaching, reaching_both, enter, fork, exec, exit, hold_at, seen_or_held, look_at, looking, check, look, use_of, make_at, make, create, mkdir, symlink, link_at, unlink_at, unlink, rmdir_at, rmdir, step}
use Rattle.model.specs.Calls as calls
use Rattle.model.specs.declared.Answer.TheVariants.{Seen}
use Rattle.laws.proofs.Each.{none, one, each_at}

abbrev pub NotUnsound : {A : Type 0} → Outcome A → Type 0
NotUnsound (refused n) = n ≢ 1
NotUnsound (granted a) = Unit {0}

-- a test with another number, and then work that is not refused so
pub tested : {A : Type 0} (n : ℕ) (b : Bool) (rest : Outcome A) → n ≢ 1 → NotUnsound rest → NotUnsound ((n when b) >> rest)
unfolding ◌>>◌
tested n true rest differs h = differs
tested n false rest differs h = h

-- the test of the words, where it does not apply
pub skipped : {A : Type 0} (b : Bool) (rest : Outcome A) → b ≡ false → NotUnsound rest → NotUnsound ((1 when b) >> rest)
unfolding ◌>>◌
skipped true rest e h = absurd (true≢false e)
skipped false rest e h = h

pub joined : {A B : Type 0} (work : Outcome A) (rest : A → Outcome B) → NotUnsound work → ((a : A) → NotUnsound (rest a)) →
    NotUnsound (work >>= rest)
unfolding ◌>>=◌
joined (refused n) rest h more = h
joined (granted a) rest h more = more a

-- WALKS

past_not_unsound : (q : Place) (w : Outcome Goal) → NotUnsound w → NotUnsound (past q w)
unfolding past
past_not_unsound q (refused n) h = h
past_not_unsound q (granted g) h = tt

module _ (entries : List Entry) (nodes : List Node) (last : Bool) where
  module _ (jump : ℕ → List Name → Trip) (jumps : (d : ℕ) (ns : List Name) → NotUnsound (jump d ns).outcome) where
    turn_not_unsound : (last : Bool) (on : ℕ → Trip) (q : Place) (f : Found) (rest : List Name) → ((n : ℕ) → NotUnsound (on n).outcome) →
        NotUnsound (turn jump on last q f rest).outcome
    unfolding turn here astray follow after_link
    turn_not_unsound last on q nothing [] h = tt
    turn_not_unsound last on q nothing (next ∷ rest) h = omega arith
    turn_not_unsound last on q (file n) [] h = tt
    turn_not_unsound last on q (file n) (next ∷ rest) h = omega arith
    turn_not_unsound last on q (directory n) [] h = tt
    turn_not_unsound last on q (directory n) (next ∷ rest) h = h n
    turn_not_unsound true on q (link n target) [] h = past_not_unsound q _ (jumps _ _)
    turn_not_unsound false on q (link n target) [] h = tt
    turn_not_unsound true on q (link n target) (next ∷ rest) h = past_not_unsound q _ (jumps _ _)
    turn_not_unsound false on q (link n target) (next ∷ rest) h = past_not_unsound q _ (jumps _ _)

    names_not_unsound : (d : ℕ) (ns : List Name) → NotUnsound (trip_names (found entries nodes) last jump d ns).outcome
    unfolding trip_names
    names_not_unsound d [] = tt
    names_not_unsound d (name ∷ rest) =
        turn_not_unsound last (λ n. trip_names (found entries nodes) last jump n rest) (record { directory = d; name = name })
        (found entries nodes (record { directory = d; name = name })) rest (λ n. names_not_unsound n rest)

  within_not_unsound : (k d : ℕ) (ns : List Name) → NotUnsound (trip_within (found entries nodes) last k d ns).outcome
  unfolding trip_within astray
  within_not_unsound zero d ns = names_not_unsound (λ d rest. astray 7) (λ d rest. omega arith) d ns
  within_not_unsound (suc k) d ns = names_not_unsound (trip_within (found entries nodes) last k) (within_not_unsound k) d ns

  walk_not_unsound : (path : List ℕ) → NotUnsound (walk entries nodes last path)
  unfolding walk trip
  walk_not_unsound path = within_not_unsound 8 1 _

-- CALLS

module _ (t : Tables) (r : Call) where
  enter_not_unsound : NotUnsound (enter t r)
  unfolding enter
  enter_not_unsound = tested 5 _ _ (omega arith) (tested 6 _ _ (omega arith) tt)

  fork_not_unsound : NotUnsound (fork t r)
  unfolding fork
  fork_not_unsound = tested 4 _ _ (omega arith) (tested 5 _ _ (omega arith) (tested 6 _ _ (omega arith) (tested 16 _ _ (omega arith) tt)))

  exec_not_unsound : NotUnsound (exec t r)
  unfolding exec
  exec_not_unsound = tested 4 _ _ (omega arith) tt

  exit_not_unsound : NotUnsound (exit t r)
  unfolding exit
  exit_not_unsound = tested 4 _ _ (omega arith) tt

  seen_or_held_not_unsound : (g : Goal) → NotUnsound (seen_or_held t r.process g)
  unfolding seen_or_held hold_at
  seen_or_held_not_unsound g = go (end_held t r.process g && not (root t r.process))
    where
      go : (b : Bool) →
          NotUnsound {A = Change} (elim b as (λ _. Outcome Change) [ true ↦ grant (Seen g.node) t | false ↦ hold_at t r.process g ])
      go true = tt
      go false = tested 16 _ _ (omega arith) tt

  reaching_not_unsound : (p : ℕ) (last : Bool) (path : List ℕ) → NotUnsound (reaching t p last path)
  unfolding reaching
  reaching_not_unsound p last path = tested 4 _ _ (omega arith) (walk_not_unsound t.entries t.nodes last path)

  reaching_both_not_unsound : (p : ℕ) (path1 path2 : List ℕ) → NotUnsound (reaching_both t p path1 path2)
  unfolding reaching_both
  reaching_both_not_unsound p path1 path2 =
      joined _ _ (reaching_not_unsound p false path1)
      (λ new. joined _ _ (walk_not_unsound t.entries t.nodes false path2) (λ old. tt))

  looking_not_unsound : (last must_exist : Bool) → NotUnsound (looking last must_exist t r)
  unfolding looking look_at
  looking_not_unsound last must_exist =
      joined _ _ (reaching_not_unsound r.process last r.path1)
      (λ g. tested 10 _ _ (omega arith) (seen_or_held_not_unsound g))

  make_not_unsound : (kind : ℕ) (target : List ℕ) → NotUnsound (make kind target t r)
  unfolding make make_at
  make_not_unsound kind target =
      joined _ _ (reaching_not_unsound r.process false r.path1)
      (λ g. tested 11 _ _ (omega arith) (tested 14 _ _ (omega arith) (tested 15 _ _ (omega arith) (tested 16 _ _ (omega arith) tt))))

  link_not_unsound : NotUnsound (calls.link t r)
  unfolding calls.link link_at
  link_not_unsound =
      joined _ _ (reaching_both_not_unsound r.process r.path1 r.path2)
      (λ ends. tested 10 _ _ (omega arith)
      (tested 11 _ _ (omega arith)
      (tested 12 _ _ (omega arith) (tested 14 _ _ (omega arith) (tested 15 _ _ (omega arith) (tested 16 _ _ (omega arith) tt))))))

  unlink_not_unsound : NotUnsound (unlink t r)
  unfolding unlink unlink_at
  unlink_not_unsound =
      joined _ _ (reaching_not_unsound r.process false r.path1)
      (λ g. tested 10 _ _ (omega arith) (tested 12 _ _ (omega arith) (tested 14 _ _ (omega arith) (tested 16 _ _ (omega arith) tt))))

  rmdir_not_unsound : NotUnsound (rmdir t r)
  unfolding rmdir rmdir_at
  rmdir_not_unsound =
      joined _ _ (reaching_not_unsound r.process false r.path1)
      (λ g. tested 10 _ _ (omega arith)
      (tested 12 _ _ (omega arith) (tested 13 _ _ (omega arith) (tested 14 _ _ (omega arith) (tested 16 _ _ (omega arith) tt)))))

  pub step_not_unsound : NotUnsound (step t r)
  unfolding step check look use_of create mkdir symlink
  step_not_unsound =
      each_at {P = NotUnsound}
      (one (omega arith)
      (one enter_not_unsound
      (one fork_not_unsound
      (one exec_not_unsound
      (one exit_not_unsound
      (one (looking_not_unsound true false)
      (one (looking_not_unsound false false)
      (one (looking_not_unsound true true)
      (one (make_not_unsound a_file [])
      (one (make_not_unsound a_directory [])
      (one (make_not_unsound a_link r.path2) (one link_not_unsound (one unlink_not_unsound (one rmdir_not_unsound none))))))))))))))
      (omega arith) r.call

pub well_formed_not_unsound : (r : Call) → NotUnsound (well_formed r)
unfolding well_formed
well_formed_not_unsound r = tested 2 _ _ (omega arith) (tested 3 _ _ (omega arith) tt)
