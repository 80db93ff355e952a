-- Services that a weaker promise would let through, and that the promise of `serve` shuts out, some of them as whole classes: each differs from
-- the model's `serve` on some words and some record. Assumes nothing.
use mathlib.Core.Path.{◌≡◌, refl, sym, ap, ◌∙◌}
use mathlib.Core.Bool.{true, false, not, true≢false}
use mathlib.Core.List.{List, [], ◌∷◌}
use Prim.Native.Nat.{ℕ, suc}
use native.Mathlib.Omega.{arith}
use Rattle.model.specs.Refusals.{◌when◌, ◌>>◌, ◌>>=◌}
use Rattle.model.specs.Lists.{any}
use Rattle.model.specs.Tables.{end_role, with_nodes, node_at, listed}
use Rattle.model.specs.Sound.{same_hold, sound_with}
use Rattle.model.specs.Words.{unpack}
use Rattle.model.specs.Records.{fields, short, taken, well_formed, write}
use Rattle.model.specs.Holds.{of_process, hold_by}
use Rattle.model.specs.Calls.{Change, grant, check, create, new_node, set_node, one_more, step}
use Rattle.model.specs.Serve.{Served, served, serve, after, fresh_words, computing}
use Rattle.model.specs.Listing.{text}
use Rattle.model.specs.declared.Answer.{Answer}
use Rattle.model.specs.declared.Answer.TheVariants.{Held, Done, Refused}
use Rattle.model.proofs.Stories.{call, enters, checks, creates}
use Rattle.guard.proofs.Told.{Rule, but_for}

abbrev pub Service : Type 0
Service = List ℕ → List ℕ → Served

-- the promise: for any words and any bytes, the answer, the bytes taken and every word are those of `serve`. That the code's contract says
-- the same is `serves_promised` and `promised_serves` (service, Demands).
abbrev pub Promised : Service → Type 0
Promised service = (w s : List ℕ) → service w s ≡ serve w s

-- a service that tests records and words as `serve` does, but makes the calls by another rule
unfoldable pub service_by : Rule → Service
service_by rule w s = served w (taken s) (do
  17 when short s
  1 when not (sound_with w (unpack w))
  r ← well_formed (fields s)
  rule (unpack w) r)

-- by the model's rule it is `serve`
pub service_by_step : (w s : List ℕ) → service_by step w s ≡ serve w s
unfolding computing service_by
service_by_step w s = refl

-- process 20 of user 500 enters
unfoldable pub entered : List ℕ
entered = write (enters 20 500)

-- IT REFUSES ALL, whatever numbers it gives, bytes it takes and words it leaves

abbrev pub RefusesAll : Service → Type 0
RefusesAll service = (w s : List ℕ) → (n : ℕ) × ((service w s).answer ≡ Refused n)

refused_not_done : (n m : ℕ) → ◌≡◌ {A = Answer} (Refused n) (Done m) → ⊥
refused_not_done n m e = let z : ◌≡◌ {A = ℕ} 0 1 = cc in omega arith

-- an enter of a new process is to be answered done
entered_done : (service : Service) → Promised service → (service fresh_words entered).answer ≡ Done 20
unfolding computing text call entered
entered_done service meets = ap (λ (v : Served). v.answer) (meets fresh_words entered)

pub refuses_all_breaks : (service : Service) → RefusesAll service → Promised service → ⊥
refuses_all_breaks service refuses meets =
    let refused = refuses fresh_words entered in refused_not_done refused.0 20 (sym refused.1 ∙ entered_done service meets)

-- IT ALWAYS SAYS HELD 0, whatever bytes it takes and words it leaves

abbrev pub AlwaysHeld : Service → Type 0
AlwaysHeld service = (w s : List ℕ) → (service w s).answer ≡ Held 0

held_not_done : (n m : ℕ) → ◌≡◌ {A = Answer} (Held n) (Done m) → ⊥
held_not_done n m e = let z : ◌≡◌ {A = ℕ} 0 1 = cc in omega arith

pub always_held_breaks : (service : Service) → AlwaysHeld service → Promised service → ⊥
always_held_breaks service held meets = held_not_done 0 20 (sym (held fresh_words entered) ∙ entered_done service meets)

-- IT LEAVES THE TABLES UNTOUCHED, whatever it answers and takes

abbrev pub LeavesTables : Service → Type 0
LeavesTables service = (w s : List ℕ) → (service w s).words ≡ w

pub leaves_tables_breaks : (service : Service) → LeavesTables service → Promised service → ⊥
unfolding computing text call entered
leaves_tables_breaks service leaves meets =
    true≢false
    (ap (λ (w : List ℕ). not (listed (unpack w).processes 20))
    (sym (leaves fresh_words entered) ∙ ap (λ (v : Served). v.words) (meets fresh_words entered)))

-- IT TAKES HOLDS AT THE FIRST CHECK ONLY

-- a process that has a hold takes no more by a check
unfoldable pub check_once : Rule
check_once t r =
    elim (any (of_process r.process) t.holds) [
      | true ↦ check t r >>= (λ (c : Change). grant c.answer t)
      | false ↦ check t r
    ]

unfoldable pub first_check_only : Service
first_check_only = service_by (but_for 5 check_once step)

unfoldable pub checked_once : List ℕ
checked_once = after fresh_words (entered ∷ write (checks 20 "/a") ∷ [])

pub first_check_only_breaks : Promised first_check_only → ⊥
unfolding computing text call service_by but_for check_once first_check_only entered checked_once
first_check_only_breaks meets =
    true≢false
    (ap (λ (v : Served). not (any (same_hold (hold_by 20 end_role (record { directory = 1; name = text "b" }))) (unpack v.words).holds))
    (meets checked_once (write (checks 20 "/b"))))

-- IT INVENTS THE BYTES TAKEN

unfoldable pub invents_taken : Service
invents_taken w s = record { answer = (serve w s).answer; taken = suc (taken s); words = (serve w s).words }

pub invents_taken_breaks : Promised invents_taken → ⊥
unfolding computing text call invents_taken entered
invents_taken_breaks meets =
    let z : ◌≡◌ {A = ℕ} 8 7 = ap (λ (v : Served). v.taken) (meets fresh_words entered) in omega arith

-- IT INVENTS A NODE'S ENTRY COUNT

-- one entry more than leads to the new node
unfoldable pub create_counting : Rule
create_counting t r =
    create t r >>= (λ (c : Change). grant c.answer
    (with_nodes c.tables (set_node (new_node t.nodes) (one_more (node_at c.tables.nodes (new_node t.nodes))) c.tables.nodes)))

unfoldable pub invents_count : Service
invents_count = service_by (but_for 8 create_counting step)

pub invents_count_breaks : Promised invents_count → ⊥
unfolding computing text call service_by but_for create_counting invents_count entered
invents_count_breaks meets =
    let z : ◌≡◌ {A = ℕ} 2 1 =
    ap (λ (v : Served). (node_at (unpack v.words).nodes 2).count)
    (meets (after fresh_words (entered ∷ [])) (write (creates 20 "/fox"))) in
    omega arith
