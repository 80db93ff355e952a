-- The rules for holds, kept where holds are dropped, where holds are added, and where nodes and processes change around them.
-- Assumes nothing.
use mathlib.Core.Path.{◌≡◌, refl, sym, ap, ◌∙◌}
use mathlib.Core.Bool.{Bool, true, false, ◌||◌, true≢false, false≢true}
use mathlib.Core.Logic.{◌⊎◌, inl, inr}
use mathlib.Core.List.{List, [], ◌∷◌, map}
use mathlib.Core.Option.{Option, none, some}
use Prim.Native.Nat.{ℕ}
use borrow.Author.Tests.{ne_eqb}
use lib.Dec.{eqb}
use Rattle.model.specs.Lists.{any}
use Rattle.model.specs.Tables.{Place, Node, Hold, Process, Tables, end_role, element_role, no_hold, free_hold, is_directory, listed, user_of}
use Rattle.model.specs.Sound.{same_hold, is_end}
use Rattle.model.specs.Walk.{Goal}
use Rattle.model.specs.Holds.{hold_by, end_wanted, wanted, lacking, add_holds, drop_holds, taking}
use Rattle.laws.proofs.Bools.{clash, is_false}
use Rattle.laws.proofs.Members.{◌∈◌, here, there, in_nothing, in_none, from_append, from_map, from_clear, from_put_all}
use Rattle.laws.proofs.Places.{same_hold_turned, free_together}
use Rattle.laws.proofs.Rules.{distinct_clear, distinct_put_all, Apart, none_new, one_new, apart_kept}
use Rattle.invariants.proofs.Cases.{new_holds}
use Rattle.invariants.proofs.Rows.{like_no_hold}
use Rattle.invariants.proofs.Soundness.{RightHold, Holding}
use Rattle.invariants.proofs.Walks.{directory_not_zero}

-- HOLDS DROPPED

-- the used holds among the first are among the second
abbrev pub Fewer : List Hold → List Hold → Type 0
Fewer left holds = (h : Hold) → h ∈ left → free_hold h ≡ false → h ∈ holds

pub from_drop : (f : Hold → Bool) (holds : List Hold) (h : Hold) → h ∈ drop_holds f holds → free_hold h ≡ false →
    (h ∈ holds) × (f h ≡ false)
unfolding drop_holds free_hold
from_drop f holds h m used = go (from_clear f no_hold holds m)
  where
    go : (h ≡ no_hold) ⊎ ((h ∈ holds) × (f h ≡ false)) → (h ∈ holds) × (f h ≡ false)
    go (inl e) = absurd (true≢false (rw e at used))
    go (inr i) = i

pub drop_fewer : (f : Hold → Bool) (holds : List Hold) → Fewer (drop_holds f holds) holds
drop_fewer f holds h m used = (from_drop f holds h m used).0

module _ (nodes : List Node) (processes : List Process) where
  pub holding_fewer : (f : Hold → Bool) (holds : List Hold) → Holding nodes processes holds → Holding nodes processes (drop_holds f holds)
  unfolding drop_holds free_hold
  holding_fewer f holds s =
      record {
        distinct_holds = distinct_clear free_hold same_hold f no_hold refl like_no_hold holds s.distinct_holds;
        right = λ h m used. s.right h (drop_fewer f holds h m used) used;
        one_user = λ h k m i used end_h end_k same.
            s.one_user h k (drop_fewer f holds h m used) (drop_fewer f holds k i (rw (← same) used)) used end_h end_k same;
      }

-- NODES AND PROCESSES CHANGED

-- what a hold needs of the nodes and processes is as before
pub record Still (nodes : List Node) (before processes : List Process) (h : Hold) : Type 0 where
  pub directory : is_directory nodes h.place.directory ≡ true
  pub holder : listed processes h.process ≡ true
  pub user : user_of processes h.process ≡ user_of before h.process

pub holding_still : (nodes nodes' : List Node) (before processes : List Process) (holds : List Hold) → Holding nodes before holds →
    ((h : Hold) → h ∈ holds → free_hold h ≡ false → Still nodes' before processes h) → Holding nodes' processes holds
unfolding free_hold
holding_still nodes nodes' before processes holds s still =
    record {
      distinct_holds = s.distinct_holds;
      right = λ h m used.
          let was = s.right h m used in
          let now = still h m used in
          record {
            in_directory = now.directory;
            named = was.named;
            role = was.role;
            holder = now.holder;
            holder_numbered = was.holder_numbered;
          };
      one_user = λ h k m i used end_h end_k same.
          (still h m used).user ∙ s.one_user h k m i used end_h end_k same ∙ sym (still k i (rw (← same) used)).user;
    }

-- HOLDS ADDED

-- a new hold of process p: right, and of the same user as the end holds there
pub record NewHold (nodes : List Node) (processes : List Process) (holds : List Hold) (p : ℕ) (h : Hold) : Type 0 where
  pub process : h.process ≡ p
  pub right : RightHold nodes processes h
  pub user :
      (k : Hold) → k ∈ holds → free_hold k ≡ false → is_end h ≡ true → is_end k ≡ true → h.place ≡ k.place →
      user_of processes p ≡ user_of processes k.process

pub right_used : (nodes : List Node) (processes : List Process) (h : Hold) → RightHold nodes processes h → free_hold h ≡ false
unfolding free_hold
right_used nodes processes h r = ne_eqb h.place.directory 0 (directory_not_zero nodes h.place.directory r.in_directory)

module _ (nodes : List Node) (processes : List Process) (p : ℕ) (news holds : List Hold) where
  pub holding_more : Apart same_hold news holds → ((h : Hold) → h ∈ news → NewHold nodes processes holds p h) →
      Holding nodes processes holds → Holding nodes processes (add_holds news holds)
  unfolding add_holds free_hold
  holding_more apart new s =
      record {
        distinct_holds = distinct_put_all free_hold same_hold same_hold_turned news holds apart s.distinct_holds;
        right = λ h m used. right h used (from_put_all free_hold news holds m);
        one_user = λ h k m i.
            one h k (from_put_all free_hold news holds m) (from_put_all free_hold news holds i);
      }
    where
      right : (h : Hold) → free_hold h ≡ false → (h ∈ news) ⊎ (h ∈ holds) → RightHold nodes processes h
      right h used (inl m) = (new h m).right
      right h used (inr m) = s.right h m used

      one : (h k : Hold) → (h ∈ news) ⊎ (h ∈ holds) → (k ∈ news) ⊎ (k ∈ holds) → free_hold h ≡ false → is_end h ≡ true → is_end k ≡ true →
          h.place ≡ k.place → user_of processes h.process ≡ user_of processes k.process
      one h k (inl m) (inl i) used end_h end_k same = ap (user_of processes) ((new h m).process ∙ sym (new k i).process)
      one h k (inl m) (inr i) used end_h end_k same =
          ap (user_of processes) (new h m).process ∙ (new h m).user k i (rw (← same) used) end_h end_k same
      one h k (inr m) (inl i) used end_h end_k same =
          sym (ap (user_of processes) (new k i).process ∙ (new k i).user h m used end_k end_h (sym same))
      one h k (inr m) (inr i) used end_h end_k same = s.one_user h k m i used end_h end_k same

-- WHAT A CALL TAKES

-- a place that the walk met: of a link that it followed, or its end
pub data Met (g : Goal) (q : Place) : Type 0 where
  element : q ∈ g.elements → Met g q
  end : g.end ≡ some q → Met g q

pub record WantedHold (p : ℕ) (g : Goal) (h : Hold) : Type 0 where
  pub process : h.process ≡ p
  pub met : Met g h.place
  pub role : (eqb h.role end_role || eqb h.role element_role) ≡ true
  pub end : is_end h ≡ true → g.end ≡ some h.place

wanted_holds : (p : ℕ) (g : Goal) (h : Hold) → h ∈ wanted p g → WantedHold p g h
unfolding wanted end_wanted hold_by is_end
wanted_holds p g h m = go (from_append (map (hold_by p element_role) g.elements) (end_wanted p g.end) m)
  where
    last : (e : Option Place) → g.end ≡ e → h ∈ end_wanted p e → WantedHold p g h
    last none s i = in_nothing i
    last (some q) s (here e) = rw e (record { process = refl; met = end s; role = refl; end = λ _. s })
    last (some q) s (there i) = in_nothing i

    go : (h ∈ map (hold_by p element_role) g.elements) ⊎ (h ∈ end_wanted p g.end) → WantedHold p g h
    go (inl i) =
        let found = from_map (hold_by p element_role) g.elements i in
        rw found.2 (record { process = refl; met = element found.1; role = refl; end = λ z. absurd (false≢true z) })
    go (inr i) = last g.end refl i

from_lacking : (ws have : List Hold) (h : Hold) → h ∈ lacking have ws → h ∈ ws
unfolding lacking
from_lacking [] have h m = m
from_lacking (w ∷ ws) have h m = go (any (same_hold w) have) (λ more. from_lacking ws more h) m
  where
    go : (b : Bool) → ((more : List Hold) → h ∈ lacking more ws → h ∈ ws) →
        h ∈ elim b as (λ _. List Hold) [ true ↦ lacking have ws | false ↦ w ∷ lacking (w ∷ have) ws ] → h ∈ (w ∷ ws)
    go true ih i = there (ih have i)
    go false ih (here e) = here e
    go false ih (there i) = there (ih (w ∷ have) i)

lacking_apart : (ws have : List Hold) → Apart same_hold (lacking have ws) have
unfolding lacking
lacking_apart [] have = none_new
lacking_apart (w ∷ ws) have = go (any (same_hold w) have) refl (lacking_apart ws)
  where
    go : (b : Bool) → any (same_hold w) have ≡ b → ((have : List Hold) → Apart same_hold (lacking have ws) have) →
        Apart same_hold (elim b as (λ _. List Hold) [ true ↦ lacking have ws | false ↦ w ∷ lacking (w ∷ have) ws ]) have
    go true e ih = ih have
    go false e ih = one_new (λ x m. in_none (same_hold w) e m) (ih (w ∷ have))

pub new_wanted : (t : Tables) (p : ℕ) (g : Goal) (h : Hold) → h ∈ new_holds t p g → WantedHold p g h
new_wanted t p g h m = wanted_holds p g h (from_lacking (wanted p g) t.holds h m)

-- what is lacking is new also where some holds are gone
fewer_apart : (holds left news : List Hold) → Fewer left holds → ((h : Hold) → h ∈ news → free_hold h ≡ false) →
    Apart same_hold news holds →
    Apart same_hold news left
unfolding free_hold
fewer_apart holds left news fewer used apart = apart_kept free_hold same_hold left (λ n x i m. go n x (used n i) m (free_hold x) refl) apart
  where
    go : (n x : Hold) → free_hold n ≡ false → x ∈ left → (b : Bool) → free_hold x ≡ b → (x ∈ holds) ⊎ (same_hold n x ≡ false)
    go n x u m true e = inr (is_false (same_hold n x) (λ s. clash (free_together n x s ∙ e) u))
    go n x u m false e = inl (fewer x m e)

-- The call of process p takes what it lacks for goal g, after drops: every place met is in a directory, and the end holds left on the end
-- entry are of p's user.
pub holding_taken : (t : Tables) (p : ℕ) (g : Goal) (nodes : List Node) (gone : Hold → Bool) →
    Holding nodes t.processes (drop_holds gone t.holds) → ((h : Hold) → WantedHold p g h → RightHold nodes t.processes h) →
    ((k : Hold) → k ∈ t.holds → gone k ≡ false → free_hold k ≡ false → is_end k ≡ true → g.end ≡ some k.place →
    user_of t.processes p ≡ user_of t.processes k.process) →
    Holding nodes t.processes (taking t (wanted p g) gone)
unfolding taking
holding_taken t p g nodes gone s right clean =
    let left = drop_holds gone t.holds in
    holding_more nodes t.processes p (new_holds t p g) left
    (fewer_apart t.holds left (new_holds t p g) (drop_fewer gone t.holds) (λ h m. right_used nodes t.processes h (right h (new_wanted t p g h m)))
    (lacking_apart (wanted p g) t.holds))
    (λ h m.
    let w = new_wanted t p g h m in
    record {
      process = w.process;
      right = right h w;
      user = λ k i used end_h end_k same.
          let was = from_drop gone t.holds k i used in
          clean k was.0 was.1 used end_k (w.end end_h ∙ ap some same);
    })
    s
