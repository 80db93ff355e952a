-- What `reach` and `reach_both` answer tells the call behind them: a refusal is the call's, and else it goes on with the model's goals.
-- Assumes nothing.
use mathlib.Core.Path.{◌≡◌, refl, sym, ap, subst, ◌∙◌}
use mathlib.Core.Bool.{Bool, false}
use mathlib.Core.List.{List}
use mathlib.Core.Option.{Option, none, some}
use Prim.Native.Nat.{ℕ}
use Rattle.std.specs.Prelude.{Option as StdOption, None, Result, Ok, Err, ok_or}
use Rattle.model.specs.Refusals.{Outcome, refused, granted, ◌>>=◌}
use Rattle.model.specs.Tables.{Place, Process, Tables}
use Rattle.model.specs.Walk.{Goal, walk}
use Rattle.model.specs.Words.{unpack}
use Rattle.model.specs.Calls.{Change, Ends, reaching, reaching_both}
use Rattle.model.specs.declared.Answer.{Answer}
use Rattle.model.specs.declared.Answer.TheVariants as answers
use Rattle.rows.specs.Meets.{answer_of, words_of, Meets}
use Rattle.search.specs.declared.Caller.{Caller}
use Rattle.search.specs.Callers.{Known, caller}
use Rattle.edits.specs.Counts.{Countable}
use Rattle.goals.specs.declared.Stop.{Stop}
use Rattle.goals.specs.declared.Stop.TheVariants as stops
use Rattle.goals.specs.declared.Walk.{Walk}
use Rattle.goals.specs.Goals.{stop_of, walked, goal_of, WalkNamed}
use Rattle.plans.specs.Plans.{WalkUsed}
use Rattle.goals.proofs.Back.{OutcomeFits, walked_named, goal_back}
use Rattle.records.specs.declared.Fields.{Fields}
use Rattle.records.specs.Reading.{part_of}
use Rattle.goals.specs.declared.Reached.{Reached}
use Rattle.reaching.specs.declared.ReachedBoth.{ReachedBoth}
use Rattle.reaching.specs.Behind.{Behind}
use Rattle.index.specs.Indexed.{Index}
use Rattle.reaching.specs.Ready.{Ready, Walks, WalksTwice}
use Rattle.reaching.specs.Ways.{way_by, way_behind, reached, reached_both}
use Rattle.reaching.proofs.Accepting.{path2_in}
use Rattle.reaching.proofs.Walking.{stands_sound, goal_countable, goal_used, Leading, path_leads, reach_leads}

-- THE WAY BEHIND A WALK

pub way_open : (s : Stop) (x : Walk) → ((n : ℕ) → s ≡ stops.Refused n → ⊥) → Ok x ≡ way_by s x
unfolding way_by
way_open (stops.Refused n) x h = absurd (h n refl)
way_open stops.Root x h = refl
way_open (stops.Entry q node) x h = refl

-- the outcome is this walk's goal
pub record Open (o : Outcome Goal) (x : Walk) : Type 0 where
  pub goal : Goal
  pub goes : o ≡ granted goal
  pub is : x ≡ walked (granted goal)

pub open_as : {whole o : Outcome Goal} {x : Walk} → whole ≡ o → Open o x → Open whole x
open_as e on = record { goal = on.goal; goes = e ∙ on.goes; is = on.is }

-- the number that `ok_or` gives of no caller
pub err_of : {o : StdOption Caller} {n m : ℕ} → o ≡ None → Err n ≡ ok_or o m → n ≡ m
err_of {n = n} {m = m} e h = let same : ◌≡◌ {A = Result Caller ℕ} (Err n) (Err m) = h ∙ ap (λ o. ok_or o m) e in cc

-- the outcome, as the code goes on with it
abbrev told : Outcome Goal → Result Walk ℕ
told (refused n) = Err n
told (granted g) = Ok (walked (granted g))

stop_open : (end : Option Place) (node : ℕ) (x : Walk) → way_by (stop_of end node) x ≡ Ok x
unfolding way_by stop_of
stop_open none node x = refl
stop_open (some q) node x = refl

way_told : (o : Outcome Goal) → way_behind (walked o) ≡ told o
unfolding walked way_by
way_told (refused n) = refl
way_told (granted g) = stop_open g.end g.node (walked (granted g))

shut_told : (o : Outcome Goal) (n : ℕ) → Err n ≡ told o → o ≡ refused n
shut_told (refused m) n e = cc
shut_told (granted g) n e = cc

open_told : (o : Outcome Goal) (x : Walk) → Ok x ≡ told o → Open o x
open_told (refused m) x e = cc
open_told (granted g) x e = record { goal = g; goes = refl; is = cc }

module _ {o : Outcome Goal} {x : Walk} (e : x ≡ walked o) where
  pub way_shut : {n : ℕ} → Err n ≡ way_behind x → o ≡ refused n
  way_shut {n} h = shut_told o n (h ∙ ap way_behind e ∙ way_told o)

  pub way_on : {y : Walk} → Ok y ≡ way_behind x → Open o y
  way_on {y} h = open_told o y (h ∙ ap way_behind e ∙ way_told o)

-- what is answered, put together
module _ (processes : List Process) (p : ℕ) where
  pub reached_refused : {o : Outcome Goal} {n : ℕ} → o ≡ refused n → Err n ≡ reached processes p o
  unfolding reached
  reached_refused is = sym (ap (reached processes p) is)

  pub both_stopped : (second : Outcome Goal) {first : Outcome Goal} {n : ℕ} → first ≡ refused n → Err n ≡ reached_both processes p first second
  unfolding reached_both
  both_stopped second is = sym (ap (λ q. reached_both processes p q second) is)

  module _ {c : Caller} (same : c ≡ caller processes p) where
    pub reached_walked : {o : Outcome Goal} {x : Walk} → Open o x → Ok (record { caller = c; walk = x }) ≡ reached processes p o
    unfolding reached
    reached_walked on =
        let is = on.is in
        (λ i. Ok (record { caller = same i; walk = is i })) ∙ sym (ap (reached processes p) on.goes)

    pub both_walked : (second : Outcome Goal) {first : Outcome Goal} {x z : Walk} {y : Result Walk ℕ} → Open first x → z ≡ walked second → y ≡ way_behind z
        → Ok (record { new = record { caller = c; walk = x }; old = y }) ≡ reached_both processes p first second
    unfolding reached_both
    both_walked second new is tells =
        let x = new.is in
        let y = tells ∙ ap way_behind is in
        (λ i. Ok (record { new = record { caller = same i; walk = x i }; old = y i })) ∙ sym (ap (λ q. reached_both processes p q second) new.goes)

-- WHAT IT TELLS

-- who calls, and that the outcome is this walk's goal
pub record Told (processes : List Process) (p : ℕ) (o : Outcome Goal) (c : Caller) (x : Walk) : Type 0 where
  pub is_caller : c ≡ caller processes p
  pub leads : Open o x

module _ (processes : List Process) (p : ℕ) where
  pub told_refused : (o : Outcome Goal) {n : ℕ} → Err n ≡ reached processes p o → o ≡ refused n
  unfolding reached
  told_refused (refused m) e = cc
  told_refused (granted g) e = cc

  pub told_open : (o : Outcome Goal) {a : Reached} → Ok a ≡ reached processes p o → Told processes p o a.caller a.walk
  unfolding reached
  told_open (refused m) e = cc
  told_open (granted g) {a} e =
      let same : a ≡ record { caller = caller processes p; walk = walked (granted g) } = cc in
      record { is_caller = ap (λ (x : Reached). x.caller) same; leads = record { goal = g; goes = refl; is = ap (λ (x : Reached). x.walk) same } }

  abbrev ends_of : Outcome Goal → Outcome Goal → Outcome Ends
  ends_of first second = first >>= (λ new. second >>= (λ old. granted (record { new = new; old = old })))

  both_told_refused : (first second : Outcome Goal) {n : ℕ} → Err n ≡ reached_both processes p first second → ends_of first second ≡ refused n
  unfolding reached_both ◌>>=◌
  both_told_refused (refused m) second e = cc
  both_told_refused (granted g) second e = cc

  -- what is told where path 1 leads somewhere
  record BothTold (first second : Outcome Goal) (a : ReachedBoth) : Type 0 where
    pub new : Told processes p first a.new.caller a.new.walk
    pub old : a.old ≡ told second

  both_told : (first second : Outcome Goal) {a : ReachedBoth} → Ok a ≡ reached_both processes p first second → BothTold first second a
  unfolding reached_both
  both_told (refused m) second e = cc
  both_told (granted g) second {a} e =
      let same : a ≡ record { new = record { caller = caller processes p; walk = walked (granted g) }; old = way_behind (walked second) } = cc in
      let who = ap (λ (x : ReachedBoth). x.new.caller) same in
      record {
        new = record { is_caller = who; leads = record { goal = g; goes = refl; is = ap (λ (x : ReachedBoth). x.new.walk) same } };
        old = ap (λ (x : ReachedBoth). x.old) same ∙ way_told second;
      }

  -- and path 2 does not
  old_refused : (first second : Outcome Goal) {a : ReachedBoth} {n : ℕ} → BothTold first second a → Err n ≡ a.old → ends_of first second ≡ refused n
  unfolding ◌>>=◌
  old_refused first second {n = n} both e =
      ap (λ q. ends_of q second) both.new.leads.goes ∙ ap (ends_of (granted both.new.leads.goal)) (shut_told second n (e ∙ both.old))

  -- or does
  old_open : (first second : Outcome Goal) {a : ReachedBoth} {x : Walk} → BothTold first second a → Ok x ≡ a.old → Told processes p second a.new.caller x
  old_open first second {x = x} both e = record { is_caller = both.new.is_caller; leads = open_told second x (e ∙ both.old) }

-- ONE WAY

-- the outcome is this walk's goal, and process p's call may rest on it
pub record Came (w : List ℕ) (p : ℕ) (o : Outcome Goal) (c : Caller) (walk : Walk) : Type 0 where
  pub goes : o ≡ granted (goal_of walk)
  pub is_caller : c ≡ caller (unpack w).processes p
  pub behind : Behind w (record { caller = c; walk = walk })
  pub countable : Countable (unpack w).nodes (goal_of walk).node

-- the outcome's goal stands in the tables
came_by : {w s : List ℕ} {x : Index} {f : Fields} {o : Outcome Goal} (leading : Leading w o) (p : ℕ) → Ready w x s f → {c : Caller} {x : Walk}
    → Told (unpack w).processes p o c x → Came w p o c x
unfolding OutcomeFits
came_by {w} {o = o} leading p ready {c} {x} told =
    let g = told.leads.goal in
    let fits = subst OutcomeFits told.leads.goes leading.fits in
    let back : goal_of x ≡ g = ap goal_of told.leads.is ∙ goal_back g fits in
    let arrived = leading.arrives g told.leads.goes in
    record {
      goes = told.leads.goes ∙ ap granted (sym back);
      is_caller = told.is_caller;
      behind =
          record {
            stands = stands_sound w ready.sound;
            named =
                record {
                  known = subst (Known (unpack w).processes) (sym told.is_caller) (record { user = refl });
                  named = subst WalkNamed (sym told.leads.is) (walked_named (granted g) fits);
                };
            used = subst WalkUsed (sym told.leads.is) (goal_used (unpack w) leading.order g arrived fits);
          };
      countable = subst (λ n. Countable (unpack w).nodes n) (ap (λ (x : Goal). x.node) (sym back)) (goal_countable (unpack w) leading.order g arrived);
    }

module _ {w s : List ℕ} {x : Index} {f : Fields} (ready : Ready w x s f) (walks : Walks f) where
  -- WHERE PATH 1 LEADS

  module _ (follow_last : Bool) where
    abbrev First : Outcome Goal
    First = reaching (unpack w) f.process follow_last (part_of s f.path1)

    pub refused_on_the_way : {n : ℕ} → Err n ≡ reached (unpack w).processes f.process First → (rest : Goal → Outcome Change)
        → Meets w (First >>= rest) (answers.Refused n) w
    unfolding ◌>>=◌ answer_of words_of
    refused_on_the_way e rest = rw (told_refused (unpack w).processes f.process First e) (record { answer = refl; words = refl })

    pub came : {a : Reached} → Ok a ≡ reached (unpack w).processes f.process First → Came w f.process First a.caller a.walk
    came e = came_by (reach_leads ready follow_last walks) f.process ready (told_open (unpack w).processes f.process First e)

  -- WHERE BOTH PATHS LEAD

  module _ (twice : WalksTwice f) where
    abbrev New : Outcome Goal
    New = reaching (unpack w) f.process false (part_of s f.path1)

    abbrev Old : Outcome Goal
    Old = walk (unpack w).entries (unpack w).nodes false (part_of s f.path2)

    abbrev Both : Outcome Ends
    Both = reaching_both (unpack w) f.process (part_of s f.path1) (part_of s f.path2)

    pub both_refused : {n : ℕ} → Err n ≡ reached_both (unpack w).processes f.process New Old → (rest : Ends → Outcome Change)
        → Meets w (Both >>= rest) (answers.Refused n) w
    unfolding reaching_both ◌>>=◌ answer_of words_of
    both_refused e rest = rw (both_told_refused (unpack w).processes f.process New Old e) (record { answer = refl; words = refl })

    pub old_is_refused : {a : ReachedBoth} {n : ℕ} → Ok a ≡ reached_both (unpack w).processes f.process New Old → Err n ≡ a.old
        → (rest : Ends → Outcome Change) → Meets w (Both >>= rest) (answers.Refused n) w
    unfolding reaching_both ◌>>=◌ answer_of words_of
    old_is_refused e shut rest =
        let both = both_told (unpack w).processes f.process New Old e in
        rw (old_refused (unpack w).processes f.process New Old both shut) (record { answer = refl; words = refl })

    pub both_came : {a : ReachedBoth} {x : Walk} → Ok a ≡ reached_both (unpack w).processes f.process New Old → Ok x ≡ a.old
        → Came w f.process New a.new.caller a.new.walk × Came w f.process Old a.new.caller x
    unfolding WalksTwice
    both_came e on =
        let both = both_told (unpack w).processes f.process New Old e in (
          came_by (reach_leads ready false walks) f.process ready both.new,
          came_by (path_leads ready false f.path2 (path2_in ready.bytes ready.read twice)) f.process ready
              (old_open (unpack w).processes f.process New Old both on),
        )

-- THE CALL GOES ON

pub goes_on : {w : List ℕ} {p : ℕ} {o : Outcome Goal} {c : Caller} {walk : Walk} → Came w p o c walk → (rest : ℕ → Goal → Outcome Change) {a : Answer}
    {v : List ℕ} → Meets w (rest c.process (goal_of walk)) a v → Meets w (o >>= rest p) a v
unfolding ◌>>=◌
goes_on {p = p} {c = c} came rest m =
    let process : c.process ≡ p = ap (λ (x : Caller). x.process) came.is_caller in
    rw (came.goes, ← process) m

pub both_go_on : {w : List ℕ} (t : Tables) {p : ℕ} (path1 path2 : List ℕ) {c : Caller} {new old : Walk} →
    Came w p (reaching t p false path1) c new → Came w p (walk t.entries t.nodes false path2) c old →
    (rest : ℕ → Goal → Goal → Outcome Change) {a : Answer} {v : List ℕ} → Meets w (rest c.process (goal_of new) (goal_of old)) a v →
    Meets w (reaching_both t p path1 path2 >>= (λ ends. rest p ends.new ends.old)) a v
unfolding reaching_both ◌>>=◌
both_go_on t {p} path1 path2 {c} new old rest m =
    let process : c.process ≡ p = ap (λ (x : Caller). x.process) new.is_caller in
    rw (new.goes, old.goes, ← process) m
