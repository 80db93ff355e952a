-- The code's table of calls is the model's: one computed test over the whole table, and what follows at each row. Assumes nothing.
use mathlib.Core.Path.{◌≡◌, refl, sym, ap, ◌∙◌}
use mathlib.Core.Bool.{Bool, true, false}
use mathlib.Core.List.{map}
use mathlib.Core.Logic.{◌⊎◌, inl, inr}
use Prim.Native.Nat.{ℕ, zero, suc, ◌-◌, ◌≤◌, ◌<◌}
use native.Mathlib.Omega.{arith}
use native.Mathlib.Numerals.{sub-one}
use lib.ListN.{length, get_or, get_or-eq_default, get_or-map}
use Rattle.model.specs.Records as model
use Rattle.model.specs.Records.{process_class, check_class, use_class, creation_class, removal_class, blank, path, target, calls, keeps_entries, row_of}
use Rattle.laws.proofs.Elements.{getD_map_inside}
use Rattle.fields.specs.declared.table.Class.{Class}
use Rattle.fields.specs.declared.table.Class.TheVariants.{Unknown, Process, Check, Use, Creation, Removal}
use Rattle.fields.specs.declared.table.Row.{Row}
use Rattle.fields.specs.Rows.{coded_cell, coded_class, coded_row, is_call, meant}

pub below_the_table : (n : ℕ) → n < 1 → coded_row (row_of n) ≡ coded_row (row_of 0)
below_the_table zero h = refl
below_the_table (suc n) h = absurd (omega arith)

pub behind_the_table : (n : ℕ) → length calls < n → coded_row (row_of n) ≡ coded_row (row_of 0)
unfolding row_of
behind_the_table zero h = absurd (omega arith)
behind_the_table (suc n) h = ap coded_row (get_or-eq_default calls (row_of 0) {n = n} (omega arith))

pub in_the_table : (n : ℕ) (d : Row) → 1 ≤ n → n ≤ length calls → get_or (map coded_row calls) (n - 1) d ≡ coded_row (row_of n)
unfolding row_of
in_the_table zero d g h = absurd (omega arith)
in_the_table (suc n) d g h = rw sub-one (getD_map_inside coded_row calls n d (row_of 0) (omega arith))

-- a cell there and back
pub meant_coded : (w : _) → meant (coded_cell w) ≡ w
unfolding meant coded_cell
meant_coded blank = refl
meant_coded path = refl
meant_coded target = refl

-- two things that a row says are the same for every number, where they are so in the whole table and for a number that is no call's
by_the_table : {A : Type 0} (f g : model.Row → A) → map f calls ≡ map g calls → f (row_of 0) ≡ g (row_of 0) → (n : ℕ) → f (row_of n) ≡ g (row_of n)
unfolding row_of
by_the_table f g rows none zero = none
by_the_table f g rows none (suc n) =
    sym (get_or-map f calls n (row_of 0)) ∙ ap (λ l. get_or l n (f (row_of 0))) rows ∙ ap (get_or (map g calls) n) none ∙ get_or-map g calls n (row_of 0)

pub made_by_process : (n : ℕ) → (row_of n).by_process ≡ true
unfolding calls row_of
made_by_process = by_the_table (λ r. r.by_process) (λ r. true) refl refl

-- the entries stay, by a class of the code
unfoldable pub stays : Class → Bool
stays Unknown = true
stays Process = true
stays Check = true
stays Use = true
stays Creation = false
stays Removal = false

pub entries_change : (c : Class) → (c ≡ Creation) ⊎ (c ≡ Removal) → stays c ≡ false
unfolding stays
entries_change c (inl e) = rw e
entries_change c (inr e) = rw e

pub entries_stay : (c : Class) → (c ≡ Creation → ⊥) → (c ≡ Removal → ⊥) → stays c ≡ true
unfolding stays
entries_stay Unknown f g = refl
entries_stay Process f g = refl
entries_stay Check f g = refl
entries_stay Use f g = refl
entries_stay Creation f g = absurd (f refl)
entries_stay Removal f g = absurd (g refl)

class_stays : (n : ℕ) → stays (coded_class (row_of n).there (row_of n).class) ≡ keeps_entries (row_of n).effect
unfolding calls row_of keeps_entries coded_class stays
class_stays = by_the_table (λ r. stays (coded_class r.there r.class)) (λ r. keeps_entries r.effect) refl refl

pub class_unknown : (c : Class) → c ≡ Unknown → is_call c ≡ false
unfolding is_call
class_unknown c e = rw e

pub class_known : (c : Class) → (c ≡ Unknown → ⊥) → is_call c ≡ true
unfolding is_call
class_known Unknown f = absurd (f refl)
class_known Process f = refl
class_known Check f = refl
class_known Use f = refl
class_known Creation f = refl
class_known Removal f = refl

class_is_call : (there : Bool) (c : model.Class) → is_call (coded_class there c) ≡ there
unfolding is_call coded_class
class_is_call false c = refl
class_is_call true process_class = refl
class_is_call true check_class = refl
class_is_call true use_class = refl
class_is_call true creation_class = refl
class_is_call true removal_class = refl

-- the cells of a row that the code looked up are the model's
module _ (r : Row) (n : ℕ) (e : r ≡ coded_row (row_of n)) where
  pub there_cell : is_call r.0 ≡ (row_of n).there
  unfolding coded_row
  there_cell = ap (λ (x : Row). is_call x.0) e ∙ class_is_call (row_of n).there (row_of n).class

  pub effect_cell : stays r.0 ≡ keeps_entries (row_of n).effect
  unfolding coded_row
  effect_cell = ap (λ (x : Row). stays x.0) e ∙ class_stays n

  pub argument_cell : r.1 ≡ (row_of n).argument
  unfolding coded_row
  argument_cell = ap (λ (x : Row). x.1) e

  pub path1_cell : meant r.2 ≡ (row_of n).path1
  unfolding coded_row
  path1_cell = ap (λ (x : Row). meant x.2) e ∙ meant_coded (row_of n).path1

  pub path2_cell : meant r.3 ≡ (row_of n).path2
  unfolding coded_row
  path2_cell = ap (λ (x : Row). meant x.3) e ∙ meant_coded (row_of n).path2
