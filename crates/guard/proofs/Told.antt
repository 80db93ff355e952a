-- What calls are answered one after the other, over rows: by the model's `step`, or by one that has another rule for some calls. For examples
-- on which the model and a wrong rule part. Assumes nothing.
use mathlib.Core.Bool.{true, false}
use mathlib.Core.List.{List, [], ◌∷◌}
use Prim.Native.Nat.{ℕ}
use lib.Dec.{eqb}
use Rattle.model.specs.Refusals.{Outcome, refused, granted}
use Rattle.model.specs.Tables.{Tables}
use Rattle.model.specs.Records.{Call}
use Rattle.model.specs.Calls.{Change}
use Rattle.model.specs.declared.Answer.{Answer}
use Rattle.model.specs.declared.Answer.TheVariants.{Refused}

-- a rule for calls: what each comes to
abbrev pub Rule : Type 0
Rule = Tables → Call → Outcome Change

abbrev answer_of : Outcome Change → Answer
answer_of (refused n) = Refused n
answer_of (granted c) = c.answer

abbrev tables_after : Tables → Outcome Change → Tables
tables_after t (refused n) = t
tables_after t (granted c) = c.tables

unfoldable pub told : Rule → Tables → List Call → List Answer
told rule t [] = []
told rule t (r ∷ rest) = let o = rule t r in answer_of o ∷ told rule (tables_after t o) rest

-- the model's rule, but another one for the call with this number
unfoldable pub but_for : ℕ → Rule → Rule → Rule
but_for n other rule t r = elim (eqb r.call n) [ true ↦ other t r | false ↦ rule t r ]
