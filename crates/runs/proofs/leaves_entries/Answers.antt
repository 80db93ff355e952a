-- `runs::leaves_entries` meets its contract: refusals, and the calls that the table says so of, write no entry. Assumes nothing.
use mathlib.Core.Path.{◌≡◌, refl, sym, ap, ◌∙◌}
use mathlib.Core.Bool.{Bool, true, false, not}
use Prim.Native.Nat.{ℕ}
use Rattle.model.specs.Records.{keeps_entries, row_of}
use Rattle.model.specs.declared.Answer.{Answer}
use Rattle.model.specs.declared.Answer.TheVariants.{Held, Seen, Done, Refused}
use Rattle.invariants.specs.Accepts.{accepts}
use Rattle.runs.specs.Tested.{leaves_entries}
use Rattle.runs.proofs.leaves_entries.Goals as goal

keeper : (call : ℕ) (a : Answer) {k : Bool} → k ≡ keeps_entries (row_of call).effect → k ≡ true → k ≡ leaves_entries call a
unfolding leaves_entries
keeper call a asked e = e ∙ rw (sym asked, e) refl

writer : (call : ℕ) (a : Answer) {k : Bool} → k ≡ keeps_entries (row_of call).effect → k ≡ false → (b : Bool) → not (accepts a) ≡ b
    → b ≡ leaves_entries call a
unfolding leaves_entries
writer call a asked e b h = rw (sym asked, e) (sym h)

not_refused : (a : Answer) → ((n : ℕ) → a ≡ Refused n → ⊥) → not (accepts a) ≡ false
unfolding accepts
not_refused (Held n) f = refl
not_refused (Seen n) f = refl
not_refused (Done n) f = refl
not_refused (Refused n) f = absurd (f n refl)

pub returns-then-keeps_entries : goal.returns-then-keeps_entries
returns-then-keeps_entries c = keeper c.args.call c.args.answer c.keeps_entries.ensures c.if-keeps_entries.true

pub returns-in-Refused : goal.returns-in-Refused
unfolding accepts
returns-in-Refused c =
    writer c.args.call c.args.answer c.keeps_entries.ensures c.if-keeps_entries.false true (ap (λ (a : Answer). not (accepts a)) c.in-Refused.is)

pub returns-in_default : goal.returns-in_default
returns-in_default c =
    writer c.args.call c.args.answer c.keeps_entries.ensures c.if-keeps_entries.false false (not_refused c.args.answer c.in_default.not-Refused)
