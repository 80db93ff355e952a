-- What reading ensures, told as numbers.
use Rattle.std.proofs.Common.{rules, sym, ◌∙◌}
use Rattle.exports.proofs.Bounds.{accepted_as, refused_as}
use Rattle.exports.proofs.tickbutton_read.Goals as goal

pub put_fields-requires : goal.put_fields-requires
put_fields-requires c = (accepted_as _ _ (sym c.read.ensures ∙ c.in-Ok.is)).small

pub told-requires : goal.told-requires
told-requires c = (search rules, search rules, (accepted_as _ _ (sym c.read.ensures ∙ c.in-Ok.is)).few)

pub told-requires-in-Err : goal.told-requires-in-Err
told-requires-in-Err c = (search rules, search rules, (refused_as _ _ (sym c.read.ensures ∙ c.in-Err.is)).few)

pub returns-in-Ok : goal.returns-in-Ok
returns-in-Ok c =
    let a = accepted_as _ _ (sym c.read.ensures ∙ c.in-Ok.is) in
    record { answer = c.told.ensures ∙ rw c.from.ensures a.number; numbers = c.put_fields.ensures ∙ a.numbers }

pub returns-in-Err : goal.returns-in-Err
returns-in-Err c =
    let a = refused_as _ _ (sym c.read.ensures ∙ c.in-Err.is) in
    record { answer = c.told-in-Err.ensures ∙ rw c.from-in-Err.ensures a.number; numbers = a.numbers }
