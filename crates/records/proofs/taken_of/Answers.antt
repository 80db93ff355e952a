-- `records::taken_of` meets its contract. Assumes nothing.
use mathlib.Core.Path.{ap, sym}
use Rattle.records.specs.Reading.{taken_of}
use Rattle.records.proofs.taken_of.Goals as goal

pub returns-in-Ok : goal.returns-in-Ok
unfolding taken_of
returns-in-Ok c = sym (ap taken_of c.in-Ok.is)

pub returns-in-Err : goal.returns-in-Err
unfolding taken_of
returns-in-Err c = sym (ap taken_of c.in-Err.is)
