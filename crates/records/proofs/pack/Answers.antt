-- `records::pack` meets its contract. Assumes nothing.
use native.Mathlib.Omega.{arith}
use borrow.Author.Rules.{rules}
use Rattle.std.proofs.lemmas.Result.{err_from_is_err_and}
use Rattle.records.proofs.Packings.{numbers, fault_packs, head_fits, full_packs, record_packs}
use Rattle.records.proofs.pack.Goals as goal

pub returns-in_err-fault : goal.returns-in_err-fault
returns-in_err-fault c =
    let p = err_from_is_err_and c.from_residual.result c.from_residual.ensures.1 in
    rw (p.1, p.2) (fault_packs (let start = c.args in numbers start.call start.process start.argument) _ _ _ c.in_err-fault.ensures)

pub overflow_add-length-2 : goal.overflow_add-length-2
overflow_add-length-2 c =
    let fits = head_fits (let start = c.args in numbers start.call start.process start.argument) _ _ c.in_ok-fault.ensures (search rules) (search rules) in
    omega arith

pub returns-then-destination-length : goal.returns-then-destination-length
returns-then-destination-length c =
    full_packs (let start = c.args in numbers start.call start.process start.argument) _ _ c.in_ok-fault.ensures _ c.if-destination-length.true

pub write_record-requires : goal.write_record-requires
write_record-requires c =
    record {
      fits = head_fits (let start = c.args in numbers start.call start.process start.argument) _ _ c.in_ok-fault.ensures (search rules) (search rules);
      room = c.if-destination-length.false;
    }

pub returns : goal.returns
returns c =
    record_packs (let start = c.args in numbers start.call start.process start.argument) _ _ c.in_ok-fault.ensures _ _
    c.if-destination-length.false c.write_record.ensures
