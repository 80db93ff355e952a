-- `records::read` meets its contract. Assumes nothing.
use mathlib.Core.Path.{sym, ◌∙◌}
use native.Mathlib.Omega.{arith}
use Rattle.std.proofs.Common.{rules}
use Rattle.std.proofs.lemmas.Result.{err_from_is_err_and}
use Rattle.model.specs.Words.{bits}
use Rattle.records.proofs.Readings.{no_head, no_paths, fields_refused, fields_accepted, not_refused, refused_with}
use Rattle.records.proofs.read.Goals as goal

pub returns-then-bytes-lt-HEAD_LENGTH : goal.returns-then-bytes-lt-HEAD_LENGTH
returns-then-bytes-lt-HEAD_LENGTH c = sym (no_head _ c.if-bytes-lt-HEAD_LENGTH.true)

pub overflow_add-middle : goal.overflow_add-middle
unfolding bits
overflow_add-middle c = omega arith

pub overflow_add-taken : goal.overflow_add-taken
unfolding bits
overflow_add-taken c = omega arith

pub returns-then-bytes-taken : goal.returns-then-bytes-taken
returns-then-bytes-taken c =
    sym (no_paths (record {
      head_is = c.head_of-head.ensures;
      path1_is = c.path1_length-length1.ensures;
      path2_is = c.path2_length-length2.ensures;
      head_there = c.if-bytes-lt-HEAD_LENGTH.false;
    }) c.if-bytes-taken.true)

pub placed-fields-requires : goal.placed-fields-requires
unfolding bits
placed-fields-requires c = omega arith

pub returns-in_err-map_err : goal.returns-in_err-map_err
returns-in_err-map_err c =
    let made = err_from_is_err_and c.from_residual.result c.from_residual.ensures.1 in
    rw (made.1, made.2)
    (refused_with c.fault.result c.in_err-map_err.field-0.0 _ c.in_err-map_err.ensures.cases (λ k refused.
    fields_refused (record {
      head_is = c.head_of-head.ensures;
      path1_is = c.path1_length-length1.ensures;
      path2_is = c.path2_length-length2.ensures;
      head_there = c.if-bytes-lt-HEAD_LENGTH.false;
    }) c.if-bytes-taken.false _ c.numbers_of-numbers.ensures (sym refused ∙ c.fault.ensures)) (λ k p. search rules))

pub returns : goal.returns
returns c =
    rw c.placed-fields.ensures
    (sym (fields_accepted (record {
      head_is = c.head_of-head.ensures;
      path1_is = c.path1_length-length1.ensures;
      path2_is = c.path2_length-length2.ensures;
      head_there = c.if-bytes-lt-HEAD_LENGTH.false;
    }) c.if-bytes-taken.false _ c.numbers_of-numbers.ensures (sym (not_refused _ c.in_ok-map_err.ensures.variant) ∙ c.fault.ensures)))
