-- `paths::valid_parts` meets its contract. Assumes nothing.
use mathlib.Core.Path.{◌≡◌, refl, sym, ◌∙◌}
use Prim.Native.Nat.{◌+◌}
use native.Mathlib.Omega.{arith}
use lib.ListN.{length, get_or}
use Rattle.model.specs.Lists.{all}
use Rattle.model.specs.Paths.{slash}
use Rattle.paths.proofs.Fronts.{ended_at_zero, ended_at_slash, ended_at_end, front_begins, front_grows}
use Rattle.paths.proofs.valid_parts.Goals as goal
use Rattle.paths.proofs.valid_parts.Goals.{then-byte-eq-SLASH+else-not-valid_length, else-byte-eq-SLASH}

pub loop-at-init : goal.loop-at-init
unfolding all
loop-at-init c = record { behind_slash = omega arith; name_bytes = refl; same_answer = refl }

pub returns-then-byte-eq0 : goal.returns-then-byte-eq0
returns-then-byte-eq0 c =
    sym (c.loop-at.invariant.same_answer
    ∙ ended_at_zero _ _ _ c.loop-at.invariant.behind_slash c.loop-at.invariant.name_bytes c.loop-at-test.true c.if-byte-eq0.true)

pub returns-then-not-valid_length : goal.returns-then-not-valid_length
returns-then-not-valid_length c =
    let told = ended_at_slash _ _ _ c.loop-at.invariant.behind_slash c.loop-at.invariant.name_bytes c.loop-at-test.true c.if-byte-eq-SLASH.true in
    let wrong = sym c.valid_length.ensures ∙ c.if-not-valid_length.true in
    sym (c.loop-at.invariant.same_answer ∙ rw wrong at told)

pub loop-at-preserved-then-byte-gt-SLASH : goal.loop-at-preserved-then-byte-gt-SLASH
loop-at-preserved-then-byte-gt-SLASH c =
    let behind_zero : get_or c.args.path.now c.loop-at.at 0 ≡ 0 → ⊥ = λ e. omega arith in
    let behind_slash : get_or c.args.path.now c.loop-at.at 0 ≡ slash → ⊥ = λ e. omega arith in
    record {
      behind_slash = omega arith;
      name_bytes =
          front_grows _ _ _ c.loop-at.invariant.behind_slash c.loop-at.invariant.name_bytes c.loop-at-test.true behind_zero behind_slash;
      same_answer = c.loop-at.invariant.same_answer;
    }

pub loop-at-preserved : goal.loop-at-preserved
loop-at-preserved c =
    elim c.if-byte-eq-SLASH.branch [
      | then-byte-eq-SLASH+else-not-valid_length w ↦
          let told = ended_at_slash _ _ _ c.loop-at.invariant.behind_slash c.loop-at.invariant.name_bytes c.loop-at-test.true w.if-byte-eq-SLASH.true in
          let right = sym w.valid_length.ensures ∙ w.if-not-valid_length.false in
          rw w.start-is (record {
            behind_slash = omega arith;
            name_bytes = front_begins c.args.path.now (c.loop-at.at + 1);
            same_answer = c.loop-at.invariant.same_answer ∙ rw right at told;
          })
      | else-byte-eq-SLASH w ↦
          rw w.start-is (record {
            behind_slash = omega arith;
            name_bytes =
                front_grows _ _ _ c.loop-at.invariant.behind_slash c.loop-at.invariant.name_bytes c.loop-at-test.true c.if-byte-eq0.false w.if-byte-eq-SLASH.false;
            same_answer = c.loop-at.invariant.same_answer;
          })
    ]

pub returns : goal.returns
returns c =
    let read : c.loop-at.at ≡ length c.args.path.now = omega arith in
    let told = ended_at_end _ _ _ c.loop-at.invariant.behind_slash c.loop-at.invariant.name_bytes read in
    c.valid_length-2.ensures ∙ sym (c.loop-at.invariant.same_answer ∙ rw read at told)
