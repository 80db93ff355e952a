-- `holds::others_hold` meets its contract: what passes from some row on is what passes at all. Assumes nothing.
use mathlib.Core.Path.{◌≡◌, subst}
use mathlib.Core.Bool.{◌&&◌}
use Prim.Native.Nat.{ℕ, ◌<◌, ◌+◌, ◌*◌}
use native.Mathlib.Omega.{arith}
use lib.ListN.{drop}
use Rattle.laws.proofs.Loops.{any_nowhere}
use Rattle.model.specs.Holds.{inside}
use Rattle.model.specs.Lists.{any}
use Rattle.model.specs.Tables.{hold_rows, no_hold}
use Rattle.model.specs.Words.{unpack}
use Rattle.rows.proofs.Parts.{holds_full}
use Rattle.holds.proofs.Tests.{row_elsewhere, row_met, row_missed}
use Rattle.holds.proofs.others_hold.Goals as goal
use Rattle.holds.proofs.others_hold.Goals.{else-hold_directory-directory-via-then-hold_directory-directory+else-test, else-hold_directory-directory-via-else-hold_directory-directory}
use Rattle.holds.proofs.others_hold.Goals.{else-hold_directory-directory-2-via-then-hold_directory-directory-2+else-test-2, else-hold_directory-directory-2-via-else-hold_directory-directory-2}

pub returns-then-test : goal.returns-then-test
returns-then-test g c asks tells =
    let words = c.args.words.now in
    row_met words c.args.directory (asks (unpack words).processes) (c.loop-pair.pair * 2) (omega arith) c.hold_directory.ensures (c.loop-pair.invariant asks tells)
    (tells.told _ _ _ c.requires.words_stand (omega arith) c.test.ensures) c.if-hold_directory-directory.true c.if-test.true

pub returns-then-test-2 : goal.returns-then-test-2
returns-then-test-2 g c asks tells =
    let words = c.args.words.now in let d = c.args.directory in let ask = asks (unpack words).processes in let i = c.loop-pair.pair * 2 in
    let so_far = c.loop-pair.invariant asks tells in let below : i < hold_rows = omega arith in
    let rest : any (λ h. inside d h && ask h) (drop (i + 1) (unpack words).holds) ≡ any (λ h. inside d h && ask h) (unpack words).holds =
    elim c.else-hold_directory-directory.branch [
      | else-hold_directory-directory-via-then-hold_directory-directory+else-test w ↦
          row_missed words d ask i below c.hold_directory.ensures so_far (tells.told _ _ _ c.requires.words_stand below w.test.ensures) w.if-test.false
      | else-hold_directory-directory-via-else-hold_directory-directory w ↦ row_elsewhere words d ask i below c.hold_directory.ensures so_far w.if-hold_directory-directory.false
    ] in
    let beside : i + 1 < hold_rows = omega arith in
    row_met words d ask (i + 1) beside c.hold_directory-in-loop-pair.ensures rest
    (tells.told _ _ _ c.requires.words_stand beside c.test-then-hold_directory-directory-2.ensures) c.if-hold_directory-directory-2.true c.if-test-2.true

pub loop-pair-preserved : goal.loop-pair-preserved
loop-pair-preserved g c asks tells =
    let words = c.args.words.now in let d = c.args.directory in let ask = asks (unpack words).processes in let i = c.loop-pair.pair * 2 in
    let so_far = c.loop-pair.invariant asks tells in let below : i < hold_rows = omega arith in
    let rest : any (λ h. inside d h && ask h) (drop (i + 1) (unpack words).holds) ≡ any (λ h. inside d h && ask h) (unpack words).holds =
    elim c.else-hold_directory-directory.branch [
      | else-hold_directory-directory-via-then-hold_directory-directory+else-test w ↦
          row_missed words d ask i below c.hold_directory.ensures so_far (tells.told _ _ _ c.requires.words_stand below w.test.ensures) w.if-test.false
      | else-hold_directory-directory-via-else-hold_directory-directory w ↦ row_elsewhere words d ask i below c.hold_directory.ensures so_far w.if-hold_directory-directory.false
    ] in
    let beside : i + 1 < hold_rows = omega arith in
    let behind : any (λ h. inside d h && ask h) (drop (i + 1 + 1) (unpack words).holds) ≡ any (λ h. inside d h && ask h) (unpack words).holds =
    elim c.else-hold_directory-directory-2.branch [
      | else-hold_directory-directory-2-via-then-hold_directory-directory-2+else-test-2 w ↦
          row_missed words d ask (i + 1) beside c.hold_directory-in-loop-pair.ensures rest
          (tells.told _ _ _ c.requires.words_stand beside w.test-then-hold_directory-directory-2.ensures) w.if-test-2.false
      | else-hold_directory-directory-2-via-else-hold_directory-directory-2 w ↦
          row_elsewhere words d ask (i + 1) beside c.hold_directory-in-loop-pair.ensures rest w.if-hold_directory-directory-2.false
    ] in
    let both : i + 1 + 1 ≡ (c.loop-pair.pair + 1) * 2 = omega arith in
    subst (λ (n : ℕ). any (λ h. inside d h && ask h) (drop n (unpack words).holds) ≡ any (λ h. inside d h && ask h) (unpack words).holds) both behind

pub returns : goal.returns
returns g c asks tells =
    let words = c.args.words.now in
    any_nowhere (λ h. inside c.args.directory h && asks (unpack words).processes h) no_hold (unpack words).holds (c.loop-pair.pair * 2)
    (omega (arith, holds_full words)) (c.loop-pair.invariant asks tells)
