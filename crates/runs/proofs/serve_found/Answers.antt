-- `runs::serve_found` meets its contract: 1, what reading found, or the call. Assumes nothing.
use mathlib.Core.Path.{refl, sym, ◌∙◌}
use native.Mathlib.Omega.{arith}
use Rattle.laws.proofs.Each.{each_by_place}
use Rattle.reaching.proofs.Judging.{judged_broken, judged_call, judged_unsound}
use Rattle.runs.proofs.Keeping.{tested_as}
use mathlib.Core.Path.{ap}
use mathlib.Core.Bool.{not}
use Rattle.runs.proofs.serve_found.Goals as goal

pub returns-then-not-is_sound : goal.returns-then-not-is_sound
returns-then-not-is_sound c =
    let tested = c.requires.0 in
    let found = c.requires.1 in (
      judged_unsound c.args.words.now c.args.bytes.now c.args.found found.0 refl found.1 tested.right (ap not c.if-not-is_sound.true),
      tested,
    )

pub serve_call-requires : goal.serve_call-requires
serve_call-requires c =
    let tested = c.requires.0 in
    record {
      sound = sym tested.right ∙ c.if-not-is_sound.false;
      indexed = tested.indexed c.if-not-is_sound.false;
      bytes = each_by_place c.args.bytes.now 0 (λ i h. omega (arith, c.type_inv.bytes i));
      taken = _;
      read = sym c.requires.1.0 ∙ c.in-Ok.is;
    }

pub returns-in-Err : goal.returns-in-Err
returns-in-Err c =
    let tested = c.requires.0 in
    let found = c.requires.1 in (
      judged_broken c.args.words.now c.args.bytes.now c.args.found found.0 refl found.1 tested.right
          (ap not c.if-not-is_sound.false) c.in-Err.is,
      tested,
    )

pub returns-in-Ok : goal.returns-in-Ok
returns-in-Ok c =
    let tested = c.requires.0 in
    let found = c.requires.1 in (
      judged_call c.args.words.now c.args.bytes.now c.args.found found.0 refl found.1 tested.right
          (ap not c.if-not-is_sound.false) c.in-Ok.is c.serve_call.ensures.0,
      tested_as c.if-not-is_sound.false c.serve_call.ensures.1,
    )
