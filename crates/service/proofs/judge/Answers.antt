-- `service::judge` meets its contract: 17, 1, what reading found, and the call. Assumes nothing.
use mathlib.Core.Path.{◌∙◌, sym}
use native.Mathlib.Omega.{arith}
use Rattle.laws.proofs.Each.{each_by_place}
use Rattle.reaching.proofs.Judging.{judged_broken, judged_call, judged_short, judged_unsound}
use mathlib.Core.Path.{ap}
use mathlib.Core.Bool.{not}
use Rattle.service.proofs.judge.Goals as goal

pub returns-then-is_cut_short : goal.returns-then-is_cut_short
returns-then-is_cut_short c = judged_short c.args.words.now c.args.bytes.now c.args.found c.requires c.is_cut_short.ensures c.if-is_cut_short.true

pub returns-then-not-sound_and_index : goal.returns-then-not-sound_and_index
returns-then-not-sound_and_index c =
    judged_unsound c.args.words.now c.args.bytes.now c.args.found c.requires c.is_cut_short.ensures
    c.if-is_cut_short.false c.sound_and_index.ensures.0 (ap not c.if-not-sound_and_index.true)

pub dispatch-requires : goal.dispatch-requires
dispatch-requires c =
    λ known. record {
      sound = sym c.sound_and_index.ensures.0 ∙ c.if-not-sound_and_index.false;
      indexed = c.sound_and_index.ensures.1 c.if-not-sound_and_index.false;
      bytes = each_by_place c.args.bytes.now 0 (λ i h. omega (arith, c.type_inv.bytes i));
      taken = _;
      read = sym c.requires ∙ c.in-Ok.is;
    }

pub returns-in-Err : goal.returns-in-Err
returns-in-Err c =
    judged_broken c.args.words.now c.args.bytes.now c.args.found c.requires c.is_cut_short.ensures
    c.if-is_cut_short.false c.sound_and_index.ensures.0 (ap not c.if-not-sound_and_index.false) c.in-Err.is

pub returns-in-Ok : goal.returns-in-Ok
returns-in-Ok c =
    judged_call c.args.words.now c.args.bytes.now c.args.found c.requires c.is_cut_short.ensures
    c.if-is_cut_short.false c.sound_and_index.ensures.0 (ap not c.if-not-sound_and_index.false) c.in-Ok.is
    c.dispatch.ensures
