-- `reaching::reach_both` meets its contract: the first path's refusal, or what the second walk tells. Assumes nothing.
use Rattle.std.proofs.lemmas.Result.{err_from_is_err_and}
use Rattle.model.specs.Words.{unpack}
use Rattle.reaching.specs.Ready.{WalksTwice}
use Rattle.reaching.proofs.Accepting.{path2_in}
use Rattle.reaching.proofs.Ways.{both_stopped, both_walked, told_open, told_refused}
use Rattle.reaching.proofs.reach_both.Goals as goal

pub walk_part-walk-requires : goal.walk_part-walk-requires
unfolding WalksTwice
walk_part-walk-requires c =
    let ready = c.requires.0 in
    (ready.sound, (ready.indexed, path2_in ready.bytes ready.read c.requires.1.1))

-- path 1 is refused
pub returns-in_err-new : goal.returns-in_err-new
returns-in_err-new c =
    let t = unpack c.args.words.now in
    let p = c.args.call.fields.process in
    let r = err_from_is_err_and c.from_residual.result c.from_residual.ensures.1 in
    rw (r.1, r.2) (both_stopped t.processes p _ (told_refused t.processes p _ c.in_err-new.ensures))

-- or it leads somewhere
pub returns : goal.returns
returns c =
    let t = unpack c.args.words.now in
    let p = c.args.call.fields.process in
    let new = told_open t.processes p _ c.in_ok-new.ensures in
    both_walked t.processes p new.is_caller _ new.leads c.walk_part-walk.ensures c.way_behind.ensures
