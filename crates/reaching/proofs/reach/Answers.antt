-- `reaching::reach` meets its contract: 4, or the walk. Assumes nothing.
use mathlib.Core.Path.{◌≡◌, ◌∙◌}
use Rattle.std.proofs.lemmas.Result.{err_from_is_err_and}
use Rattle.model.specs.Words.{unpack}
use Rattle.records.specs.Reading.{part_of}
use Rattle.search.proofs.Callers.{told_caller, told_listed, told_unlisted}
use Rattle.reaching.proofs.Accepting.{path1_in}
use Rattle.reaching.proofs.Walking.{reach_refused, reach_walked, stands_sound}
use Rattle.reaching.proofs.Ways.{err_of, open_as, reached_refused, reached_walked, way_on, way_shut}
use Rattle.reaching.proofs.reach.Goals as goal

pub find_caller-requires : goal.find_caller-requires
find_caller-requires c = stands_sound c.args.words.now c.requires.0.sound

pub walk_part-walk-requires : goal.walk_part-walk-requires
walk_part-walk-requires c =
    let ready = c.requires.0 in
    (ready.sound, (ready.indexed, path1_in ready.bytes ready.read c.requires.1))

-- the caller is not listed
pub returns-in_err-caller : goal.returns-in_err-caller
returns-in_err-caller c =
    let t = unpack c.args.words.now in
    let p = c.args.call.fields.process in
    let path = part_of c.args.call.bytes.now c.args.call.fields.path1 in
    let unlisted = told_unlisted t.processes p c.find_caller.ensures c.in_err-caller.ensures.ok_part in
    let r = err_from_is_err_and c.from_residual.result c.from_residual.ensures.1 in
    let four : c.in_err-caller.field-0.0 ≡ 4 = err_of c.in_err-caller.ensures.ok_part c.in_err-caller.ensures.value in
    rw (r.1, r.2, four) (reached_refused t.processes p (reach_refused t p c.args.follow_last path unlisted))

-- its path leads nowhere
pub returns-in_err-walk : goal.returns-in_err-walk
returns-in_err-walk c =
    let t = unpack c.args.words.now in
    let p = c.args.call.fields.process in
    let path = part_of c.args.call.bytes.now c.args.call.fields.path1 in
    let listed = told_listed t.processes p c.find_caller.ensures c.in_ok-caller.ensures.ok_part in
    let r = err_from_is_err_and c.from_residual-in_err-walk.result c.from_residual-in_err-walk.ensures.1 in
    let on = reach_walked t p c.args.follow_last path listed in
    rw (r.1, r.2) (reached_refused t.processes p (on ∙ way_shut c.walk_part-walk.ensures c.in_err-walk.ensures))

-- or there
pub returns : goal.returns
returns c =
    let t = unpack c.args.words.now in
    let p = c.args.call.fields.process in
    let path = part_of c.args.call.bytes.now c.args.call.fields.path1 in
    let row = c.find_caller.ensures in
    let here = c.in_ok-caller.ensures.ok_part in
    let on = reach_walked t p c.args.follow_last path (told_listed t.processes p row here) in
    reached_walked t.processes p (told_caller t.processes p row here) (open_as on (way_on c.walk_part-walk.ensures c.in_ok-walk.ensures))
