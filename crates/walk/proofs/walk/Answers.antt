-- A whole walk: from node 1, with no link followed yet; where it is over, the places of the links are read. Assumes nothing.
use mathlib.Core.Path.{◌∙◌}
use Rattle.walk.specs.Trails.{no_links}
use Rattle.walk.proofs.Wholes.{path_names_valid, whole_ready, whole_kept, told, whole_told, whole_refused}
use Rattle.walk.proofs.walk.Goals as goal

pub walk_names-requires : goal.walk_names-requires
unfolding no_links
walk_names-requires c =
    record {
      ready = whole_ready c.args.words.now c.requires.sound c.requires.indexed;
      valid = path_names_valid c.args.path.now c.requires.valid;
    }

pub places_in-requires : goal.places_in-requires
unfolding no_links
places_in-requires c =
    (c.requires.indexed.stands, whole_kept c.args.words.now c.requires.sound c.args.follow_last c.args.path.now c.in-Ok.ensures)

pub returns-in-Ok : goal.returns-in-Ok
unfolding no_links told
returns-in-Ok c =
    rw (c.stop_of.ensures, c.places_in.ensures) (whole_told c.args.words.now c.requires.sound c.args.follow_last c.args.path.now c.in-Ok.ensures)

pub returns-in-Err : goal.returns-in-Err
unfolding no_links
returns-in-Err c = c.refuse.ensures ∙ whole_refused c.args.words.now c.requires.sound c.args.follow_last c.args.path.now c.in-Err.ensures
