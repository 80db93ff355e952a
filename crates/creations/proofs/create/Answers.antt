-- `creations::create` meets its contract: path 2 is blank. Assumes nothing.
use mathlib.Core.Path.{ap, sym}
use Rattle.model.specs.Calls.{create, make}
use Rattle.model.specs.Words.{unpack}
use Rattle.rows.proofs.Meeting.{meets_as}
use Rattle.reaching.specs.Ready.{call_in}
use Rattle.reaching.proofs.Accepting.{blank_short, path2_blank}
use Rattle.creations.proofs.create.Goals as goal

pub make-requires : goal.make-requires
make-requires c =
    let ready = c.requires.0 in
    (ready, (c.requires.1.0, blank_short ready.bytes ready.read c.requires.1.1))

pub returns : goal.returns
unfolding create
returns c =
    let ready = c.requires.0 in
    let none = path2_blank ready.bytes ready.read c.requires.1.1 in
    let call = call_in c.args.call.bytes.now c.args.call.fields in
    meets_as (ap (λ l. make 1 l (unpack c.args.words.now) call) (sym none)) c.make.ensures
