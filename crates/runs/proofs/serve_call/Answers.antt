-- `runs::serve_call` meets its contract: the call, and the index anew where entries were written. Assumes nothing.
use mathlib.Core.Path.{sym, ◌∙◌}
use Rattle.runs.proofs.Keeping.{sound_after, index_after}
use Rattle.runs.proofs.serve_call.Goals as goal

pub dispatch-answer-requires : goal.dispatch-answer-requires
dispatch-answer-requires c = λ known. c.requires

pub index_anew-requires : goal.index_anew-requires
index_anew-requires c = sound_after c.requires c.dispatch-answer.ensures

pub returns-then-not-leaves_entries : goal.returns-then-not-leaves_entries
returns-then-not-leaves_entries c =
    let sound = sound_after c.requires c.dispatch-answer.ensures in
    (c.dispatch-answer.ensures, record { right = sym sound; indexed = λ _. c.index_anew.ensures })

pub returns-else-not-leaves_entries : goal.returns-else-not-leaves_entries
returns-else-not-leaves_entries c =
    let sound = sound_after c.requires c.dispatch-answer.ensures in
    let leaves = sym c.leaves_entries.ensures ∙ c.if-not-leaves_entries.false in
    (c.dispatch-answer.ensures, record { right = sym sound; indexed = λ _. index_after c.requires c.dispatch-answer.ensures leaves })
