-- `soundness::sound_and_index` meets its contract: the groups of rules in turn, with the index of the second. Assumes nothing.
use mathlib.Core.Path.{sym, ◌∙◌}
use mathlib.Core.Bool.{false≢true}
use Rattle.soundness.proofs.Grouped.{shaped_stands, not_shaped, not_distinct, rules_decide}
use Rattle.soundness.proofs.sound_and_index.Goals as goal
use Rattle.soundness.proofs.sound_and_index.Goals.{then-not-is_shaped-via-then-not-is_shaped, then-not-is_shaped-via-else-not-is_shaped+then-not-index_entries}

pub index_entries-requires : goal.index_entries-requires
index_entries-requires c = (shaped_stands c.args.words.now (sym c.is_shaped.ensures ∙ c.if-not-is_shaped.false), c.requires)

pub returns-then-not-is_shaped : goal.returns-then-not-is_shaped
returns-then-not-is_shaped c = (
  elim c.then-not-is_shaped.branch [
    | then-not-is_shaped-via-then-not-is_shaped w ↦ not_shaped c.args.words.now (sym c.is_shaped.ensures ∙ w.if-not-is_shaped.true)
    | then-not-is_shaped-via-else-not-is_shaped+then-not-index_entries w ↦
        not_distinct c.args.words.now (sym c.is_shaped.ensures ∙ w.if-not-is_shaped.false) (sym w.index_entries.ensures.0 ∙ w.if-not-index_entries.true)
  ],
  λ e. absurd (false≢true e),
)

pub keeps_rules-requires : goal.keeps_rules-requires
keeps_rules-requires c = shaped_stands c.args.words.now (sym c.is_shaped.ensures ∙ c.if-not-is_shaped.false)

pub returns : goal.returns
returns c =
    let distinct = c.if-not-index_entries.false in (
      rules_decide c.args.words.now (sym c.is_shaped.ensures ∙ c.if-not-is_shaped.false) (sym c.index_entries.ensures.0 ∙ distinct) c.keeps_rules.ensures,
      λ _. c.index_entries.ensures.1 distinct,
    )
