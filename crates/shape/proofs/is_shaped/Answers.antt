-- `shape::is_shaped` meets its contract: table after table. Assumes nothing.
use mathlib.Core.Path.{◌≡◌, refl, ◌∙◌}
use mathlib.Core.Bool.{Bool, false, ◌&&◌}
use borrow.Author.Tests.{eq-eqb, ne_eqb}
use Rattle.laws.proofs.Bools.{stopped, passed}
use Rattle.shape.proofs.Whole.{tested}
use Rattle.shape.proofs.is_shaped.Goals as goal
use Rattle.shape.proofs.is_shaped.Goals.{then-words-eq-WORD_COUNT, else-words-eq-WORD_COUNT, then-entries_shaped, else-entries_shaped, then-nodes_shaped, else-nodes_shaped}

-- a test that fails decides for those behind it too
failed : {v p : Bool} (x : Bool) → v ≡ p → p ≡ false → v ≡ (p && x)
failed x e f = e ∙ f ∙ stopped x f

pub returns-then-holds_shaped : goal.returns-then-holds_shaped
returns-then-holds_shaped c =
    passed c.if-holds_shaped.true c.processes_shaped.ensures ∙
    tested c.args.words.now
    (elim c.if-words-eq-WORD_COUNT.branch [
      | then-words-eq-WORD_COUNT v ↦ v.value-is ∙ passed (eq-eqb _ _ v.if-words-eq-WORD_COUNT.true) v.entries_shaped.ensures
      | else-words-eq-WORD_COUNT v ↦ failed _ v.value-is (ne_eqb _ _ v.if-words-eq-WORD_COUNT.false)
    ])
    (elim c.if-entries_shaped.branch [
      | then-entries_shaped v ↦ v.value-is ∙ passed v.if-entries_shaped.true v.nodes_shaped.ensures
      | else-entries_shaped v ↦ failed _ v.value-is v.if-entries_shaped.false
    ])
    (elim c.if-nodes_shaped.branch [
      | then-nodes_shaped v ↦ v.value-is ∙ passed v.if-nodes_shaped.true v.holds_shaped.ensures
      | else-nodes_shaped v ↦ failed _ v.value-is v.if-nodes_shaped.false
    ])

pub returns-else-holds_shaped : goal.returns-else-holds_shaped
returns-else-holds_shaped c =
    failed _ refl c.if-holds_shaped.false ∙
    tested c.args.words.now
    (elim c.if-words-eq-WORD_COUNT.branch [
      | then-words-eq-WORD_COUNT v ↦ v.value-is ∙ passed (eq-eqb _ _ v.if-words-eq-WORD_COUNT.true) v.entries_shaped.ensures
      | else-words-eq-WORD_COUNT v ↦ failed _ v.value-is (ne_eqb _ _ v.if-words-eq-WORD_COUNT.false)
    ])
    (elim c.if-entries_shaped.branch [
      | then-entries_shaped v ↦ v.value-is ∙ passed v.if-entries_shaped.true v.nodes_shaped.ensures
      | else-entries_shaped v ↦ failed _ v.value-is v.if-entries_shaped.false
    ])
    (elim c.if-nodes_shaped.branch [
      | then-nodes_shaped v ↦ v.value-is ∙ passed v.if-nodes_shaped.true v.holds_shaped.ensures
      | else-nodes_shaped v ↦ failed _ v.value-is v.if-nodes_shaped.false
    ])
