-- `shape::link_shaped` meets its contract. Assumes nothing.
use mathlib.Core.Path.{refl, sym, ◌∙◌}
use Rattle.shape.proofs.NodeShapes.{link_long, link_dirty, link_clean}
use Rattle.shape.proofs.link_shaped.Goals as goal

pub returns-then-size-gt-TARGET_BYTES : goal.returns-then-size-gt-TARGET_BYTES
returns-then-size-gt-TARGET_BYTES c = link_long refl c.args.size c.if-size-gt-TARGET_BYTES.true

pub returns-then-zeros_behind : goal.returns-then-zeros_behind
returns-then-zeros_behind c =
    link_clean c.bytes_at-target.ensures _ c.if-size-gt-TARGET_BYTES.false (sym c.zeros_behind.ensures ∙ c.if-zeros_behind.true) c.valid_target.ensures

pub returns-else-zeros_behind : goal.returns-else-zeros_behind
returns-else-zeros_behind c =
    c.if-zeros_behind.false ∙ link_dirty c.bytes_at-target.ensures _ c.if-size-gt-TARGET_BYTES.false (sym c.zeros_behind.ensures ∙ c.if-zeros_behind.false)
