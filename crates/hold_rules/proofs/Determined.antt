-- Each public function's contract leaves one result. Assumes nothing.
use mathlib.Core.Path.{sym, ◌∙◌}
use Rattle.laws.proofs.Results.{OneResult}
use Rattle.hold_rules.proofs.used_hold_rows.Kinds as used_hold_rows_kinds
use Rattle.hold_rules.proofs.used_hold_rows.Reads as used_hold_rows_reads
use Rattle.hold_rules.proofs.holds_placed.Kinds as holds_placed_kinds
use Rattle.hold_rules.proofs.holds_placed.Reads as holds_placed_reads
use Rattle.hold_rules.proofs.holds_apart.Kinds as holds_apart_kinds
use Rattle.hold_rules.proofs.holds_apart.Reads as holds_apart_reads
use Rattle.hold_rules.proofs.ends_agree.Kinds as ends_agree_kinds
use Rattle.hold_rules.proofs.ends_agree.Reads as ends_agree_reads

pub used_hold_rows_determined : OneResult 1 used_hold_rows_kinds.ps used_hold_rows_kinds.r used_hold_rows_reads.Post
used_hold_rows_determined κs a x y s t p q = p ∙ sym q

pub holds_placed_determined : OneResult 2 holds_placed_kinds.ps holds_placed_kinds.r holds_placed_reads.Post
holds_placed_determined κs a x y s t p q = p ∙ sym q

pub holds_apart_determined : OneResult 1 holds_apart_kinds.ps holds_apart_kinds.r holds_apart_reads.Post
holds_apart_determined κs a x y s t p q = p ∙ sym q

pub ends_agree_determined : OneResult 2 ends_agree_kinds.ps ends_agree_kinds.r ends_agree_reads.Post
ends_agree_determined κs a x y s t p q = p ∙ sym q
