-- The contract of `list_part` leaves one answer, one content of every word and one destination. Assumes nothing.
use mathlib.Core.Path.{sym, ap, ◌∙◌}
use Rattle.laws.proofs.Results.{OneResult, OneExit}
use Rattle.listing.proofs.parts.list_part.Kinds as list_part_kinds
use Rattle.listing.proofs.parts.list_part.Reads as list_part_reads

pub list_part_determined : OneResult 3 list_part_kinds.ps list_part_kinds.r list_part_reads.Post
list_part_determined κs a x y s t p q = ap (λ f. f.part) (p ∙ sym q)

-- the words are the first parameter
pub list_part_exit_determined : OneExit 3 list_part_kinds.ps list_part_kinds.r list_part_reads.Post (λ κs s. s.0.now)
list_part_exit_determined κs a x y s t p q = ap (λ f. f.words) (p ∙ sym q)

-- the destination is the fifth
pub list_part_destination_determined : OneExit 3 list_part_kinds.ps list_part_kinds.r list_part_reads.Post (λ κs s. s.1.1.1.1.0.now)
list_part_destination_determined κs a x y s t p q = ap (λ f. f.out) (p ∙ sym q)
