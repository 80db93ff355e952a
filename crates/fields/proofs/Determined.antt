-- Each public function's contract leaves one result. Assumes nothing.
use mathlib.Core.Path.{sym, ◌∙◌}
use Rattle.laws.proofs.Results.{OneResult}
use Rattle.fields.proofs.table.row_of.Kinds as row_of_kinds
use Rattle.fields.proofs.table.row_of.Reads as row_of_reads
use Rattle.fields.proofs.table.keeps_entries.Kinds as keeps_kinds
use Rattle.fields.proofs.table.keeps_entries.Reads as keeps_reads
use Rattle.fields.proofs.fault.Kinds as fault_kinds
use Rattle.fields.proofs.fault.Reads as fault_reads

pub row_of_determined : OneResult 0 row_of_kinds.ps row_of_kinds.r row_of_reads.Post
row_of_determined κs a x y s t p q = p ∙ sym q

pub fault_determined : OneResult 2 fault_kinds.ps fault_kinds.r fault_reads.Post
fault_determined κs a x y s t p q = p ∙ sym q

pub keeps_entries_determined : OneResult 0 keeps_kinds.ps keeps_kinds.r keeps_reads.Post
keeps_entries_determined κs a x y s t p q = p ∙ sym q
