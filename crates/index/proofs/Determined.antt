-- Each public function's contract leaves one result. Assumes nothing.
use mathlib.Core.Path.{sym, ap, ◌∙◌}
use Prim.Native.Nat.{ℕ}
use mir.Syntax.{w64}
use mir.Val.{Fits}
use Rattle.laws.proofs.Results.{OneResult, OneExit}
use Rattle.index.proofs.Descents.{counted_one}
use Rattle.index.proofs.Links.new.Kinds as new_kinds
use Rattle.index.proofs.Links.new.Reads as new_reads
use Rattle.index.proofs.Links.link_row.Kinds as link_row_kinds
use Rattle.index.proofs.Links.link_row.Reads as link_row_reads
use Rattle.index.proofs.index_entries.Kinds as index_entries_kinds
use Rattle.index.proofs.index_entries.Reads as index_entries_reads
use Rattle.index.proofs.find_entry.Kinds as find_entry_kinds
use Rattle.index.proofs.find_entry.Reads as find_entry_reads
use Rattle.index.proofs.node_found.Kinds as node_found_kinds
use Rattle.index.proofs.node_found.Reads as node_found_reads
use Rattle.index.proofs.sum_of.Kinds as sum_of_kinds
use Rattle.index.proofs.sum_of.Reads as sum_of_reads

-- the verdict; the links of free rows are left open
pub index_entries_determined : OneResult 2 index_entries_kinds.ps index_entries_kinds.r index_entries_reads.Post
index_entries_determined κs a x y s t p q = p.0 ∙ sym q.0

pub find_entry_determined : OneResult 2 find_entry_kinds.ps find_entry_kinds.r find_entry_reads.Post
find_entry_determined κs a x y s t p q = counted_one x y (p.0 ∙ sym q.0)

pub node_found_determined : OneResult 1 node_found_kinds.ps node_found_kinds.r node_found_reads.Post
node_found_determined κs a x y s t p q = p ∙ sym q

pub sum_of_determined : OneResult 0 sum_of_kinds.ps sum_of_kinds.r sum_of_reads.Post
sum_of_determined κs a x y s t p q = p.0 ∙ sym q.0

-- of chains of any size; the row found by a test is one only as far as the test itself answers alike, so that last_in_chain has no such theorem
module _ (SIZE ROWS : ℕ) (buckets : Fits w64 SIZE) (rows : Fits w64 ROWS) where
  pub new_determined : OneResult 2 (new_kinds.ps SIZE ROWS buckets rows) (new_kinds.r SIZE ROWS buckets rows) (new_reads.Post SIZE ROWS buckets rows)
  new_determined κs a x y s t p q = p ∙ sym q

  pub link_row_heads_determined : OneExit 3 (link_row_kinds.ps SIZE ROWS buckets rows) (link_row_kinds.r SIZE ROWS buckets rows)
      (link_row_reads.Post SIZE ROWS buckets rows) (λ κs s. s.0.now.heads)
  link_row_heads_determined κs a x y s t p q = ap (λ l. l.heads) (p ∙ sym q)

  pub link_row_next_determined : OneExit 3 (link_row_kinds.ps SIZE ROWS buckets rows) (link_row_kinds.r SIZE ROWS buckets rows)
      (link_row_reads.Post SIZE ROWS buckets rows) (λ κs s. s.0.now.next)
  link_row_next_determined κs a x y s t p q = ap (λ l. l.next) (p ∙ sym q)
