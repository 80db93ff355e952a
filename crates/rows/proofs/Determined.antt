-- Each public function's contract leaves one result. Assumes nothing.
use mathlib.Core.Path.{◌≡◌, refl, sym, ap, ◌∙◌}
use mathlib.Core.Logic.{◌⊎◌}
use Prim.Native.Nat.{ℕ, ◌+◌, ◌<◌}
use native.Mathlib.Omega.{arith}
use Rattle.std.specs.Prelude.{Option, None, Some, MatchOption}
use Rattle.model.specs.Tables.{node_rows}
use Rattle.laws.proofs.Results.{OneResult}
use Rattle.rows.proofs.top_bits.Kinds as top_bits_kinds
use Rattle.rows.proofs.top_bits.Reads as top_bits_reads
use Rattle.rows.proofs.length_bits.Kinds as length_bits_kinds
use Rattle.rows.proofs.length_bits.Reads as length_bits_reads
use Rattle.rows.proofs.wide.Kinds as wide_kinds
use Rattle.rows.proofs.wide.Reads as wide_reads
use Rattle.rows.proofs.block_at.Kinds as block_at_kinds
use Rattle.rows.proofs.block_at.Reads as block_at_reads
use Rattle.rows.proofs.four_bytes.Kinds as four_bytes_kinds
use Rattle.rows.proofs.four_bytes.Reads as four_bytes_reads
use Rattle.rows.proofs.block_from.Kinds as block_from_kinds
use Rattle.rows.proofs.block_from.Reads as block_from_reads
use Rattle.rows.proofs.same_blocks.Kinds as same_blocks_kinds
use Rattle.rows.proofs.same_blocks.Reads as same_blocks_reads
use Rattle.rows.proofs.entry_directory.Kinds as entry_directory_kinds
use Rattle.rows.proofs.entry_directory.Reads as entry_directory_reads
use Rattle.rows.proofs.entry_node.Kinds as entry_node_kinds
use Rattle.rows.proofs.entry_node.Reads as entry_node_reads
use Rattle.rows.proofs.entry_name.Kinds as entry_name_kinds
use Rattle.rows.proofs.entry_name.Reads as entry_name_reads
use Rattle.rows.proofs.kind_in.Kinds as kind_in_kinds
use Rattle.rows.proofs.kind_in.Reads as kind_in_reads
use Rattle.rows.proofs.count_in.Kinds as count_in_kinds
use Rattle.rows.proofs.count_in.Reads as count_in_reads
use Rattle.rows.proofs.bytes_at.Kinds as bytes_at_kinds
use Rattle.rows.proofs.bytes_at.Reads as bytes_at_reads
use Rattle.rows.proofs.target_in.Kinds as target_in_kinds
use Rattle.rows.proofs.target_in.Reads as target_in_reads
use Rattle.rows.proofs.KindNumbers.{same_kind}
use Rattle.rows.proofs.kind_of.Kinds as kind_of_kinds
use Rattle.rows.proofs.kind_of.Reads as kind_of_reads
use Rattle.rows.proofs.U8FromKind.from.Kinds as number_kinds
use Rattle.rows.proofs.U8FromKind.from.Reads as number_reads
use Rattle.rows.proofs.is_kind.Kinds as is_kind_kinds
use Rattle.rows.proofs.is_kind.Reads as is_kind_reads
use Rattle.rows.proofs.row_of_node.Kinds as row_of_node_kinds
use Rattle.rows.proofs.row_of_node.Reads as row_of_node_reads
use Rattle.rows.proofs.node_kind.Kinds as node_kind_kinds
use Rattle.rows.proofs.node_kind.Reads as node_kind_reads
use Rattle.rows.proofs.node_count.Kinds as node_count_kinds
use Rattle.rows.proofs.node_count.Reads as node_count_reads
use Rattle.rows.proofs.hold_directory.Kinds as hold_directory_kinds
use Rattle.rows.proofs.hold_directory.Reads as hold_directory_reads
use Rattle.rows.proofs.hold_process.Kinds as hold_process_kinds
use Rattle.rows.proofs.hold_process.Reads as hold_process_reads
use Rattle.rows.proofs.hold_name.Kinds as hold_name_kinds
use Rattle.rows.proofs.hold_name.Reads as hold_name_reads
use Rattle.rows.proofs.hold_role.Kinds as hold_role_kinds
use Rattle.rows.proofs.hold_role.Reads as hold_role_reads
use Rattle.rows.proofs.process_number.Kinds as process_number_kinds
use Rattle.rows.proofs.process_number.Reads as process_number_reads
use Rattle.rows.proofs.process_user.Kinds as process_user_kinds
use Rattle.rows.proofs.process_user.Reads as process_user_reads

pub top_bits_determined : OneResult 0 top_bits_kinds.ps top_bits_kinds.r top_bits_reads.Post
top_bits_determined κs a x y s t p q = p ∙ sym q

pub length_bits_determined : OneResult 0 length_bits_kinds.ps length_bits_kinds.r length_bits_reads.Post
length_bits_determined κs a x y s t p q = p ∙ sym q

pub wide_determined : OneResult 0 wide_kinds.ps wide_kinds.r wide_reads.Post
wide_determined κs a x y s t p q = p ∙ sym q

pub block_at_determined : OneResult 1 block_at_kinds.ps block_at_kinds.r block_at_reads.Post
block_at_determined κs a x y s t p q = p ∙ sym q

pub four_bytes_determined : OneResult 1 four_bytes_kinds.ps four_bytes_kinds.r four_bytes_reads.Post
four_bytes_determined κs a x y s t p q = p ∙ sym q

pub block_from_determined : OneResult 1 block_from_kinds.ps block_from_kinds.r block_from_reads.Post
block_from_determined κs a x y s t p q = p ∙ sym q

pub same_blocks_determined : OneResult 0 same_blocks_kinds.ps same_blocks_kinds.r same_blocks_reads.Post
same_blocks_determined κs a x y s t p q = p ∙ sym q

pub entry_directory_determined : OneResult 1 entry_directory_kinds.ps entry_directory_kinds.r entry_directory_reads.Post
entry_directory_determined κs a x y s t p q = p ∙ sym q

pub entry_node_determined : OneResult 1 entry_node_kinds.ps entry_node_kinds.r entry_node_reads.Post
entry_node_determined κs a x y s t p q = p ∙ sym q

pub entry_name_determined : OneResult 1 entry_name_kinds.ps entry_name_kinds.r entry_name_reads.Post
entry_name_determined κs a x y s t p q = p ∙ sym q

pub kind_of_determined : OneResult 0 kind_of_kinds.ps kind_of_kinds.r kind_of_reads.Post
kind_of_determined κs a x y s t p q = same_kind x y (p ∙ sym q)

pub kind_in_determined : OneResult 1 kind_in_kinds.ps kind_in_kinds.r kind_in_reads.Post
kind_in_determined κs a x y s t p q = same_kind x y (p ∙ sym q)

pub count_in_determined : OneResult 1 count_in_kinds.ps count_in_kinds.r count_in_reads.Post
count_in_determined κs a x y s t p q = p ∙ sym q

pub bytes_at_determined : OneResult 1 bytes_at_kinds.ps bytes_at_kinds.r bytes_at_reads.Post
bytes_at_determined κs a x y s t p q = p ∙ sym q

pub target_in_determined : OneResult 1 target_in_kinds.ps target_in_kinds.r target_in_reads.Post
target_in_determined κs a x y s t p q = p ∙ sym q

-- there is one row, or none
abbrev RowIs : ℕ → Option ℕ → Type 0
RowIs n r = MatchOption r ((n ≡ 0) ⊎ (node_rows < n)) (λ row. (n ≡ row + 1) × (row < node_rows))

one_row : (n : ℕ) (r s : Option ℕ) → RowIs n r → RowIs n s → r ≡ s
one_row n None None p q = refl
one_row n None (Some y) p q = absurd (let z : ⊥ = omega arith in z)
one_row n (Some x) None p q = absurd (let z : ⊥ = omega arith in z)
one_row n (Some x) (Some y) p q = let e : x ≡ y = omega arith in ap Some e

pub row_of_node_determined : OneResult 0 row_of_node_kinds.ps row_of_node_kinds.r row_of_node_reads.Post
row_of_node_determined κs a x y s t p q = one_row _ x y p q

pub node_kind_determined : OneResult 1 node_kind_kinds.ps node_kind_kinds.r node_kind_reads.Post
node_kind_determined κs a x y s t p q = same_kind x y (p ∙ sym q)

pub number_determined : OneResult 0 number_kinds.ps number_kinds.r number_reads.Post
number_determined κs a x y s t p q = p ∙ sym q

pub is_kind_determined : OneResult 1 is_kind_kinds.ps is_kind_kinds.r is_kind_reads.Post
is_kind_determined κs a x y s t p q = p ∙ sym q

pub node_count_determined : OneResult 1 node_count_kinds.ps node_count_kinds.r node_count_reads.Post
node_count_determined κs a x y s t p q = p ∙ sym q

pub hold_directory_determined : OneResult 1 hold_directory_kinds.ps hold_directory_kinds.r hold_directory_reads.Post
hold_directory_determined κs a x y s t p q = p ∙ sym q

pub hold_process_determined : OneResult 1 hold_process_kinds.ps hold_process_kinds.r hold_process_reads.Post
hold_process_determined κs a x y s t p q = p ∙ sym q

pub hold_name_determined : OneResult 1 hold_name_kinds.ps hold_name_kinds.r hold_name_reads.Post
hold_name_determined κs a x y s t p q = p ∙ sym q

pub hold_role_determined : OneResult 1 hold_role_kinds.ps hold_role_kinds.r hold_role_reads.Post
hold_role_determined κs a x y s t p q = p ∙ sym q

pub process_number_determined : OneResult 1 process_number_kinds.ps process_number_kinds.r process_number_reads.Post
process_number_determined κs a x y s t p q = p ∙ sym q

pub process_user_determined : OneResult 1 process_user_kinds.ps process_user_kinds.r process_user_reads.Post
process_user_determined κs a x y s t p q = p ∙ sym q
