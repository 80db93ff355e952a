-- `shape::node_shaped` meets its contract. Assumes nothing.
use mathlib.Core.Path.{◌≡◌, refl, ap, ◌∙◌}
use Prim.Native.Nat.{ℕ, ◌+◌, ◌*◌, ◌/◌, ◌<◌}
use native.Mathlib.Omega.{arith}
use borrow.Author.Tests.{ne_eqb}
use mathlib.Core.List.{List}
use mir.Syntax.{w32}
use mir.Val.{Fits}
use lib.ListN.{length, get_or, take, drop}
use Rattle.model.specs.Tables.{node_rows}
use Rattle.model.specs.Words.{node_words, first_node_word, word_count}
use Rattle.rows.specs.Blocks.{target_words}
use Rattle.std.proofs.Common.{rules}
use Rattle.std.specs.Prelude.{Option, Some}
use Rattle.rows.specs.Kinds.{kind_number}
use Rattle.rows.specs.declared.Kind.{Kind}
use Rattle.rows.specs.declared.Kind.TheVariants.{File, Directory, Link}
use Rattle.shape.proofs.NodeShapes.{NodeRead, node_read, free_dirty, free_clean, low_bits, link_read, plain_dirty, plain_clean}
use Rattle.shape.proofs.node_shaped.Goals as goal

-- the row's words as they are read
module _ (w : List ℕ) (row : ℕ) (there : (length w ≡ word_count) × (row < node_rows)) (small : (i : ℕ) → Fits w32 (get_or w i 0)) where
  abbrev at : ℕ
  at = first_node_word + row * node_words

  read : {kind : ℕ} → kind ≡ get_or w at 0 / 1073741824 → NodeRead (take node_words (drop at w)) (get_or w at 0) (take target_words (drop (at + 1) w)) kind
  read = let long = there.0 in node_read w at (omega arith) small

-- the number of a kind that is no link's
plain : {found : Option Kind} {k : Kind} → found ≡ Some k → (k ≡ Link → ⊥) → (kind_number found ≡ 0 → ⊥) × (kind_number found ≡ 3 → ⊥)
plain {k = File} e n = rw e (λ z. omega (arith, z), λ z. omega (arith, z))
plain {k = Directory} e n = rw e (λ z. omega (arith, z), λ z. omega (arith, z))
plain {k = Link} e n = let z : ⊥ = n refl in elim z [ ]

pub returns-then-head-ne0 : goal.returns-then-head-ne0
returns-then-head-ne0 c = low_bits (read c.args.words.now c.args.row c.requires c.type_inv.words refl) c.if-head-ne0.true

pub returns-then-head-eq0 : goal.returns-then-head-eq0
returns-then-head-eq0 c =
    c.all_zeros.ensures
    ∙ free_clean (read c.args.words.now c.args.row c.requires c.type_inv.words (c.kind_of.ensures ∙ c.top_bits.ensures)) (ap kind_number c.in-None.is)
    c.if-head-eq0.true

pub returns-else-head-eq0 : goal.returns-else-head-eq0
returns-else-head-eq0 c =
    ne_eqb _ 0 c.if-head-eq0.false
    ∙ free_dirty (read c.args.words.now c.args.row c.requires c.type_inv.words (c.kind_of.ensures ∙ c.top_bits.ensures)) (ap kind_number c.in-None.is)
    c.if-head-eq0.false

pub returns-in-Some-Link : goal.returns-in-Some-Link
returns-in-Some-Link c =
    let link : kind_number c.kind_of.result ≡ 3 = ap kind_number (c.in-Some-Link.is ∙ ap Some c.in-Some-Link.field-0-is) in
    c.link_shaped.ensures
    ∙ link_read (read c.args.words.now c.args.row c.requires c.type_inv.words (c.kind_of.ensures ∙ c.top_bits.ensures)) (λ z. omega (arith, link)) c.if-head-ne0.false
    c.length_bits.ensures link

pub returns-then-length_bits-eq0 : goal.returns-then-length_bits-eq0
returns-then-length_bits-eq0 c =
    let apart : c.in-Some.field-0 ≡ Link → ⊥ = search rules in
    c.all_zeros-then-length_bits-eq0.ensures
    ∙ plain_clean (read c.args.words.now c.args.row c.requires c.type_inv.words (c.kind_of.ensures ∙ c.top_bits.ensures)) (plain c.in-Some.is apart).0 c.if-head-ne0.false
    c.length_bits-in-Some.ensures (plain c.in-Some.is apart).1 c.if-length_bits-eq0.true

pub returns-else-length_bits-eq0 : goal.returns-else-length_bits-eq0
returns-else-length_bits-eq0 c =
    let apart : c.in-Some.field-0 ≡ Link → ⊥ = search rules in
    ne_eqb _ 0 c.if-length_bits-eq0.false
    ∙ plain_dirty (read c.args.words.now c.args.row c.requires c.type_inv.words (c.kind_of.ensures ∙ c.top_bits.ensures)) (plain c.in-Some.is apart).0 c.if-head-ne0.false
    c.length_bits-in-Some.ensures (plain c.in-Some.is apart).1 c.if-length_bits-eq0.false
