-- A node's count changed: one word of its row, and what that is in the model. Assumes nothing.
use mathlib.Core.Path.{◌≡◌, sym, ap, ◌∙◌}
use mathlib.Core.Bool.{true, false}
use mathlib.Core.Logic.{◌⊎◌, inl, inr}
use mathlib.Core.List.{List, ◌∷◌, ◌++◌, append_assoc}
use Prim.Native.Nat.{ℕ, suc, ◌+◌, ◌*◌, ◌-◌, ◌/◌, ◌≤◌, ◌<◌}
use native.Mathlib.Omega.{arith}
use native.Mathlib.Decide.{ℕ_discrete}
use native.Mathlib.Numerals.{add-one}
use borrow.Author.Tests.{eq-eqb, ne_eqb}
use lib.Dec.{eqb}
use lib.ListN.{length, get_or, set, take, drop, length-take, length-drop, length-set, take-append-drop}
use lib.Seq.{sets, sets-eq, get_or-take, get_or-drop, set_out, set-get_or, drop-set-lt, drop-cons, drop-drop}
use Rattle.model.specs.Lists.{filled}
use Rattle.model.specs.Paths.{longest_target}
use Rattle.model.specs.Tables.{node_rows, Node, no_node, node_at, with_nodes}
use Rattle.model.specs.Calls.{set_node, one_more, one_less}
use Rattle.model.specs.Words.{node_words, all_node_words, first_node_word, words, unpack}
use Rattle.laws.proofs.Words.{NodeFits, node_back}
use Rattle.rows.specs.Blocks.{target_words}
use Rattle.rows.specs.Stands.{Stands, Becomes, node_row}
use Rattle.rows.proofs.Parts.{part, node_part, mid_long, nodes_full, in_part, read_node}
use Rattle.rows.proofs.Fields.{node_row_fits, node_packed, node_head, node_of_row}
use Rattle.rows.proofs.Writes.{put_part, write_node}
use Rattle.edits.specs.Nodes.{with_count}

-- stores of what stands there already change nothing
sets_same : (l : List ℕ) (i k : ℕ) → i + k ≤ length l → sets l i (take k (drop i l)) ≡ l
sets_same l i k h =
    let n : length (take k (drop i l)) ≡ k = simp (length-take, length-drop) (omega arith) in
    let g : i + length (take k (drop i l)) ≤ length l = omega arith in
    let e : i + length (take k (drop i l)) ≡ i + k = omega arith in
    sets-eq (take k (drop i l)) l i g ∙ ap (λ m. take i l ++ take k (drop i l) ++ drop m l) e
    ∙ ap (λ m. take i l ++ take k (drop i l) ++ m) (sym (drop-drop k i l))
    ∙ append_assoc (take i l) (take k (drop i l)) (drop k (drop i l)) ∙ ap (λ m. take i l ++ m) (take-append-drop k (drop i l))
    ∙ take-append-drop i l

-- a row that differs in its first word alone
sets_first : (l : List ℕ) (i k a b : ℕ) (rest : List ℕ) → i + suc k ≤ length l → take (suc k) (drop i l) ≡ a ∷ rest → sets l i (b ∷ rest) ≡ set l i b
sets_first l i k a b rest h e =
    let t : take (suc k) (drop i l) ≡ get_or l i 0 ∷ take k (drop (suc i) l) = ap (take (suc k)) (drop-cons l i 0 (omega arith)) in
    let q : rest ≡ take k (drop (suc i) l) = cc in
    let d : drop (suc i) (set l i b) ≡ drop (suc i) l = drop-set-lt (suc i) l i b (omega arith) in
    ap (sets (set l i b) (suc i)) (q ∙ ap (take k) (sym d)) ∙ sets_same (set l i b) (suc i) k (omega (arith, length-set l i b))

module _ {w : List ℕ} (s : Stands w) (row : ℕ) (r : row < node_rows) (count : ℕ) (used : 1 ≤ (node_row w row).kind) (c : count < 1024) where
  recounted_fits : NodeFits (with_count count (node_row w row))
  unfolding with_count
  recounted_fits =
      let f = node_row_fits w row in
      record { free = λ q. absurd (let z : ⊥ = omega arith in z); kind = f.kind; count = c; target = f.target }

  pub set_count_is : {p : List ℕ} → p ≡ set (part node_part w) (row * node_words) (get_or (part node_part w) (row * node_words) 0 / 8388608 * 8388608 + count * 8192)
      → Becomes (put_part node_part w p) (with_nodes (unpack w) (set (unpack w).nodes row (with_count count (node_row w row))))
  unfolding with_count
  set_count_is {p} e =
      let l = s.long in
      let x = node_row w row in
      let f = node_row_fits w row in
      let k = f.count in
      let nodes = part node_part w in
      let at = row * node_words in
      let rest = words (filled longest_target x.target) in
      let was = x.kind * 1073741824 + length x.target * 8388608 + x.count * 8192 in
      let will = x.kind * 1073741824 + length x.target * 8388608 + count * 8192 in
      let g : get_or nodes at 0 ≡ was
      = get_or-take all_node_words (drop first_node_word w) at 0 (omega arith) ∙ get_or-drop first_node_word w at 0 ∙ node_head s row r in
      let n : get_or nodes at 0 / 8388608 * 8388608 + count * 8192 ≡ will = omega arith in
      let m : length nodes ≡ all_node_words = mid_long first_node_word all_node_words w (omega arith) in
      let t : take node_words (drop at nodes) ≡ was ∷ rest
      = in_part node_part w (omega arith) row r ∙ read_node s row r ∙ node_packed f in
      write_node s row (with_count count x) r (node_back recounted_fits)
      (e ∙ ap (set nodes at) n ∙ sym (sets_first nodes at target_words was will rest (omega arith) t) ∙ ap (sets nodes at) (sym (node_packed recounted_fits)))

-- A NODE BY ITS NUMBER

set_in_row : {n : ℕ} (row : ℕ) (x : Node) (xs : List Node) → n ≡ row + 1 → set_node n x xs ≡ set xs row x
unfolding set_node
set_in_row row x xs e = ap (λ m. set_node m x xs) (e ∙ add-one row)

module _ {w : List ℕ} (s : Stands w) (n : ℕ) where
  -- no node has this number, so none is set
  pub no_node_set : (n ≡ 0) ⊎ (node_rows < n) → (x : Node) → Becomes w (with_nodes (unpack w) (set_node n x (unpack w).nodes))
  unfolding set_node
  no_node_set (inl e) x = record { stands = s; tables = ap (λ m. with_nodes (unpack w) (set_node m x (unpack w).nodes)) (sym e) }
  no_node_set (inr h) x =
      let m : length (unpack w).nodes ≤ n - 1 = omega (arith, nodes_full w) in
      record { stands = s; tables = ap (with_nodes (unpack w)) (sym (set_in_row (n - 1) x (unpack w).nodes (omega arith) ∙ set_out (unpack w).nodes (n - 1) x m)) }

  module _ (row : ℕ) (h : n ≡ row + 1) where
    numbered_set : (x y : Node) → x ≡ y → {v : List ℕ} → Becomes v (with_nodes (unpack w) (set (unpack w).nodes row x))
        → Becomes v (with_nodes (unpack w) (set_node n y (unpack w).nodes))
    numbered_set x y e b =
        record {
          stands = b.stands;
          tables = b.tables ∙ ap (λ z. with_nodes (unpack w) (set (unpack w).nodes row z)) e ∙ ap (with_nodes (unpack w)) (sym (set_in_row row y (unpack w).nodes h));
        }

    there : node_row w row ≡ node_at (unpack w).nodes n
    there = sym (node_of_row (unpack w).nodes row h)

    pub one_more_set : {c : ℕ} {v : List ℕ} → c ≡ (node_row w row).count
        → Becomes v (with_nodes (unpack w) (set (unpack w).nodes row (with_count (c + 1) (node_row w row))))
        → Becomes v (with_nodes (unpack w) (set_node n (one_more (node_at (unpack w).nodes n)) (unpack w).nodes))
    unfolding with_count one_more
    one_more_set {c} e b =
        numbered_set (with_count (c + 1) (node_row w row)) (one_more (node_at (unpack w).nodes n)) (ap (λ k. with_count (k + 1) (node_row w row)) e ∙ ap one_more there) b

    pub one_less_none : {c : ℕ} → c ≡ (node_row w row).count → c ≡ 0
        → Becomes w (with_nodes (unpack w) (set_node n (one_less (node_at (unpack w).nodes n)) (unpack w).nodes))
    unfolding one_less
    one_less_none {c} e z =
        numbered_set (node_row w row) (one_less (node_at (unpack w).nodes n)) (same (node_row w row) (sym e ∙ z) ∙ ap one_less there)
        (record { stands = s; tables = ap (with_nodes (unpack w)) (sym (set-get_or (unpack w).nodes row no_node)) })
      where
        same : (x : Node) → x.count ≡ 0 → x ≡ one_less x
        same x q =
            let a : eqb x.count 1 ≡ false = ne_eqb x.count 1 (λ k. omega arith) in
            let b : x.count - 1 ≡ x.count = omega arith in
            simp (a, b, one_less)

    pub one_less_last : {c : ℕ} {v : List ℕ} → c ≡ (node_row w row).count → c ≡ 1 → Becomes v (with_nodes (unpack w) (set (unpack w).nodes row no_node))
        → Becomes v (with_nodes (unpack w) (set_node n (one_less (node_at (unpack w).nodes n)) (unpack w).nodes))
    unfolding one_less
    one_less_last {c} e z b =
        numbered_set no_node (one_less (node_at (unpack w).nodes n))
        (let a : eqb (node_row w row).count 1 ≡ true = eq-eqb (node_row w row).count 1 (sym e ∙ z) in
        let k : no_node ≡ one_less (node_row w row) = simp (a, one_less) in
        k ∙ ap one_less there)
        b

    pub one_less_set : {c : ℕ} {v : List ℕ} → c ≡ (node_row w row).count → (c ≡ 1 → ⊥)
        → Becomes v (with_nodes (unpack w) (set (unpack w).nodes row (with_count (c - 1) (node_row w row))))
        → Becomes v (with_nodes (unpack w) (set_node n (one_less (node_at (unpack w).nodes n)) (unpack w).nodes))
    unfolding with_count one_less
    one_less_set {c} e z b =
        numbered_set (with_count (c - 1) (node_row w row)) (one_less (node_at (unpack w).nodes n))
        (ap (λ k. with_count (k - 1) (node_row w row)) e
        ∙ (let a : eqb (node_row w row).count 1 ≡ false = ne_eqb (node_row w row).count 1 (λ k. z (e ∙ k)) in
        let k : with_count ((node_row w row).count - 1) (node_row w row) ≡ one_less (node_row w row) = simp (a, one_less) in
        k ∙ ap one_less there))
        b

  -- a node to which entries lead is used
  pub counted_used : (row : ℕ) → 1 ≤ (node_row w row).count → 1 ≤ (node_row w row).kind
  counted_used row h = elim (ℕ_discrete (node_row w row).kind 0) [
    | yes e ↦ (let z : (node_row w row).count ≡ 0 = ap (λ (x : Node). x.count) ((node_row_fits w row).free e) in absurd (let y : ⊥ = omega arith in y))
    | no e ↦ omega arith
  ]
