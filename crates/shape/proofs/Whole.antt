-- The rows of all tables tested are the tables tested. Assumes nothing.
use mathlib.Core.Path.{◌≡◌, refl, sym, ap, ap₂, ◌∙◌}
use mathlib.Core.Bool.{Bool, true, false, ◌&&◌, ◌||◌}
use mathlib.Core.List.{List, [], map}
use Prim.Native.Nat.{ℕ, zero, suc, ◌+◌, ◌*◌, ◌≤◌, ◌<◌}
use native.Mathlib.Decide.{ℕ_discrete}
use native.Mathlib.Omega.{arith}
use borrow.Author.Tests.{eq-eqb, ne_eqb}
use borrow.Rule.Slice.PartMut.{mid_of}
use lib.Dec.{eqb}
use lib.ListN.{length, get_or, drop, length-drop}
use Rattle.model.specs.Lists.{same, all, pieces}
use Rattle.model.specs.Paths.{valid_name}
use Rattle.model.specs.Tables.{free_entry, free_node, free_hold, entry_rows, node_rows, hold_rows, process_rows}
use Rattle.model.specs.Words.{entry_words, node_words, hold_words, process_words, first_node_word, first_hold_word, first_process_word, word_count, pack_entry, unpack_entry, pack_node, unpack_node, pack_hold, unpack_hold, pack_process, unpack_process, pack, unpack}
use Rattle.model.specs.Sound.{each_used, exact, names_valid, roles_valid, targets_valid, target_fits}
use Rattle.laws.proofs.AllRows.{all_both, all_alike, all_map}
use Rattle.laws.proofs.Bools.{and_left, and_right, and_true, and_middle, both, is_false, or_and}
use Rattle.laws.proofs.Each.{Each, none, one, each_by_place, each_passes, passes_each}
use Rattle.laws.proofs.Pieces.{same_equal, equal_same, pieces_length}
use Rattle.laws.proofs.RowWords.{piece_at, pieces_take, JustRows, just_rows, exact_row}
use Rattle.laws.proofs.Words.{entry_wide, node_wide, hold_wide, process_wide, packed_length, unpacked_fits}
use Rattle.rows.proofs.Blocks.{same_when}
use Rattle.rows.proofs.Parts.{mid_long, nothing_behind, parts_stand, stands_parts}
use Rattle.shape.specs.Shaped.{entry_pieces, node_pieces, hold_pieces, process_pieces, entry_shaped, node_shaped, hold_shaped, process_shaped, role_valid, shaped}

-- TESTS OF ALL ROWS, whatever table they are of: u reads a row, f writes it

module _ {A : Type 0} (u : List ℕ → A) (f : A → List ℕ) where
  -- the words are just those of the row that they hold
  abbrev exact_words : List ℕ → Bool
  exact_words ws = same ws (f (u ws))

  -- each row's words are its own and the row is valid
  rows_split : (valid : A → Bool) (ps : List (List ℕ)) → all (λ ws. exact_words ws && valid (u ws)) ps ≡ (all exact_words ps && all valid (map u ps))
  rows_split valid ps = all_both exact_words (λ ws. valid (u ws)) ps ∙ ap (λ b. all exact_words ps && b) (sym (all_map u valid ps))

  -- a part is just its rows where the words of each row are
  module _ (n k : ℕ) (wide : (x : A) → length (f x) ≡ k) (a : ℕ) (w : List ℕ) (h : a + n * k ≤ length w) where
    abbrev part : List ℕ
    part = mid_of a (n * k) w

    part_pieces : pieces n k part ≡ pieces n k (drop a w)
    part_pieces = pieces_take k n (drop a w) (omega (arith, length-drop a w))

    rows_exact : all exact_words (pieces n k (drop a w)) ≡ true → JustRows u f n k part
    rows_exact e =
        just_rows u f k n part (mid_long a (n * k) w h) (λ row r.
        let q : exact_words (get_or (pieces n k part) row []) ≡ true
        = at_place (passes_each exact_words (pieces n k part) (ap (all exact_words) part_pieces ∙ e)) row (omega (arith, pieces_length n k part)) in
        sym (same_equal _ _ (ap exact_words (sym (piece_at k n part row [] r)) ∙ q)))
      where
        at_place : {ps : List (List ℕ)} → Each (λ ws. exact_words ws ≡ true) ps → (i : ℕ) → i < length ps → exact_words (get_or ps i []) ≡ true
        at_place none i l = absurd (omega arith)
        at_place (one p ps) zero l = p
        at_place (one p ps) (suc i) l = at_place ps i (omega arith)

    exact_rows : JustRows u f n k part → all exact_words (pieces n k (drop a w)) ≡ true
    exact_rows j =
        ap (all exact_words) (sym part_pieces)
        ∙ each_passes exact_words (each_by_place (pieces n k part) [] (λ row l.
        let r : row < n = omega (arith, pieces_length n k part) in
        ap exact_words (piece_at k n part row [] r) ∙ equal_same (sym (exact_row u f k wide n part j row r))))

-- THE WHOLE

module _ (w : List ℕ) where
  -- each table's rows: just the words of what they hold, and valid
  abbrev exact_entries : Bool
  exact_entries = all (exact_words unpack_entry pack_entry) (entry_pieces w)

  abbrev exact_nodes : Bool
  exact_nodes = all (exact_words unpack_node pack_node) (node_pieces w)

  abbrev exact_holds : Bool
  exact_holds = all (exact_words unpack_hold pack_hold) (hold_pieces w)

  abbrev exact_processes : Bool
  exact_processes = all (exact_words unpack_process pack_process) (process_pieces w)

  abbrev valid_entries : Bool
  valid_entries = each_used free_entry (λ e. valid_name e.place.name) (unpack w).entries

  abbrev valid_nodes : Bool
  valid_nodes = each_used free_node target_fits (unpack w).nodes

  abbrev valid_holds : Bool
  valid_holds = each_used free_hold (λ h. valid_name h.place.name) (unpack w).holds

  abbrev valid_roles : Bool
  valid_roles = each_used free_hold role_valid (unpack w).holds

  entries_split : all entry_shaped (entry_pieces w) ≡ (exact_entries && valid_entries)
  unfolding entry_shaped unpack each_used
  entries_split = rows_split unpack_entry pack_entry (λ e. free_entry e || valid_name e.place.name) (entry_pieces w)

  nodes_split : all node_shaped (node_pieces w) ≡ (exact_nodes && valid_nodes)
  unfolding node_shaped unpack each_used
  nodes_split = rows_split unpack_node pack_node (λ x. free_node x || target_fits x) (node_pieces w)

  holds_split : all hold_shaped (hold_pieces w) ≡ (exact_holds && (valid_holds && valid_roles))
  unfolding hold_shaped unpack each_used
  holds_split =
      rows_split unpack_hold pack_hold (λ h. free_hold h || (valid_name h.place.name && role_valid h)) (hold_pieces w)
      ∙ ap (λ b. exact_holds && b)
      (all_alike _ (λ h. (free_hold h || valid_name h.place.name) && (free_hold h || role_valid h))
      (λ h. or_and (free_hold h) (valid_name h.place.name) (role_valid h)) (unpack w).holds
      ∙ all_both (λ h. free_hold h || valid_name h.place.name) (λ h. free_hold h || role_valid h) (unpack w).holds)

  -- the words are just those of the tables where each table's are
  abbrev all_exact : Bool
  all_exact = exact_entries && (exact_nodes && (exact_holds && exact_processes))

  exact_parts : length w ≡ word_count → all_exact ≡ exact w (unpack w)
  unfolding exact
  exact_parts l =
      same_when all_exact (exact w (unpack w))
      (λ e. let behind = and_right exact_entries (exact_nodes && (exact_holds && exact_processes)) e in
      let last = and_right exact_nodes (exact_holds && exact_processes) behind in
      equal_same (sym (parts_stand (record {
        long = l;
        entries = rows_exact unpack_entry pack_entry entry_rows entry_words entry_wide 0 w (omega arith) (and_left exact_entries _ e);
        nodes = rows_exact unpack_node pack_node node_rows node_words node_wide first_node_word w (omega arith) (and_left exact_nodes _ behind);
        holds = rows_exact unpack_hold pack_hold hold_rows hold_words hold_wide first_hold_word w (omega arith) (and_left exact_holds _ last);
        processes = rows_exact unpack_process pack_process process_rows process_words process_wide first_process_word w (omega arith)
            (and_right exact_holds exact_processes last);
        behind = nothing_behind w l;
      })).same))
      (λ e. let p = stands_parts (record { long = l; same = sym (same_equal w (pack (unpack w)) e) }) in
      both (exact_rows unpack_entry pack_entry entry_rows entry_words entry_wide 0 w (omega arith) p.entries)
      (both (exact_rows unpack_node pack_node node_rows node_words node_wide first_node_word w (omega arith) p.nodes)
      (both (exact_rows unpack_hold pack_hold hold_rows hold_words hold_wide first_hold_word w (omega arith) p.holds)
      (exact_rows unpack_process pack_process process_rows process_words process_wide first_process_word w (omega arith) p.processes))))

  pub wrong_length : (length w ≡ word_count → ⊥) → false ≡ shaped w
  unfolding shaped exact
  wrong_length n =
      sym (is_false (shaped w) (λ t.
      let rules = names_valid (unpack w) && (roles_valid (unpack w) && targets_valid (unpack w)) in
      let e = same_equal w (pack (unpack w)) (and_left (exact w (unpack w)) rules t) in
      n (ap (length {A = ℕ}) e ∙ packed_length (unpacked_fits w))))

  pub all_shaped : length w ≡ word_count
      → (all entry_shaped (entry_pieces w) && (all node_shaped (node_pieces w) && (all hold_shaped (hold_pieces w) && all process_shaped (process_pieces w)))) ≡ shaped w
  unfolding shaped names_valid roles_valid targets_valid role_valid process_shaped
  all_shaped l =
      ap₂ ◌&&◌ entries_split (ap₂ ◌&&◌ nodes_split (ap (λ b. b && exact_processes) holds_split))
      ∙ by_rules exact_entries valid_entries exact_nodes valid_nodes exact_holds valid_holds valid_roles exact_processes
      ∙ ap (λ b. b && ((valid_entries && valid_holds) && (valid_roles && valid_nodes))) (exact_parts l)
    where
      to_the_end : (a b c : Bool) → ((a && b) && c) ≡ ((a && c) && b)
      to_the_end false b c = refl
      to_the_end true true c = sym (and_true c)
      to_the_end true false true = refl
      to_the_end true false false = refl

      in_order : (a b c d : Bool) → (a && (b && (c && d))) ≡ ((a && c) && (d && b))
      in_order false b c d = refl
      in_order true true true d = sym (and_true d)
      in_order true true false d = refl
      in_order true false true true = refl
      in_order true false true false = refl
      in_order true false false d = refl

      -- table by table is rule by rule
      by_rules : (ee ve en vn eh vh vr ep : Bool)
          → ((ee && ve) && ((en && vn) && ((eh && (vh && vr)) && ep))) ≡ ((ee && (en && (eh && ep))) && ((ve && vh) && (vr && vn)))
      by_rules ee ve en vn eh vh vr ep =
          ap (λ b. (ee && ve) && ((en && vn) && b)) (to_the_end eh (vh && vr) ep) ∙ ap (λ b. (ee && ve) && b) (and_middle en vn (eh && ep) (vh && vr))
          ∙ and_middle ee ve (en && (eh && ep)) (vn && (vh && vr)) ∙ ap (λ b. (ee && (en && (eh && ep))) && b) (in_order ve vn vh vr)

  -- in the order in which they are tested, each where those before it passed
  pub tested : {e n h : Bool} → e ≡ (eqb (length w) word_count && all entry_shaped (entry_pieces w)) → n ≡ (e && all node_shaped (node_pieces w))
      → h ≡ (n && all hold_shaped (hold_pieces w)) → (h && all process_shaped (process_pieces w)) ≡ shaped w
  tested p q r = elim (ℕ_discrete (length w) word_count) [
    | yes l ↦ rw (r, q, p, eq-eqb (length w) word_count l) (regrouped (all entry_shaped (entry_pieces w)) (all node_shaped (node_pieces w)) (all hold_shaped (hold_pieces w)) _ ∙ all_shaped l)
    | no n ↦ rw (r, q, p, ne_eqb (length w) word_count n) (wrong_length n)
  ]
    where
      regrouped : (a b c d : Bool) → (((a && b) && c) && d) ≡ (a && (b && (c && d)))
      regrouped true true c d = refl
      regrouped true false c d = refl
      regrouped false b c d = refl
