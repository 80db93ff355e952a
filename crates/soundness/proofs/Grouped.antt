-- The rules of sound tables as the code groups them: those that each row meets by itself first, then those of several rows. Assumes nothing.
use mathlib.Core.Path.{◌≡◌, sym, ap, ◌∙◌}
use mathlib.Core.Bool.{Bool, true, false, ◌&&◌}
use mathlib.Core.List.{List, [], ◌∷◌}
use Prim.Native.Nat.{ℕ}
use lib.ListN.{length}
use Rattle.model.specs.Words.{unpack}
use Rattle.model.specs.Sound.{entries_distinct, entries_in_directories, entries_lead_to_nodes, counts_right, first_node_right, counts_fit, holds_distinct, holds_in_directories, holds_of_listed, ends_of_one_user, processes_distinct, names_valid, roles_valid, targets_valid, sound_rows, exact, sound_with, sound}
use Rattle.laws.proofs.Bools.{and_left, and_right, both}
use Rattle.laws.proofs.Chains.{True, chain_each, each_chain}
use Rattle.laws.proofs.Each.{Each, none, one}
use Rattle.laws.proofs.Words.{unpacked_fits, packed_length, exact_back}
use Rattle.rows.specs.Stands.{Stands}
use Rattle.rows.proofs.Blocks.{same_when}
use Rattle.shape.specs.Shaped.{shaped}
use Rattle.soundness.specs.Groups.{tree_rules, hold_rules}

-- what is true where a conjunction is
taken : (a b : Bool) → (a && b) ≡ true → (a ≡ true) × (b ≡ true)
taken a b e = (and_left a b e, and_right a b e)

-- the test of the words, and the rules a to n in the model's order
module _ (x a b c d e f g h i j k l m n : Bool) where
  abbrev grouped : Bool
  grouped = (x && (l && (m && n))) && (a && (((b && c) && (e && (d && f))) && (k && ((h && i) && (g && j)))))

  abbrev Rules : Type 0
  Rules = Each True (a ∷ b ∷ c ∷ d ∷ e ∷ f ∷ g ∷ h ∷ i ∷ j ∷ k ∷ l ∷ m ∷ n ∷ [])

  put_together : x ≡ true → Rules → grouped ≡ true
  put_together px (one pa (one pb (one pc (one pd (one pe (one pf (one pg (one ph (one pi (one pj (one pk (one pl (one pm (one pn none)))))))))))))) =
      both (both px (both pl (both pm pn))) (both pa (both (both (both pb pc) (both pe (both pd pf))) (both pk (both (both ph pi) (both pg pj)))))

  taken_apart : grouped ≡ true → (x ≡ true) × Rules
  taken_apart all =
      let halves = taken (x && (l && (m && n))) _ all in
      let shape = taken x _ halves.0 in
      let named = taken l _ shape.1 in
      let roles = taken m n named.1 in
      let entries = taken a _ halves.1 in
      let groups = taken ((b && c) && (e && (d && f))) _ entries.1 in
      let tree = taken (b && c) _ groups.0 in
      let leads = taken b c tree.0 in
      let top = taken e _ tree.1 in
      let counts = taken d f top.1 in
      let processes = taken k _ groups.1 in
      let holds = taken (h && i) _ processes.1 in
      let placed = taken h i holds.0 in
      let pairs = taken g j holds.1 in (
        shape.0,
        one entries.0 (one leads.0 (one leads.1 (one counts.0 (one top.0 (one counts.1 (one pairs.0 (one placed.0 (one placed.1
            (one pairs.1 (one processes.0 (one named.0 (one roles.0 (one roles.1 none))))))))))))),
      )

pub sound_by_groups : (w : List ℕ) → (shaped w && (entries_distinct (unpack w) && (tree_rules (unpack w) && hold_rules (unpack w)))) ≡ sound w
unfolding sound sound_with sound_rows shaped
sound_by_groups w =
    let t = unpack w in
    same_when _ _
    (λ all.
    let rules = taken_apart (exact w t) (entries_distinct t) (entries_in_directories t) (entries_lead_to_nodes t) (counts_right t) (first_node_right t)
    (counts_fit t) (holds_distinct t) (holds_in_directories t) (holds_of_listed t) (ends_of_one_user t) (processes_distinct t) (names_valid t) (roles_valid t)
    (targets_valid t) all in
    both rules.0 (each_chain rules.1))
    (λ all.
    put_together _ _ _ _ _ _ _ _ _ _ _ _ _ _ _ (and_left (exact w t) (sound_rows t) all)
    (chain_each (entries_distinct t) (entries_in_directories t ∷ entries_lead_to_nodes t ∷ counts_right t ∷ first_node_right t ∷ counts_fit t ∷ holds_distinct t
    ∷ holds_in_directories t ∷ holds_of_listed t ∷ ends_of_one_user t ∷ processes_distinct t ∷ names_valid t ∷ roles_valid t ∷ targets_valid t ∷ [])
    (and_right (exact w t) (sound_rows t) all)))

-- words that are shaped stand for the tables that they hold
pub shaped_stands : (w : List ℕ) → shaped w ≡ true → Stands w
unfolding shaped
shaped_stands w e =
    let back = exact_back w (and_left (exact w (unpack w)) _ e) in
    record { long = sym (ap length back) ∙ packed_length (unpacked_fits w); same = back }

-- THE TEST, part after part

pub not_shaped : (w : List ℕ) → shaped w ≡ false → false ≡ sound w
not_shaped w e = sym (rw e) ∙ sound_by_groups w

module _ (w : List ℕ) (s : shaped w ≡ true) where
  pub not_distinct : entries_distinct (unpack w) ≡ false → false ≡ sound w
  not_distinct e = sym (rw (s, e)) ∙ sound_by_groups w

  pub rules_decide : entries_distinct (unpack w) ≡ true → {r : Bool} → r ≡ (tree_rules (unpack w) && hold_rules (unpack w)) → r ≡ sound w
  rules_decide d q = q ∙ sym (rw (s, d)) ∙ sound_by_groups w
