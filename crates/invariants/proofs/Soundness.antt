-- Sound tables, rule by rule, as facts about their rows; and that these facts together are the model's test of soundness. Assumes nothing.
use mathlib.Core.Path.{◌≡◌}
use mathlib.Core.Bool.{Bool, true, false, not, ◌&&◌, ◌||◌}
use mathlib.Core.Logic.{◌≢◌}
use mathlib.Core.List.{List, [], ◌∷◌}
use Prim.Native.Nat.{ℕ}
use borrow.Author.Tests.{eqb-true, eqb-false, eq-eqb, ne_eqb}
use lib.Dec.{eqb}
use Rattle.model.specs.Lists.{all, distinct}
use Rattle.model.specs.Paths.{valid_name}
use Rattle.model.specs.Tables.{Entry, Node, Hold, Process, Tables, end_role, element_role, free_entry, free_node, free_hold, free_process, node_at, is_directory, listed, user_of}
use Rattle.model.specs.Sound as model
use Rattle.model.specs.Sound.{same_entry, leading_to, count_fits, same_hold, is_end, agree, same_process, target_fits, sound_rows}
use Rattle.laws.proofs.Bools.{and_left, and_right, both, not_true}
use Rattle.laws.proofs.Chains.{True, chain_each, each_chain}
use Rattle.laws.proofs.Each.{Each, none, one}
use Rattle.laws.proofs.HoldPairs.{agree_when, agreed_users}
use Rattle.laws.proofs.Members.{◌∈◌, all_in, in_all}
use Rattle.invariants.proofs.Rows.{used_meets, meets_used, node_meets, meets_node}

-- the rules for entries and nodes
pub record Tree (entries : List Entry) (nodes : List Node) : Type 0 where
  pub distinct_entries : distinct free_entry same_entry entries ≡ true
  pub in_directory : (e : Entry) → e ∈ entries → free_entry e ≡ false → is_directory nodes e.place.directory ≡ true
  pub leads : (e : Entry) → e ∈ entries → free_entry e ≡ false → free_node (node_at nodes e.node) ≡ false
  pub named : (e : Entry) → e ∈ entries → free_entry e ≡ false → valid_name e.place.name ≡ true
  pub counted : (n : ℕ) → free_node (node_at nodes n) ≡ false → (node_at nodes n).count ≡ leading_to entries n
  pub count_right : (n : ℕ) → free_node (node_at nodes n) ≡ false → count_fits n (node_at nodes n) ≡ true
  pub target_right : (x : Node) → x ∈ nodes → free_node x ≡ false → target_fits x ≡ true
  pub top : is_directory nodes 1 ≡ true
  pub top_count : (node_at nodes 1).count ≡ 0

-- the rules for one hold
pub record RightHold (nodes : List Node) (processes : List Process) (h : Hold) : Type 0 where
  pub in_directory : is_directory nodes h.place.directory ≡ true
  pub named : valid_name h.place.name ≡ true
  pub role : (eqb h.role end_role || eqb h.role element_role) ≡ true
  pub holder : listed processes h.process ≡ true
  pub holder_numbered : h.process ≢ 0

-- the rules for holds
pub record Holding (nodes : List Node) (processes : List Process) (holds : List Hold) : Type 0 where
  pub distinct_holds : distinct free_hold same_hold holds ≡ true
  pub right : (h : Hold) → h ∈ holds → free_hold h ≡ false → RightHold nodes processes h
  pub one_user :
      (h k : Hold) → h ∈ holds → k ∈ holds → free_hold h ≡ false → is_end h ≡ true → is_end k ≡ true → h.place ≡ k.place →
      user_of processes h.process ≡ user_of processes k.process

pub record Sound (t : Tables) : Type 0 where
  pub tree : Tree t.entries t.nodes
  pub holding : Holding t.nodes t.processes t.holds
  pub distinct_processes : distinct free_process same_process t.processes ≡ true

-- THE MODEL'S TEST

-- the rules of the model's test, one by one
record Rules (t : Tables) : Type 0 where
  entries_distinct : model.entries_distinct t ≡ true
  entries_in_directories : model.entries_in_directories t ≡ true
  entries_lead_to_nodes : model.entries_lead_to_nodes t ≡ true
  counts_right : model.counts_right t ≡ true
  first_node_right : model.first_node_right t ≡ true
  counts_fit : model.counts_fit t ≡ true
  holds_distinct : model.holds_distinct t ≡ true
  holds_in_directories : model.holds_in_directories t ≡ true
  holds_of_listed : model.holds_of_listed t ≡ true
  ends_of_one_user : model.ends_of_one_user t ≡ true
  processes_distinct : model.processes_distinct t ≡ true
  names_valid : model.names_valid t ≡ true
  roles_valid : model.roles_valid t ≡ true
  targets_valid : model.targets_valid t ≡ true

later_rules : Tables → List Bool
later_rules t =
    model.entries_in_directories t
    ∷ model.entries_lead_to_nodes t
    ∷ model.counts_right t
    ∷ model.first_node_right t
    ∷ model.counts_fit t
    ∷ model.holds_distinct t
    ∷ model.holds_in_directories t
    ∷ model.holds_of_listed t
    ∷ model.ends_of_one_user t
    ∷ model.processes_distinct t
    ∷ model.names_valid t
    ∷ model.roles_valid t
    ∷ model.targets_valid t
    ∷ []

rules : (t : Tables) → sound_rows t ≡ true → Rules t
unfolding model.sound_rows later_rules
rules t s = go (chain_each (model.entries_distinct t) (later_rules t) s)
  where
    go : Each True (model.entries_distinct t ∷ later_rules t) → Rules t
    go (one a (one b (one c (one d (one e (one f (one g (one h (one i (one j (one k (one l (one m (one n none)))))))))))))) =
        record {
          entries_distinct = a;
          entries_in_directories = b;
          entries_lead_to_nodes = c;
          counts_right = d;
          first_node_right = e;
          counts_fit = f;
          holds_distinct = g;
          holds_in_directories = h;
          holds_of_listed = i;
          ends_of_one_user = j;
          processes_distinct = k;
          names_valid = l;
          roles_valid = m;
          targets_valid = n;
        }

test : (t : Tables) → Rules t → sound_rows t ≡ true
unfolding model.sound_rows later_rules
test t r =
    each_chain
    (one r.entries_distinct
    (one r.entries_in_directories
    (one r.entries_lead_to_nodes
    (one r.counts_right
    (one r.first_node_right
    (one r.counts_fit
    (one r.holds_distinct
    (one r.holds_in_directories
    (one r.holds_of_listed
    (one r.ends_of_one_user
    (one r.processes_distinct
    (one r.names_valid
    (one r.roles_valid
    (one r.targets_valid none))))))))))))))

tree_facts : (t : Tables) → Rules t → Tree t.entries t.nodes
unfolding model.entries_distinct model.entries_in_directories model.entries_lead_to_nodes model.counts_right model.first_node_right model.counts_fit model.names_valid
    model.targets_valid
tree_facts t r =
    record {
      distinct_entries = r.entries_distinct;
      in_directory = used_meets free_entry _ t.entries r.entries_in_directories;
      leads = λ e m used. not_true _ (used_meets free_entry _ t.entries r.entries_lead_to_nodes e m used);
      named = used_meets free_entry _ t.entries (and_left _ _ r.names_valid);
      counted = λ n used. eqb-true _ _ (node_meets (λ k x. eqb x.count (leading_to t.entries k)) t.nodes r.counts_right n used);
      count_right = node_meets count_fits t.nodes r.counts_fit;
      target_right = used_meets free_node target_fits t.nodes r.targets_valid;
      top = and_left _ _ r.first_node_right;
      top_count = eqb-true _ _ (and_right (is_directory t.nodes 1) _ r.first_node_right);
    }

holding_facts : (t : Tables) → Rules t → Holding t.nodes t.processes t.holds
unfolding model.holds_distinct model.holds_in_directories model.holds_of_listed model.ends_of_one_user model.names_valid model.roles_valid
holding_facts t r =
    record {
      distinct_holds = r.holds_distinct;
      right = λ h m used.
          record {
            in_directory = used_meets free_hold _ t.holds r.holds_in_directories h m used;
            named =
                used_meets free_hold (λ k. valid_name k.place.name) t.holds
                (and_right (model.each_used free_entry (λ e. valid_name e.place.name) t.entries) _ r.names_valid) h m used;
            role = used_meets free_hold _ t.holds r.roles_valid h m used;
            holder = and_right (not (eqb h.process 0)) _ (used_meets free_hold _ t.holds r.holds_of_listed h m used);
            holder_numbered =
                eqb-false h.process 0
                (not_true _
                (and_left (not (eqb h.process 0)) (listed t.processes h.process)
                (used_meets free_hold (λ k. not (eqb k.process 0) && listed t.processes k.process) t.holds
                r.holds_of_listed h m used)));
          };
      one_user = λ h k m i used.
          agreed_users t.processes h k
          (all_in (agree t.processes h) t.holds
          (used_meets free_hold (λ y. all (agree t.processes y) t.holds) t.holds r.ends_of_one_user h m used) i);
    }

-- the test of soundness gives the facts
pub sound_facts : (t : Tables) → sound_rows t ≡ true → Sound t
unfolding model.processes_distinct
sound_facts t s =
    let r = rules t s in
    record { tree = tree_facts t r; holding = holding_facts t r; distinct_processes = r.processes_distinct }

-- and the facts make up the test
pub facts_sound : (t : Tables) → Sound t → sound_rows t ≡ true
unfolding model.entries_distinct model.entries_in_directories model.entries_lead_to_nodes model.counts_right model.first_node_right model.counts_fit model.names_valid
    model.targets_valid model.holds_distinct model.holds_in_directories model.holds_of_listed model.ends_of_one_user model.roles_valid model.processes_distinct
facts_sound t s =
    let tree = s.tree in
    let holding = s.holding in
    test t
    (record {
      entries_distinct = tree.distinct_entries;
      entries_in_directories = meets_used free_entry _ t.entries tree.in_directory;
      entries_lead_to_nodes = meets_used free_entry _ t.entries (λ e m used. rw (tree.leads e m used));
      counts_right =
          meets_node (λ k x. eqb x.count (leading_to t.entries k)) t.nodes (λ n used. eq-eqb _ _ (tree.counted n used));
      first_node_right = both tree.top (eq-eqb _ _ tree.top_count);
      counts_fit = meets_node count_fits t.nodes tree.count_right;
      holds_distinct = holding.distinct_holds;
      holds_in_directories = meets_used free_hold _ t.holds (λ h m used. (holding.right h m used).in_directory);
      holds_of_listed =
          meets_used free_hold _ t.holds
          (λ h m used. simp (ne_eqb h.process 0 (holding.right h m used).holder_numbered, (holding.right h m used).holder));
      ends_of_one_user =
          meets_used free_hold _ t.holds
          (λ h m used. in_all (agree t.processes h) t.holds (λ k i. agree_when t.processes h k (holding.one_user h k m i used)));
      processes_distinct = s.distinct_processes;
      names_valid =
          both (meets_used free_entry _ t.entries tree.named)
          (meets_used free_hold _ t.holds (λ h m used. (holding.right h m used).named));
      roles_valid = meets_used free_hold _ t.holds (λ h m used. (holding.right h m used).role);
      targets_valid = meets_used free_node target_fits t.nodes tree.target_right;
    })
