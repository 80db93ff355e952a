-- Document 01, 'The lent tables', what sound tables are: each rule by itself, in the order of the text. Assumes nothing.
use Rattle.std.specs.Prelude.{Bool, true, false, not, ◌&&◌, ◌||◌, List, ℕ, eqb, leb}
use Rattle.model.specs.Lists.{same, empty, all, all_from, count, distinct}
use Rattle.model.specs.Paths.{valid_name, valid_target}
use Rattle.model.specs.Tables.{Entry, Node, Hold, Process, Tables, a_link, a_directory, end_role, element_role, free_entry, free_node, free_hold, free_process, same_place, node_at, is_directory, listed, user_of}
use Rattle.model.specs.Words.{pack, unpack}

-- Sound tables: every row that is not free passes
unfoldable pub each_used : {A : Type 0} → (A → Bool) → (A → Bool) → List A → Bool
each_used free f rows = all (λ x. free x || f x) rows

-- Sound tables: every used node passes; the test is told its number
unfoldable pub each_node : (ℕ → Node → Bool) → List Node → Bool
each_node f nodes = all_from 1 (λ n x. free_node x || f n x) nodes

-- Sound tables: entries with distinct directory and name
unfoldable pub same_entry : Entry → Entry → Bool
same_entry a b = same_place a.place b.place

unfoldable pub entries_distinct : Tables → Bool
entries_distinct t = distinct free_entry same_entry t.entries

-- Sound tables: each entry in a directory node
unfoldable pub entries_in_directories : Tables → Bool
entries_in_directories t = each_used free_entry (λ e. is_directory t.nodes e.place.directory) t.entries

-- Sound tables: each entry leads to a used node
unfoldable pub entries_lead_to_nodes : Tables → Bool
entries_lead_to_nodes t = each_used free_entry (λ e. not (free_node (node_at t.nodes e.node))) t.entries

-- Sound tables: a node's entry count is the number of entries that lead to it
unfoldable pub leading_to : List Entry → ℕ → ℕ
leading_to entries n = count (λ e. eqb e.node n) entries

unfoldable pub counts_right : Tables → Bool
counts_right t = each_node (λ n x. eqb x.count (leading_to t.entries n)) t.nodes

-- Sound tables: node 1 is a directory, with count 0
unfoldable pub first_node_right : Tables → Bool
first_node_right t = is_directory t.nodes 1 && eqb (node_at t.nodes 1).count 0

-- Sound tables: other directories have count 1, files and links 1 or more
unfoldable pub count_fits : ℕ → Node → Bool
count_fits n x = eqb n 1 || elim (eqb x.kind a_directory) [ true ↦ eqb x.count 1 | false ↦ leb 1 x.count ]

unfoldable pub counts_fit : Tables → Bool
counts_fit t = each_node count_fits t.nodes

-- Sound tables: no process has a hold twice in the same role on the same place
unfoldable pub same_hold : Hold → Hold → Bool
same_hold a b = eqb a.process b.process && eqb a.role b.role && same_place a.place b.place

unfoldable pub holds_distinct : Tables → Bool
holds_distinct t = distinct free_hold same_hold t.holds

-- Sound tables: holds in a directory node
unfoldable pub holds_in_directories : Tables → Bool
holds_in_directories t = each_used free_hold (λ h. is_directory t.nodes h.place.directory) t.holds

-- Sound tables: holds of a listed process; 0 marks free rows and is no process
unfoldable pub holds_of_listed : Tables → Bool
holds_of_listed t = each_used free_hold (λ h. not (eqb h.process 0) && listed t.processes h.process) t.holds

-- Sound tables: end holds on one place are of one user, whatever processes have them
unfoldable pub is_end : Hold → Bool
is_end h = eqb h.role end_role

unfoldable pub agree : List Process → Hold → Hold → Bool
agree processes h k =
    not (is_end h && is_end k && same_place h.place k.place)
    || eqb (user_of processes h.process) (user_of processes k.process)

unfoldable pub ends_of_one_user : Tables → Bool
ends_of_one_user t = each_used free_hold (λ h. all (agree t.processes h) t.holds) t.holds

-- Sound tables: distinct processes
unfoldable pub same_process : Process → Process → Bool
same_process a b = eqb a.number b.number

unfoldable pub processes_distinct : Tables → Bool
processes_distinct t = distinct free_process same_process t.processes

-- Sound tables: valid names, roles and targets, and a target for links only
unfoldable pub names_valid : Tables → Bool
names_valid t =
    each_used free_entry (λ e. valid_name e.place.name) t.entries
    && each_used free_hold (λ h. valid_name h.place.name) t.holds

unfoldable pub roles_valid : Tables → Bool
roles_valid t = each_used free_hold (λ h. eqb h.role end_role || eqb h.role element_role) t.holds

unfoldable pub target_fits : Node → Bool
target_fits x = elim (eqb x.kind a_link) [ true ↦ valid_target x.target | false ↦ empty x.target ]

unfoldable pub targets_valid : Tables → Bool
targets_valid t = each_used free_node target_fits t.nodes

-- Sound tables: all the rules that speak of rows
unfoldable pub sound_rows : Tables → Bool
sound_rows t =
    entries_distinct t && entries_in_directories t && entries_lead_to_nodes t && counts_right t && first_node_right t && counts_fit t
    && holds_distinct t && holds_in_directories t && holds_of_listed t && ends_of_one_user t && processes_distinct t && names_valid t
    && roles_valid t && targets_valid t

-- Sound tables: the words are just those of the rows that they hold, so that there are 8,512 of them, and free rows, zero bits and the filling
-- of names and targets are zeros
unfoldable pub exact : List ℕ → Tables → Bool
exact w t = same w (pack t)

-- Sound tables: the words and the rows, which are given so that they are unpacked once
unfoldable pub sound_with : List ℕ → Tables → Bool
sound_with w t = exact w t && sound_rows t

-- Numbers given back, 1 does not apply: the words are sound tables
unfoldable pub sound : List ℕ → Bool
sound w = sound_with w (unpack w)

unfoldable pub computing_sound : Unit {0}
unfolding each_used each_node same_entry entries_distinct entries_in_directories entries_lead_to_nodes leading_to counts_right first_node_right
    count_fits counts_fit same_hold holds_distinct holds_in_directories holds_of_listed is_end agree ends_of_one_user same_process processes_distinct
    names_valid roles_valid target_fits targets_valid sound_rows exact sound_with sound
computing_sound = tt
