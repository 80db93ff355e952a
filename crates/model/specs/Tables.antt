-- Document 01, 'The lent tables': the four tables as lists of rows, and fresh ones. Assumes nothing.
use Rattle.std.specs.Prelude.{Bool, ◌&&◌, List, [], ◌∷◌, ℕ, zero, suc, eqb, get_or, replicate}
use Rattle.model.specs.Lists.{same, any, find}
use Rattle.model.specs.Paths.{Name}

-- The lent tables: a directory's node number and a name in it, by which an entry is found and on which a hold stands
pub record Place : Type 0 where
  pub directory : ℕ
  pub name : Name

-- The lent tables, an entry: its place, and the node that it leads to
pub record Entry : Type 0 where
  pub place : Place
  pub node : ℕ

-- The lent tables, a node: its kind, how many entries lead to it, a link's target
pub record Node : Type 0 where
  pub kind : ℕ
  pub count : ℕ
  pub target : List ℕ

-- The lent tables, a hold: its place, the process that has it, its role
pub record Hold : Type 0 where
  pub place : Place
  pub process : ℕ
  pub role : ℕ

-- The lent tables, a process: its number and its user
pub record Process : Type 0 where
  pub number : ℕ
  pub user : ℕ

-- The lent tables: the four, in the order of the words
pub record Tables : Type 0 where
  pub entries : List Entry
  pub nodes : List Node
  pub holds : List Hold
  pub processes : List Process

-- the tables with one of the four replaced
abbrev pub with_entries : Tables → List Entry → Tables
with_entries t x = record { entries = x; nodes = t.nodes; holds = t.holds; processes = t.processes }

abbrev pub with_nodes : Tables → List Node → Tables
with_nodes t x = record { entries = t.entries; nodes = x; holds = t.holds; processes = t.processes }

abbrev pub with_holds : Tables → List Hold → Tables
with_holds t x = record { entries = t.entries; nodes = t.nodes; holds = x; processes = t.processes }

abbrev pub with_processes : Tables → List Process → Tables
with_processes t x = record { entries = t.entries; nodes = t.nodes; holds = t.holds; processes = x }

-- The lent tables, nodes and holds: the kinds of used nodes, and the roles
abbrev pub a_file : ℕ
a_file = 1

abbrev pub a_directory : ℕ
a_directory = 2

abbrev pub a_link : ℕ
a_link = 3

abbrev pub end_role : ℕ
end_role = 1

abbrev pub element_role : ℕ
element_role = 2

-- The lent tables: free rows are all zeros
abbrev pub nowhere : Place
nowhere = record { directory = 0; name = [] }

abbrev pub no_entry : Entry
no_entry = record { place = nowhere; node = 0 }

abbrev pub no_node : Node
no_node = record { kind = 0; count = 0; target = [] }

abbrev pub no_hold : Hold
no_hold = record { place = nowhere; process = 0; role = 0 }

abbrev pub no_process : Process
no_process = record { number = 0; user = 0 }

-- The lent tables: what marks a free row of each table
unfoldable pub free_entry : Entry → Bool
free_entry e = eqb e.place.directory 0

unfoldable pub free_node : Node → Bool
free_node x = eqb x.kind 0

unfoldable pub free_hold : Hold → Bool
free_hold h = eqb h.place.directory 0

unfoldable pub free_process : Process → Bool
free_process q = eqb q.number 0

-- The lent tables, sound: two places are one where directory and name agree
unfoldable pub same_place : Place → Place → Bool
same_place a b = eqb a.directory b.directory && same a.name b.name

-- The lent tables: node n is row n - 1, and there is no node 0
unfoldable pub node_at : List Node → ℕ → Node
node_at nodes zero = no_node
node_at nodes (suc n) = get_or nodes n no_node

-- The lent tables: the node's kind is that of a directory
unfoldable pub is_directory : List Node → ℕ → Bool
is_directory nodes n = eqb (node_at nodes n).kind a_directory

-- Walking a path: the entry at a place
unfoldable pub at : Place → Entry → Bool
at q e = same_place e.place q

-- Walking a path: the node that the entry at a place leads to, 0 for an absence
unfoldable pub lookup : List Entry → Place → ℕ
lookup entries q = (find (at q) no_entry entries).node

-- The lent tables: the row of process p, and whether there is one
unfoldable pub is_process : ℕ → Process → Bool
is_process p q = eqb q.number p

unfoldable pub listed : List Process → ℕ → Bool
listed processes p = any (is_process p) processes

-- What the service covers: who calls is known by the process that calls
unfoldable pub user_of : List Process → ℕ → ℕ
user_of processes p = (find (is_process p) no_process processes).user

-- THE FOUR TABLES

-- The lent tables: how many rows each has

abbrev pub entry_rows : ℕ
entry_rows = 512

abbrev pub node_rows : ℕ
node_rows = 256

abbrev pub hold_rows : ℕ
hold_rows = 256

abbrev pub process_rows : ℕ
process_rows = 64

-- The lent tables: what stands behind node 1 in fresh ones
abbrev pub other_nodes : ℕ
other_nodes = 255

-- The lent tables: fresh ones have all rows free but node 1, a directory to which no entry leads
unfoldable pub fresh : Tables
fresh =
    record {
      entries = replicate entry_rows no_entry;
      nodes = record { kind = a_directory; count = 0; target = [] } ∷ replicate other_nodes no_node;
      holds = replicate hold_rows no_hold;
      processes = replicate process_rows no_process;
    }

unfoldable pub computing_tables : Unit {0}
unfolding free_entry free_node free_hold free_process same_place node_at is_directory at lookup is_process listed user_of fresh
computing_tables = tt
