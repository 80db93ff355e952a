-- The rules of sound tables over rows as the code groups them. Assumes nothing.
use Rattle.std.specs.Prelude.{Bool, ◌&&◌}
use Rattle.model.specs.Tables.{Tables}
use Rattle.model.specs.Sound.{entries_in_directories, entries_lead_to_nodes, counts_right, first_node_right, counts_fit, holds_distinct, holds_in_directories, holds_of_listed, ends_of_one_user, processes_distinct}

-- entries and the nodes that they lead to
abbrev pub tree_rules : Tables → Bool
tree_rules t = (entries_in_directories t && entries_lead_to_nodes t) && (first_node_right t && (counts_right t && counts_fit t))

-- processes, and holds
abbrev pub hold_rules : Tables → Bool
hold_rules t = processes_distinct t && ((holds_in_directories t && holds_of_listed t) && (holds_distinct t && ends_of_one_user t))
