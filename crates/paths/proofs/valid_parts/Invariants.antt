-- `paths::valid_parts` meets its contract. The loop's invariant: from `start` on no slash and no 0 has been read, and the parts there are
-- valid just if all are. Assumes nothing.
use mathlib.Core.Path.{◌≡◌}
use mathlib.Core.Bool.{true}
use Prim.Native.Nat.{◌≤◌, ◌-◌}
use lib.ListN.{take, drop}
use Rattle.model.specs.Lists.{all}
use Rattle.model.specs.Paths.{parts, name_byte, valid_name}
use Rattle.paths.proofs.valid_parts.Given as goal

abbrev pub invariant-loop-at : goal.invariant-loop-at
invariant-loop-at l =
    record {
      behind_slash : l.start ≤ l.at;
      name_bytes : all name_byte (take (l.at - l.start) (drop l.start l.path)) ≡ true;
      same_answer : all valid_name (parts l.path) ≡ all valid_name (parts (drop l.start l.path));
    }
