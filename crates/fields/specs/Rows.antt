-- The rows of the model's table of calls, as the code has them, and back. Assumes nothing.
use Rattle.std.specs.Prelude.{Bool, true, false}
use Rattle.model.specs.Records as model
use Rattle.model.specs.Records.{process_class, check_class, use_class, creation_class, removal_class, blank, path, target}
use Rattle.fields.specs.declared.table.Class.{Class}
use Rattle.fields.specs.declared.table.Class.TheVariants.{Unknown, Process, Check, Use, Creation, Removal}
use Rattle.fields.specs.declared.table.Wanted.{Wanted}
use Rattle.fields.specs.declared.table.Wanted.TheVariants.{Blank, Path, Target}
use Rattle.fields.specs.declared.table.Row.{Row}

-- the class by which the code has a row; none of the model's where there is no such call
unfoldable pub coded_class : Bool → model.Class → Class
coded_class false c = Unknown
coded_class true process_class = Process
coded_class true check_class = Check
coded_class true use_class = Use
coded_class true creation_class = Creation
coded_class true removal_class = Removal

-- whether there is a call of this class
unfoldable pub is_call : Class → Bool
is_call Unknown = false
is_call Process = true
is_call Check = true
is_call Use = true
is_call Creation = true
is_call Removal = true

unfoldable pub coded_cell : model.Wanted → Wanted
coded_cell blank = Blank
coded_cell path = Path
coded_cell target = Target

unfoldable pub coded_row : model.Row → Row
coded_row r =
    record {
      0 = coded_class r.there r.class;
      1 = r.argument;
      2 = coded_cell r.path1;
      3 = coded_cell r.path2;
    }

-- what a cell of the code asks for
unfoldable pub meant : Wanted → model.Wanted
meant Blank = blank
meant Path = path
meant Target = target
