-- `lines::put_line` meets its contract: each word with its spaces, and the number's digits. Assumes nothing.
use native.Mathlib.Omega.{arith}
use Rattle.lines.proofs.LineBytes.{held_line, seen_line, done_line, refused_line, same_fits, puts_same}
use Rattle.lines.proofs.put_line.Goals as goal

pub put_line_around-requires : goal.put_line_around-requires
put_line_around-requires c = same_fits (held_line _ c.from.ensures (omega arith) c.in-Held.is) c.requires

pub put_line_around-requires-in-Seen : goal.put_line_around-requires-in-Seen
put_line_around-requires-in-Seen c = same_fits (seen_line _ c.from-in-Seen.ensures (omega arith) c.in-Seen.is) c.requires

pub put_line_around-requires-in-Done : goal.put_line_around-requires-in-Done
put_line_around-requires-in-Done c = same_fits (done_line _ c.from-in-Done.ensures (omega arith) c.in-Done.is) c.requires

pub put_line_around-requires-in-Refused : goal.put_line_around-requires-in-Refused
put_line_around-requires-in-Refused c = same_fits (refused_line _ c.from-in-Refused.ensures (omega arith) c.in-Refused.is) c.requires

pub returns-in-Held : goal.returns-in-Held
returns-in-Held c =
    puts_same (held_line _ c.from.ensures (omega arith) c.in-Held.is)
    c.put_line_around.ensures

pub returns-in-Seen : goal.returns-in-Seen
returns-in-Seen c =
    puts_same (seen_line _ c.from-in-Seen.ensures (omega arith) c.in-Seen.is)
    c.put_line_around-in-Seen.ensures

pub returns-in-Done : goal.returns-in-Done
returns-in-Done c =
    puts_same (done_line _ c.from-in-Done.ensures (omega arith) c.in-Done.is)
    c.put_line_around-in-Done.ensures

pub returns-in-Refused : goal.returns-in-Refused
returns-in-Refused c =
    puts_same (refused_line _ c.from-in-Refused.ensures (omega arith) c.in-Refused.is)
    c.put_line_around-in-Refused.ensures
