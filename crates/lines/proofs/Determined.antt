-- The contract of `put_line` leaves one length and one content of the slice. Assumes nothing.
use mathlib.Core.Path.{sym, ◌∙◌}
use Rattle.laws.proofs.Results.{OneResult, OneExit}
use Rattle.lines.proofs.put_line.Kinds as put_line_kinds
use Rattle.lines.proofs.put_line.Reads as put_line_reads

pub put_line_determined : OneResult 1 put_line_kinds.ps put_line_kinds.r put_line_reads.Post
put_line_determined κs a x y s t p q = p.end_is ∙ sym q.end_is

-- the slice is the first parameter
pub put_line_exit_determined : OneExit 1 put_line_kinds.ps put_line_kinds.r put_line_reads.Post (λ κs s. s.0.now)
put_line_exit_determined κs a x y s t p q = p.bytes_are ∙ sym q.bytes_are
