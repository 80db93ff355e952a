-- `lines::put_line_around` meets its contract: four runs of bytes, one behind the other. Assumes nothing.
use Rattle.lines.proofs.LineBytes.{place_fits, word_fits, number_fits, end_fits, puts_line}
use Rattle.lines.proofs.put_line_around.Goals as goal

pub put_digits-word_at-requires : goal.put_digits-word_at-requires
put_digits-word_at-requires c = place_fits _ c.args.word.now c.args.number c.args.out.now c.requires

pub put_text-number_at-requires : goal.put_text-number_at-requires
put_text-number_at-requires c = word_fits _ _ c.args.number _ c.requires c.put_digits-word_at.ensures

pub put_digits-end-requires : goal.put_digits-end-requires
put_digits-end-requires c = number_fits _ _ c.args.number _ c.requires c.put_digits-word_at.ensures c.put_text-number_at.ensures

pub put_byte-requires : goal.put_byte-requires
put_byte-requires c = end_fits _ _ _ _ c.requires c.put_digits-word_at.ensures c.put_text-number_at.ensures c.put_digits-end.ensures

pub returns : goal.returns
returns c =
    puts_line _ _ _ _ c.requires c.put_digits-word_at.ensures c.put_text-number_at.ensures c.put_digits-end.ensures
    c.put_byte.ensures
