-- config_text: a text that is not longer than the limit contains all bytes of the reader.
use Rattle.std.proofs.Common.{◌≤◌, length, arith}
use Rattle.napt_program.proofs.ConfigLemmas.{all_is_told}
use Rattle.napt_program.proofs.config_file.config_text.Goals as goal

pub returns-in-Ok-clause-told : goal.returns-in-Ok-clause-told
returns-in-Ok-clause-told g c =
    let text = c.read_to_end.new.buf.items in
    let short : length text ≤ 67108864 = omega arith in
    all_is_told (g.D.Read.remaining c.args.device) text c.new-text.result.items 67108864 c.take.result.limit
    c.new-text.ensures.items c.take.ensures.limit short (rw (← c.take.ensures.inner) c.in-Ok.ensures.bytes)
