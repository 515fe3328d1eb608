-- last_row: the result is the bytes after the last line feed, or all bytes.
use Rattle.std.proofs.Common.{rules}
use Rattle.std.proofs.lemmas.List.{take_rest}
use Rattle.napt_program.proofs.LogRowLemmas.{last_row_behind, last_row_whole}
use Rattle.napt_program.proofs.log_file.last_row.Goals as goal

pub returns-in-Some : goal.returns-in-Some
returns-in-Some c =
    rw (last_row_behind c.args.text.now c.in-Some.place (search rules) (search rules) (search rules))
    (search (rules, take_rest))

pub returns-in-None : goal.returns-in-None
returns-in-None c = rw (last_row_whole c.args.text.now (search rules)) (search rules)
