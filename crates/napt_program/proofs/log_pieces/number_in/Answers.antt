-- number_in: a text that does not begin with the path of the log is not the name of a piece.
use Rattle.std.proofs.Common.{◌≡◌, ◌∙◌, ◌++◌, codes, decimal, ap, sym}
use Rattle.std.proofs.lemmas.List.{append_cancel_left}
use Rattle.napt_program.proofs.log_pieces.number_in.Goals as goal

pub returns-in-None-clause-each : goal.returns-in-None-clause-each
unfolding lib.Utf8.encode
returns-in-None-clause-each c = λ n some small is.
    let found = c.in-Some.ensures.cases in
    let rest = append_cancel_left c.args.log.now c.in-Some.rest.now (codes "." ++ decimal n)
    (ap (λ l. c.args.log.now ++ l) found.2 ∙ sym found.1.1 ∙ is) in
    absurd (c.in-None.ensures.cases (decimal n) rest)
