-- seconds_in: the seconds are those of the option, or none without it.
use Rattle.std.proofs.Common.{◌∙◌, Some, ap, sym}
use Rattle.napt_program.proofs.LineLemmas.{no_seconds_named, seconds_named}
use Rattle.napt_program.proofs.options.seconds_in.Goals as goal

pub returns-in_err-get_str-clause-value : goal.returns-in_err-get_str-clause-value
returns-in_err-get_str-clause-value c =
    c.from_residual.ensures ∙ no_seconds_named c.args.takes_log c.args.matches.now (sym c.in_err-get_str.ensures)

pub returns-in_ok-get_str-clause-value : goal.returns-in_ok-get_str-clause-value
returns-in_ok-get_str-clause-value c =
    ap Some c.seconds_of.ensures
    ∙ seconds_named c.args.takes_log c.args.matches.now c.in_ok-get_str.field-0.now c.if-takes_log.true
    (sym c.in_ok-get_str.ensures)
