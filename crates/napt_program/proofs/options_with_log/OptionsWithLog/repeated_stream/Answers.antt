-- repeated_stream: the first option that names a standard stream again is an option before the log, or the log.
use Rattle.std.proofs.Common.{◌∙◌, sym}
use Rattle.napt_program.proofs.LogLemmas.{again_behind, again_kept}
use Rattle.napt_program.proofs.options_with_log.OptionsWithLog.repeated_stream.Goals as goal

pub returns-in-Some-clause-again : goal.returns-in-Some-clause-again
returns-in-Some-clause-again c =
    sym (again_kept c.args.self.now c.in-Some.role (sym c.repeated_stream.ensures.again ∙ c.in-Some.is))

pub returns-in-None-clause-again : goal.returns-in-None-clause-again
returns-in-None-clause-again c =
    sym (again_behind c.args.self.now (sym c.repeated_stream.ensures.again ∙ c.in-None.is)
    (sym c.is_log_again.ensures.again ∙ c.if-is_log_again.true))
