-- state_from: a text that was saved contains no line that is refused, and a refused line is no misfit.
use Rattle.std.proofs.Common.{◌∙◌}
use Rattle.napt_program.proofs.StateLemmas.{unread}
use Rattle.napt_program.proofs.state_reading.state_from.Goals as goal

pub returns-in-Err-clause-whole : goal.returns-in-Err-clause-whole
returns-in-Err-clause-whole g c saved is told =
    unread c.in-Err.fault.reason _ _ (λ same. cc) (c.in-Err.ensures.read saved is (c.in_ok-reader.ensures.tells ∙ told))
    c.stop_of_state.ensures.unread

pub returns-in-Err-clause-misfit : goal.returns-in-Err-clause-misfit
returns-in-Err-clause-misfit g c text told = c.stop_of_state.ensures.misfit c.args.ends_misfits c.args.config.now text
