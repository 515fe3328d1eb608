-- log_attributes: the log lists the live bindings, since its entries are those of the state, and therefore names them.
use Rattle.napt_account.proofs.Attribution.{log_lists, log_names}
use Rattle.napt_binding.proofs.FirstEnds.{ends_are_first}
use Rattle.napt_account.proofs.log.log_attributes.Goals as goal

pub returns-clause-ends : goal.returns-clause-ends
returns-clause-ends c = ends_are_first

pub returns-clause-names : goal.returns-clause-names
returns-clause-names c =
    log_names (log_lists c.taken_states_are_kept.ensures.sound c.runs_go_on.ensures.alike)

pub returns-clause-lists : goal.returns-clause-lists
returns-clause-lists c = log_lists c.taken_states_are_kept.ensures.sound c.runs_go_on.ensures.alike
