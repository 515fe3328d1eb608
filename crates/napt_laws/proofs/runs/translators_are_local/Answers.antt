-- `translators_are_local`: a translator of one address has the answers and the bindings of the run there.
use Rattle.napt_laws.proofs.RunsLocal.{translators_answer_from, translators_keep_from, translators_hold_from}
use Rattle.napt_laws.proofs.runs.translators_are_local.Goals as goal

pub returns-clause-answers : goal.returns-clause-answers
returns-clause-answers c = translators_answer_from

pub returns-clause-keeps : goal.returns-clause-keeps
returns-clause-keeps c = translators_keep_from

pub returns-clause-holds : goal.returns-clause-holds
returns-clause-holds c = translators_hold_from
