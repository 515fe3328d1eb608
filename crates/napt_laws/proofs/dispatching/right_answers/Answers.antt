-- `right_answers`: right answers are those of the run, remain so for more inputs, and give its outcomes.
use Rattle.napt_laws.proofs.DispatchLaws as lemmas
use Rattle.napt_laws.proofs.dispatching.right_answers.Goals as goal

pub returns-clause-right : goal.returns-clause-right
returns-clause-right c = lemmas.right_answers

pub returns-clause-grow : goal.returns-clause-grow
returns-clause-grow c = lemmas.runs_grow

pub returns-clause-told : goal.returns-clause-told
returns-clause-told c = lemmas.answers_tell

pub returns-clause-foretold : goal.returns-clause-foretold
returns-clause-foretold c =
    lemmas.foretold c.packets_keep_their_way.ensures.packets c.packets_keep_their_way.ensures.errors
