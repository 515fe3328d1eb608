-- run: the outcomes, the bindings and the numbers of legs are those of the definition.
use Rattle.napt_rules.specs.Prelude.{initial_state, run_result}
use Rattle.napt_sequential.proofs.SequentialRuns.{is_ran}
use Rattle.napt_sequential.proofs.run.run.Goals as goal

pub returns-clause-run : goal.returns-clause-run
unfolding run_result
returns-clause-run c =
    let stands = c.in_ok-outcomes.ensures.stands in
    is_ran c.args.config.now (initial_state c.args.config.now) c.args.inputs.now c.in_ok-outcomes.outcomes.items
    c.in_ok-bindings.bindings.items c.in_ok-legs.legs.items c.in_ok-outcomes.ensures.outcomes
    (c.in_ok-bindings.ensures c.args.config.now (initial_state c.args.config.now) c.args.inputs.now stands)
    (c.in_ok-legs.ensures c.args.config.now (initial_state c.args.config.now) c.args.inputs.now stands)
