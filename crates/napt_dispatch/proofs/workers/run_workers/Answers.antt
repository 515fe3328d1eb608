-- run_workers: the results of dispatching and of the joined workers are the sequential run.
use Rattle.std.{proofs.{Common.{◌≡◌, List, length, map, refl, sym, ap, subst, ◌∙◌}, lemmas.Result.IfOk-at_ok}, specs.Prelude.AllPairs}
use Rattle.napt_config.specs.Rules.{Rules}
use Rattle.napt_rules.specs.Prelude.{RunResult, run_result, initial_state, AreRowsApart}
use Rattle.napt_pool.specs.Pools.{initial_machines, accepted_items}
use Rattle.napt_laws.proofs.{Rows.rows_apart, OneMoreInput.ran_long}
use Rattle.napt_dispatch.{specs.Dispatch.started_translators, proofs.ClosedWorkers.{on_ok_at, rows_shown, started_anew, workers_shown}}
use Rattle.napt_dispatch.proofs.workers.run_workers.Goals as goal

pub dispatch-dispatched-requires-clause-started : goal.dispatch-dispatched-requires-clause-started
dispatch-dispatched-requires-clause-started g c =
    started_anew c.args.config.now _ _ refl c.new.ensures.items c.in_ok-pool.ensures.started

pub returns-clause-run : goal.returns-clause-run
unfolding run_result
returns-clause-run g c =
    let rules : Rules = c.args.config.now in
    let given = c.in_ok-outcomes.ensures.given in
    let pool = c.dispatch-dispatched.new.pool in
    let began : initial_machines pool ≡ started_translators rules (length rules.pool) =
    c.dispatch-dispatched.ensures.starts ∙ started_anew rules _ _ refl c.new.ensures.items c.in_ok-pool.ensures.started
    in
    let settled = on_ok_at _ _ given c.dispatch-dispatched.ensures.settled in
    let answered = c.in_ok-outcomes.ensures.settled settled in
    workers_shown _ rules (initial_state rules) c.args.inputs.now (initial_machines pool) (accepted_items pool)
    (map (λ e. e.machine) c.in_ok-outcomes.ended.items) c.in_ok-outcomes.outcomes.items c.in_ok-outcomes.legs.items
    began c.in_ok-outcomes.ensures.machines (IfOk-at_ok _ given c.dispatch-dispatched.ensures.run answered)
    c.last_clock.result c.last_clock.ensures (λ s. refl) (λ s leg legs. refl) c.in_ok-bindings.bindings.items
    (rows_shown _ _ _ _ c.in_ok-bindings.ensures c.deref.ensures.value)

pub returns-clause-one_each : goal.returns-clause-one_each
returns-clause-one_each g c =
    ap (λ (r : RunResult). length r.outcomes) (returns-clause-run g c) ∙ ran_long c.args.config.now c.args.inputs.now

pub returns-clause-apart : goal.returns-clause-apart
returns-clause-apart g c =
    subst (λ (r : RunResult). AllPairs AreRowsApart r.bindings) (sym (returns-clause-run g c))
    (rows_apart c.runs_are_sound.ensures.apart c.args.config.now c.pool-pool.ensures.kept c.args.inputs.now)
