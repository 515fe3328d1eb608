-- run_plain: there is one outcome for each input, and no two bindings of a protocol share an endpoint.
use Rattle.napt_laws.proofs.{OneMoreInput.ran_long, Rows.rows_apart}
use Rattle.napt_sequential.proofs.run.run_plain.Goals as goal

pub returns-clause-one_each : goal.returns-clause-one_each
returns-clause-one_each c = rw c.in_ok-run.ensures.run (ran_long c.args.config.now c.args.inputs.now)

pub returns-clause-apart : goal.returns-clause-apart
returns-clause-apart c =
    rw c.in_ok-run.ensures.run
    (rows_apart c.runs_are_sound.ensures.apart c.args.config.now c.in_ok-run.ensures.kept c.args.inputs.now)
