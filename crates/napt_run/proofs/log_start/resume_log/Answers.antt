-- resume_log: the log is that of the state, and its text begins as the definition says.
use Rattle.std.proofs.Common.{◌∙◌}
use Rattle.napt_log_text.specs.Logs.{LogOrigin, first_text}
use Rattle.napt_run.proofs.log_start.resume_log.Goals as goal

pub returns : goal.returns
returns c =
    let started = c.in_ok-started.ensures in
    record {
      of = (c.started_logs_go_on.ensures.states c.args.start.config.now c.pool-pool.ensures.kept
          c.args.start.state.now c.requires.taken c.args.log_start.saved.now c.requires.saved).0;
      known = started.log;
      opening = c.in_ok-opening.ensures ∙ (λ i. first_text c.args.start.config.now (let origin : LogOrigin = record {
        before = started.before i;
        log = (started.log i).log;
        told = started.first i;
        is_new = c.args.log_start.is_new;
      } in origin));
    }
