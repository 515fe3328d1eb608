-- log_laws: the laws of logs by the effects of inputs are true for the log of the state.
use Rattle.napt_run.specs.Origins.{OriginModel, origin_of}
use Rattle.napt_run.proofs.log_start.log_laws.Goals as goal

pub returns : goal.returns
returns c log of =
    let origin : OriginModel = origin_of c.args.start in record {
      rows = λ each inputs. c.effects_have_the_rows.ensures origin.rules origin.state log each inputs;
      is_log = λ inputs. c.effects_are_the_log.ensures.log origin.rules origin.state log inputs;
      come = c.effects_are_the_log.ensures.come origin.rules c.pool-pool.ensures.kept c.args.start.state.now
          c.requires log of;
    }
