-- pass: the run translates all inputs of the merged captures.
use Rattle.napt_run.specs.Origins.{origin_of}
use Rattle.napt_run.proofs.OutputsAndLogOfRun.{departed}
use Rattle.napt_run.proofs.start.RunSetting.pass.Goals as goal

pub returns-in-Err-Departure-clause-outputs : goal.returns-in-Err-Departure-clause-outputs
returns-in-Err-Departure-clause-outputs g c =
    let ran = rw c.in-Err-Departure.field-0-is at c.in-Err-Departure.ensures in
    (departed g.K.Told.LegTrace.tells g.K.StreamLog.enters g.K.StreamLog.fails g.K.StreamLog.is_settled
    g.G.Gate.is_open (origin_of c.args.self.start) c.args.inputs.now c.args.both.now.leaving c.run_all.new.inputs
    c.run_all.new.both.leaving c.args.both.now.log.now c.run_all.new.both.log.now c.in-Err-Departure.fault ran.outputs
    ran.log).0

pub returns-in-Err-Departure-clause-log : goal.returns-in-Err-Departure-clause-log
returns-in-Err-Departure-clause-log g c =
    let ran = rw c.in-Err-Departure.field-0-is at c.in-Err-Departure.ensures in
    (departed g.K.Told.LegTrace.tells g.K.StreamLog.enters g.K.StreamLog.fails g.K.StreamLog.is_settled
    g.G.Gate.is_open (origin_of c.args.self.start) c.args.inputs.now c.args.both.now.leaving c.run_all.new.inputs
    c.run_all.new.both.leaving c.args.both.now.log.now c.run_all.new.both.log.now c.in-Err-Departure.fault ran.outputs
    ran.log).1
