-- run_all: the outputs took, and the log recorded, all that left during the run.
use Rattle.napt_run.proofs.OutputsAndLogOfRun.{enters_by, passes_by, same_place}
use Rattle.napt_run.specs.Origins.{origin_of}
use Rattle.napt_run.proofs.start.RunSetting.run_all.Goals as goal

pub returns-clause-outputs : goal.returns-clause-outputs
returns-clause-outputs g c =
    passes_by g.K.Told.LegTrace.tells (origin_of c.args.self.start) g.A.InputSource.hands g.A.InputSource.ends
    g.K.StreamLog.enters
    g.K.StreamLog.fails g.K.StreamLog.is_settled g.met.K.StreamLog.enters_more g.met.K.StreamLog.fails_more
    c.args.inputs.now c.args.both.now c.run_through.new.arrivals c.run_through.new.departures c.run_through.result
    c.run_through.ensures.passes

pub returns-clause-log : goal.returns-clause-log
returns-clause-log g c =
    enters_by g.K.Told.LegTrace.tells (origin_of c.args.self.start) g.A.InputSource.hands g.A.InputSource.ends
    g.K.StreamLog.enters
    g.K.StreamLog.fails g.K.StreamLog.is_settled g.met.K.StreamLog.enters_more g.met.K.StreamLog.fails_more
    c.args.inputs.now c.args.both.now c.run_through.new.arrivals c.run_through.new.departures c.run_through.result
    c.run_through.ensures.passes

pub returns-clause-same : goal.returns-clause-same
returns-clause-same g c =
    same_place g.K.Told.LegTrace.tells (origin_of c.args.self.start) g.A.InputSource.hands g.A.InputSource.ends
    g.K.StreamLog.enters
    g.K.StreamLog.fails g.K.StreamLog.is_settled g.met.K.StreamLog.enters_more g.met.K.StreamLog.fails_more
    c.args.inputs.now c.args.both.now c.run_through.new.arrivals c.run_through.new.departures c.run_through.result
    c.run_through.ensures.passes
