-- begin_and_run: the sinks get the headers, and then the records of the run.
use Rattle.std.proofs.{Common.{Ok, refl, sym, add-zero}, lemmas.Result.err_from_is_err_and}
use Rattle.napt_run.{specs.Origins.origin_of, proofs.{AfterHeaders.{none_read, unheaded}, OutputsAndLogOfRun.unbegun_logs}}
use Rattle.napt_run.proofs.start.RunSetting.begin_and_run.Goals as goal

pub returns-in_err-begin : goal.returns-in_err-begin
returns-in_err-begin g c =
    let p = err_from_is_err_and c.from_residual.result c.from_residual.ensures.1 in
    let failed = c.in_err-begin.ensures.err c.requires.new.sound in
    rw (p.1, p.2) (record {
      runs = unheaded (origin_of c.args.self.start) (g.R.Source.remaining c.args.inside.now)
          (g.Q.Source.remaining c.args.outside.now) c.args.both.now.leaving c.begin.new.self c.requires.new
          c.in_err-begin.field-0.0 failed;
      readings = λ not_run. (
        Ok tt,
        none_read c.args.both.now.leaving c.begin.new.self c.in_err-begin.field-0.0 failed,
        sym (add-zero (g.R.Source.failed c.args.inside.now)),
        sym (add-zero (g.Q.Source.failed c.args.outside.now)),
      );
      logs = unbegun_logs g.K.Told.LegTrace.tells g.G.Gate.is_open (origin_of c.args.self.start) g.K.StreamLog.enters
          g.K.StreamLog.fails g.K.StreamLog.is_settled (g.R.Source.remaining c.args.inside.now)
          (g.Q.Source.remaining c.args.outside.now) c.args.both.now.log.now
          (g.met.K.StreamLog.enters_none c.args.both.now.log.now)
          c.args.both.now.leaving c.begin.new.self c.in_err-begin.field-0.0 failed;
      same = refl;
    })

pub returns : goal.returns
returns g c = record {
  runs = c.run_over.ensures.runs c.args.both.now.leaving c.requires.new c.in_ok-begin.ensures.ok
      c.in_ok-begin.ensures.settled;
  readings = c.run_over.ensures.readings;
  logs = c.run_over.ensures.logs;
  same = c.run_over.ensures.same;
}
