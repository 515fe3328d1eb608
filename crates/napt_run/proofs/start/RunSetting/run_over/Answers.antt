-- run_over: a header that is refused, or cannot be read, is the fault; otherwise the run begins after both headers.
use Rattle.std.proofs.{Common.{ℕ, List, Option, add-zero, sym, refl, Err}, lemmas.Result.err_from_is_err_and}
use Rattle.napt_wire.specs.declared.Side.TheVariants as sides
use Rattle.napt_records.specs.declared.Fault.TheVariants.{Capture}
use Rattle.napt_run.{specs.Captures.failed_readings, proofs.{AfterHeaders.unread, OutputsAndLogOfRun.unread_logs}}
use Rattle.napt_run.proofs.Headers.{header_of, inside_refused, more_after, none_taken, outside_refused}
use Rattle.napt_run.specs.Origins.{origin_of}
use Rattle.napt_run.proofs.start.RunSetting.run_over.Goals as goal

pub returns-in_err-ours : goal.returns-in_err-ours
returns-in_err-ours g c =
    let p = err_from_is_err_and c.from_residual.result c.from_residual.ensures.1 in
    let inside : Option (List ℕ) = g.R.Source.remaining c.args.inside.now in
    let outside : Option (List ℕ) = g.Q.Source.remaining c.args.outside.now in
    let read = c.in_err-ours.ensures in
    let (fault, is, heads) = header_of sides.Inside c.in_err-ours.field-0.0 _ _ read.fault in
    let none = none_taken inside outside sides.Inside fault (inside_refused _ _ _ fault heads) in
    rw (p.1, p.2) (record {
      runs = λ begun new begins settled. rw is (unread (origin_of c.args.self.start) inside outside begun
          c.args.both.now.leaving begins settled sides.Inside fault none);
      readings = λ not_run. rw is (
        Err (Capture sides.Inside fault),
        refl,
        rw is at read.count,
        sym (add-zero (g.Q.Source.failed c.args.outside.now)),
      );
      logs = rw is (unread_logs g.K.Told.LegTrace.tells g.G.Gate.is_open (origin_of c.args.self.start)
          g.K.StreamLog.enters g.K.StreamLog.fails g.K.StreamLog.is_settled inside outside c.args.both.now.log.now
          (g.met.K.StreamLog.enters_none c.args.both.now.log.now) c.requires.log sides.Inside fault none);
      same = refl;
    })

pub returns-in_err-theirs : goal.returns-in_err-theirs
returns-in_err-theirs g c =
    let p = err_from_is_err_and c.from_residual-in_err-theirs.result c.from_residual-in_err-theirs.ensures.1 in
    let inside : Option (List ℕ) = g.R.Source.remaining c.args.inside.now in
    let outside : Option (List ℕ) = g.Q.Source.remaining c.args.outside.now in
    let read = c.in_err-theirs.ensures in
    let (fault, is, heads) = header_of sides.Outside c.in_err-theirs.field-0.0 _ _ read.fault in
    let none = none_taken inside outside sides.Outside fault
    (outside_refused _ _ _ _ _ fault c.in_ok-ours.ensures.header.header heads) in
    rw (p.1, p.2) (record {
      runs = λ begun new begins settled. rw is (unread (origin_of c.args.self.start) inside outside begun
          c.args.both.now.leaving begins settled sides.Outside fault none);
      readings = λ not_run. rw is (
        Err (Capture sides.Outside fault),
        refl,
        c.in_ok-ours.ensures.count,
        rw is at read.count,
      );
      logs = rw is (unread_logs g.K.Told.LegTrace.tells g.G.Gate.is_open (origin_of c.args.self.start)
          g.K.StreamLog.enters g.K.StreamLog.fails g.K.StreamLog.is_settled inside outside c.args.both.now.log.now
          (g.met.K.StreamLog.enters_none c.args.both.now.log.now) c.requires.log sides.Outside fault none);
      same = refl;
    })

pub returns-clause-runs : goal.returns-clause-runs
returns-clause-runs g c begun new begins settled =
    c.run_after_headers.ensures.runs (g.R.Source.remaining c.args.inside.now)
    (g.Q.Source.remaining c.args.outside.now) begun c.in_ok-ours.ensures.header c.in_ok-theirs.ensures.header new begins

pub returns-clause-readings : goal.returns-clause-readings
returns-clause-readings g c not_run =
    let (read, is, ours, theirs) = c.run_after_headers.ensures.readings not_run in (
      read,
      is,
      more_after _ _ _ (failed_readings sides.Inside read) c.in_ok-ours.ensures.count ours,
      more_after _ _ _ (failed_readings sides.Outside read) c.in_ok-theirs.ensures.count theirs,
    )

pub returns-clause-logs : goal.returns-clause-logs
returns-clause-logs g c =
    c.run_after_headers.ensures.logs (g.R.Source.remaining c.args.inside.now)
    (g.Q.Source.remaining c.args.outside.now) c.in_ok-ours.ensures.header c.in_ok-theirs.ensures.header
