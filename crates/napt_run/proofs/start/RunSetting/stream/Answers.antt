-- stream: each output has its part of its text, and the log was closed, or flushed after a fault.
use Rattle.std.proofs.{Common.{List, ℕ, Option, inl, inr, refl}, lemmas.Result.err_from_is_err_and}
use Rattle.napt_records.specs.declared.Which.TheVariants.{Outside, Inside}
use Rattle.napt_run.{specs.Origins.{OriginModel, origin_of}, proofs.{OutputsAndLogOfRun.before_report, BytesAtEnd.{capture_ended, inside_is, of_text, outside_is}}}
use Rattle.napt_run.proofs.start.RunSetting.stream.Goals as goal

-- The log could not be opened.
pub returns-in_err-open : goal.returns-in_err-open
returns-in_err-open g c =
    let p = err_from_is_err_and c.from_residual.result c.from_residual.ensures.1 in
    let inside : Option (List ℕ) = g.R.Source.remaining c.args.inside.now in
    let outside : Option (List ℕ) = g.Q.Source.remaining c.args.outside.now in
    let fault = c.in_err-open.field-0.0 in
    let text = of_text g.K.StreamLog.is_kept g.G.Gate.is_open inside outside fault c.in_err-open.ensures.text in
    rw (p.1, p.2) (record {
      to_outside = inr (text.kept, text.of_run, refl);
      to_inside = inr (text.kept, text.of_run, refl);
      log = c.in_err-open.ensures.err (origin_of c.args.self.start) inside outside c.requires.ready;
      told = tt;
      fault = text.explained;
      unreported = text.before;
      reads = λ not_run. absurd (not_run text.of_run);
    })

-- Otherwise the log could not be closed.
pub returns-in_err-left-in-Ok : goal.returns-in_err-left-in-Ok
returns-in_err-left-in-Ok g c =
    let residual = c.from_residual-in_err-left-in-Ok in
    let p = err_from_is_err_and residual.result residual.ensures.1 in
    let origin : OriginModel = origin_of c.args.self.start in
    let inside : Option (List ℕ) = g.R.Source.remaining c.args.inside.now in
    let outside : Option (List ℕ) = g.Q.Source.remaining c.args.outside.now in
    let fault = c.in_err-left-in-Ok.field-0.0 in
    let closed = c.in_err-left-in-Ok.ensures in
    let text = of_text g.K.StreamLog.is_kept g.G.Gate.is_open inside outside fault closed.text in
    let ran = c.in-Ok.ensures in
    rw (p.1, p.2) (record {
      to_outside = inl (capture_ended g.W.Sink origin inside outside Outside outside_is _ _ fault text.end
          ran.to_outside);
      to_inside = inl (capture_ended g.V.Sink origin inside outside Inside inside_is _ _ fault text.end ran.to_inside);
      log = closed.post origin inside outside c.args.log.now c.open.new.self c.in-Ok.totals.cuts c.requires.ready
          c.in_ok-open.ensures.ok ran.logs;
      told = tt;
      fault = text.explained;
      unreported = text.before;
      reads = λ not_run. absurd (not_run text.of_run);
    })

-- All went well.
pub returns-in_ok-left-in-Ok : goal.returns-in_ok-left-in-Ok
returns-in_ok-left-in-Ok g c =
    let ran = c.in-Ok.ensures in
    record {
      to_outside = inl ran.to_outside;
      to_inside = inl ran.to_inside;
      log = c.in_ok-left-in-Ok.ensures.post (origin_of c.args.self.start) (g.R.Source.remaining c.args.inside.now)
          (g.Q.Source.remaining c.args.outside.now) c.args.log.now c.open.new.self c.in-Ok.totals.cuts c.requires.ready
          c.in_ok-open.ensures.ok ran.logs;
      told = ran.told;
      fault = tt;
      unreported = tt;
      reads = ran.readings;
    }

-- The run failed.
pub returns-in-Err : goal.returns-in-Err
returns-in-Err g c =
    let ran = c.in-Err.ensures in
    let flushed = c.flush_after.ensures g.G.Gate.is_open (origin_of c.args.self.start)
    (g.R.Source.remaining c.args.inside.now) (g.Q.Source.remaining c.args.outside.now) c.args.log.now c.open.new.self
    c.requires.ready c.in_ok-open.ensures.ok ran.logs in
    record {
      to_outside = inl ran.to_outside;
      to_inside = inl ran.to_inside;
      log = flushed.0;
      told = tt;
      fault = flushed.1;
      unreported = before_report g.K.Told.LegTrace.tells g.G.Gate.is_open (origin_of c.args.self.start)
          g.K.StreamLog.enters g.K.StreamLog.fails g.K.StreamLog.is_settled _ _ _ _ c.in-Err.fault ran.logs;
      reads = ran.readings;
    }
