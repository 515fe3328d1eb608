-- run_streams: the clauses for each device, as one relation over all devices.
use Rattle.std.proofs.lemmas.Result.{err_from_is_err_and}
use Rattle.napt_records.specs.declared.Which.TheVariants.{Outside, Inside}
use Rattle.napt_run.proofs.{ReportAtEnd.{left_told, reads_after, report_failed, report_unbegun, report_written}, BytesAtEnd.{inside_is, of_report, outside_is, post_ended}}
use Rattle.napt_run.proofs.streams.run_streams.Goals as goal

-- The run failed.
pub returns-in_err-ran : goal.returns-in_err-ran
returns-in_err-ran g c =
    let p = err_from_is_err_and c.from_residual.result c.from_residual.ensures.1 in
    let ran = c.in_err-ran.ensures in
    rw (p.1, p.2) (record {
      outputs = record {
        to_outside = ran.to_outside;
        to_inside = ran.to_inside;
        report = report_unbegun g.U.Sink _ _ _ _ _ ran.unreported;
      };
      log = ran.log;
      end = tt;
      fault = ran.fault;
      reads = ran.reads;
    })

-- The report failed.
pub returns-in_err-write_report : goal.returns-in_err-write_report
returns-in_err-write_report g c =
    let p = err_from_is_err_and c.from_residual-in_err-write_report.result
    c.from_residual-in_err-write_report.ensures.1 in
    let ran = c.in_ok-ran.ensures in
    let wrote = c.in_err-write_report.ensures in
    let fault = c.in_err-write_report.field-0.0 in
    let report = of_report g.L.StreamLog.is_kept g.G.Gate.is_open (g.R.Source.remaining c.args.devices.now.inside)
    (g.Q.Source.remaining c.args.devices.now.outside) fault wrote.fault in
    rw (p.1, p.2) (record {
      outputs = record {
        to_outside = post_ended g.W.Sink _ _ _ Outside outside_is _ _ _ fault report.0 ran.to_outside;
        to_inside = post_ended g.V.Sink _ _ _ Inside inside_is _ _ _ fault report.0 ran.to_inside;
        report = report_failed g.U.Sink _ _ _ _ _ _ ran.told fault wrote.fault wrote.written wrote.count;
      };
      log = g.met.L.StreamLog.unreported _ _ _ _ fault _ _ wrote.fault ran.log;
      end = tt;
      fault = report.1;
      reads = reads_after g.R.Source.failed g.Q.Source.failed _ _ _ _ fault wrote.fault ran.reads;
    })

pub returns : goal.returns
returns g c =
    let ran = c.in_ok-ran.ensures in
    let wrote = c.in_ok-write_report.ensures in record {
      outputs = record {
        to_outside = ran.to_outside;
        to_inside = ran.to_inside;
        report = report_written g.U.Sink _ _ _ _ _ _ ran.told wrote.written wrote.count wrote.flushed;
      };
      log = ran.log;
      end = left_told _ _ _ _ ran.told;
      fault = tt;
      reads = ran.reads;
    }
