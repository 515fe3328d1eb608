-- run_captures: the clauses for each device, as one relation over all devices.
use Rattle.std.proofs.lemmas.Result.{err_from_is_err_and}
use Rattle.napt_run.proofs.captures.run_captures.Goals as goal

pub returns-in_err-summary : goal.returns-in_err-summary
returns-in_err-summary g c =
    let p = err_from_is_err_and c.from_residual.result c.from_residual.ensures.1 in
    let is = c.in_err-summary.ensures in
    rw (p.1, p.2) (record {
      outputs = record {
        to_outside = record { contents = is.to_outside; failed = is.outside_writings; flushed = tt };
        to_inside = record { contents = is.to_inside; failed = is.inside_writings; flushed = tt };
        report = record { contents = is.report; failed = is.report_writings; flushed = tt };
      };
      answer = is.answer;
      end = tt;
      fault = record { explained = is.fault; gate = λ open_gate. is.gate open_gate };
      reads = record { inside = is.inside_readings; outside = is.outside_readings };
    })

pub returns : goal.returns
returns g c =
    let is = c.in_ok-summary.ensures in record {
      outputs = record {
        to_outside = record {
          contents = is.to_outside;
          failed = is.outside_writings;
          flushed = is.outside_flushed;
        };
        to_inside = record { contents = is.to_inside; failed = is.inside_writings; flushed = is.inside_flushed };
        report = record { contents = is.report; failed = is.report_writings; flushed = is.report_flushed };
      };
      answer = is.answer;
      end = is.left;
      fault = tt;
      reads = record { inside = is.inside_readings; outside = is.outside_readings };
    }
