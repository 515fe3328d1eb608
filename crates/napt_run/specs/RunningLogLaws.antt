-- Inputs that are recorded in a log in two parts can be taken as one part.
use Rattle.std.{specs.Prelude.{◌≡◌, ℕ, List, [], ◌∷◌, ◌++◌, Option, Some, None}, proofs.{Common.{refl, sym, ◌∙◌, ap, subst, append-nil, append_assoc}, lemmas.List.map-append}}
use Rattle.napt_capture.specs.declared.device.Sink.{Ghosts}
use Rattle.napt_config.specs.Rules.{Rules}
use Rattle.napt_account.{specs.{Effects.log_after, Log.{LogModel, after_input}, LogBuilders.IsBuilderFault, LogParts.{kept_at, part_between}}, proofs.ContinuedLogs.fold_joined}
use Rattle.napt_log_text.specs.{Logs.{part_rows, piece_opening, rows_by}, Times.TimeText}
use Rattle.napt_records.specs.declared.{Fault.{Fault, TheVariants.{Capture, Run, Write}}, Which.TheVariants.{Outside, Inside, Report, Log}}
use Rattle.napt_sequential.specs.declared.passage.{Passage.Passage, Trace.Trace}
use Rattle.napt_run.specs.{OutcomeWriterLaws.{breaks_more, grows_more, grows_none}, LogRuns.Legs, Outputs.{OutputBreaks, OutputGrows}}
use Rattle.napt_run.specs.{LogOrigins.LoggedOrigin, RunningLogs.{Enters, LogFails, FailsBy, LogIsAt, known_logs, last_time, rows_in, running_log_traces, last_trace_time}, declared.log_writer.LogWriter.LogWriter}

traces_join : (xs ys : List (Legs Passage)) → running_log_traces (xs ++ ys) ≡ running_log_traces xs
    ++ running_log_traces ys
traces_join xs ys =
    map-append (λ legs. let t : Trace = record { now = legs.0; first = legs.1; second = legs.2 } in t) xs ys

pub time_joined : (now : ℕ) (xs ys : List Trace) →
    last_trace_time now (xs ++ ys) ≡ last_trace_time (last_trace_time now xs) ys
time_joined now [] ys = refl
time_joined now (x ∷ xs) ys = time_joined x.now xs ys

last_joined : (last : Option ℕ) (xs ys : List Trace) → last_time last (xs ++ ys) ≡ last_time (last_time last xs) ys
last_joined last [] ys = refl
last_joined last (x ∷ xs) ys = last_joined (Some x.now) xs ys

rows_joined : (rules : Rules) (each last : Option ℕ) (was : ℕ) (log : LogModel) (xs ys : List Trace) →
    rows_by rules each last was log (xs ++ ys) ≡ rows_by rules each last was log xs
    ++ rows_by rules each (last_time last xs) (last_trace_time was xs) (log_after log xs) ys
rows_joined rules each last was log [] ys = refl
rows_joined rules each last was log (x ∷ xs) ys =
    let later : LogModel = after_input log x in
    let text : TimeText = piece_opening rules each last x.now (kept_at was log)
    ++ part_rows rules (part_between was x.now log later) in
    ap (λ (l : TimeText). text ++ l) (rows_joined rules each (Some x.now) x.now later xs ys)
    ∙ sym (append_assoc text (rows_by rules each (Some x.now) x.now later xs)
    (rows_by rules each (last_time (Some x.now) xs) (last_trace_time x.now xs) (log_after later xs) ys))

rows_in-append : (from : LoggedOrigin) (before xs ys : List Trace) →
    rows_in from before (xs ++ ys) ≡ rows_in from before xs ++ rows_in from (before ++ xs) ys
rows_in-append from before xs ys =
    let clock : ℕ = from.origin.state.clock in
    rows_joined from.origin.rules from.each (last_time None before) (last_trace_time clock before)
    (log_after from.log before) xs ys
    ∙ (λ i. rows_in from before xs ++ rows_by from.origin.rules from.each (sym (last_joined None before xs) i)
    (sym (time_joined clock before xs) i) (sym (fold_joined after_input before xs from.log) i) ys)

module _ {L : Type 0} {S : Ghosts L} where
  pub enters_none : (x : LogWriter L S) → Enters x [] x
  enters_none x = λ from before at. record {
    at = subst (λ (l : List Trace). LogIsAt from l x) (sym (append-nil before)) at;
    wrote = grows_none x.output;
  }

  pub enters_more : (x y z : LogWriter L S) (xs ys : List (Legs Passage)) → Enters x (running_log_traces xs) y →
      Enters y (running_log_traces ys) z → Enters x (running_log_traces (xs ++ ys)) z
  enters_more x y z xs ys one two = subst (λ (ts : List Trace). Enters x ts z) (sym (traces_join xs ys))
      (λ from before at.
      let first = one from before at in
      let second = two from (before ++ running_log_traces xs) first.at in
      record {
        at = subst (λ (l : List Trace). LogIsAt from l z)
            (append_assoc before (running_log_traces xs) (running_log_traces ys)) second.at;
        wrote = subst (λ (l : TimeText). OutputGrows x.output l z.output)
            (sym (rows_in-append from before (running_log_traces xs) (running_log_traces ys)))
            (grows_more x.output y.output z.output _ _ first.wrote second.wrote);
      })

  fails_by : (from : LoggedOrigin) (before xs ys : List Trace) (x y z : LogWriter L S) (fault : Fault) →
      OutputGrows x.output (rows_in from before xs) y.output → FailsBy from (before ++ xs) ys fault y z →
      FailsBy from before (xs ++ ys) fault x z
  fails_by from before xs ys x y z (Write Log fault) one two =
      subst (λ (l : TimeText). OutputBreaks x.output l fault z.output) (sym (rows_in-append from before xs ys))
      (breaks_more x.output y.output z.output _ _ fault one two)
  fails_by from before xs ys x y z (Run fault) one two = record {
    first = xs ++ two.first;
    next = two.next;
    others = two.others;
    all = ap (λ (l : List Trace). xs ++ l) two.all ∙ sym (append_assoc xs two.first (two.next ∷ two.others));
    wrote = subst (λ (l : TimeText). OutputGrows x.output l z.output) (sym (rows_in-append from before xs two.first))
        (grows_more x.output y.output z.output _ _ one two.wrote);
    of_traces = subst (λ (l : List Trace). IsBuilderFault (known_logs from l) two.next fault)
        (append_assoc before xs two.first) two.of_traces;
  }
  fails_by from before xs ys x y z (Capture side fault) one two = absurd two
  fails_by from before xs ys x y z (Write Outside fault) one two = absurd two
  fails_by from before xs ys x y z (Write Inside fault) one two = absurd two
  fails_by from before xs ys x y z (Write Report fault) one two = absurd two

  pub fails_more : (x y z : LogWriter L S) (xs ys : List (Legs Passage)) (fault : Fault) →
      Enters x (running_log_traces xs) y → LogFails y (running_log_traces ys) fault z →
      LogFails x (running_log_traces (xs ++ ys)) fault z
  fails_more x y z xs ys fault one two = subst (λ (ts : List Trace). LogFails x ts fault z) (sym (traces_join xs ys))
      (λ from before at.
      let first = one from before at in
      fails_by from before (running_log_traces xs) (running_log_traces ys) x y z fault first.wrote
      (two from (before ++ running_log_traces xs) first.at))
