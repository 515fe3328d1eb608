-- The rows of an input are written, or writing them fails.
use Rattle.std.proofs.lemmas.{Grind.common_steps, Bool.{Decides.nat_tests, eqb-true}}
use Rattle.std.proofs.Common.{◌≡◌, ℕ, ◌+◌, ◌^◌, ◌<◌, ◌==◌, Bool, true, false, cond, List, [], ◌∷◌, ◌++◌, length, Option, Some, None, Result, Ok, Err, IfErr, OnOk, refl, sym, ◌∙◌, ap, arith, subst, append-nil, length-append}
use Rattle.napt_capture.specs.declared.{device.Sink.Ghosts, fault.WriteFault.WriteFault}
use Rattle.napt_log_text.specs.Times.{TimeText}
use Rattle.napt_account.{specs.{Effects.log_after, Log.{after_input}, LogBuilders.{IsBuilderFault, LogBuilderModel}, LogParts.{LogDelta, part_between}}, proofs.ContinuedLogs.fold_joined}
use Rattle.napt_records.specs.declared.{Fault.{Fault, TheVariants.{Capture, Run, Write}}, Which.TheVariants.{Log}}
use Rattle.napt_sequential.specs.declared.passage.Trace.{Trace}
use Rattle.napt_run.specs.{OutcomeWriterLaws.{breaks_more, grows_more, grows_none}, OutcomeWriters.result_of_output, Outputs.{OutputBreaks, OutputGrows}, LogOrigins.LoggedOrigin, RunningLogLaws.time_joined, RunningLogs.{LogAdds, EntersNot, EntersWith, FailsBy, LogGoesOnFrom, LogIsAt, known_logs, last_time, rows_in, last_trace_time}}
use Rattle.napt_run.specs.declared.{output.Output.Output, log_writer.LogWriter.LogWriter}

-- THE TIME OF THE LAST INPUT

some_last : (now : ℕ) (traces : List Trace) → last_time (Some now) traces ≡ Some (last_trace_time now traces)
some_last now [] = refl
some_last now (trace ∷ traces) = some_last trace.now traces

some_if : (none : Bool) (last : Option ℕ) → (none ≡ true → ⊥) → cond none None last ≡ last
some_if true last some = absurd (some refl)
some_if false last some = refl

-- There is a last input, if the log took any.
pub last_is : (clock : ℕ) (traces : List Trace) →
    cond (length traces == 0) None (Some (last_trace_time clock traces)) ≡ last_time None traces
last_is clock [] = refl
last_is clock (trace ∷ traces) =
    some_if (length (trace ∷ traces) == 0) (Some (last_trace_time trace.now traces))
    (λ none. let zero = eqb-true _ 0 none in omega (arith, zero)) ∙ sym (some_last trace.now traces)

-- THE LOG AFTER ONE MORE

abbrev with_input : LogBuilderModel → Trace → LogBuilderModel
with_input it trace =
    record it { clock = trace.now; log = after_input it.log trace; taken = it.taken + 1 }

known_with : (from : LoggedOrigin) (before : List Trace) (trace : Trace) →
    with_input (known_logs from before) trace ≡ known_logs from (before ++ trace ∷ [])
known_with from before trace = λ i. record {
  rules = from.origin.rules;
  clock = sym (time_joined from.origin.state.clock before (trace ∷ [])) i;
  log = sym (fold_joined after_input before (trace ∷ []) from.log) i;
  taken = sym (length-append before (trace ∷ [])) i;
  is_stopped = false;
}

module _ (from : LoggedOrigin) (before : List Trace) (trace : Trace) (old : LogBuilderModel)
    (was : old ≡ known_logs from before) where
  pub known_more : (new : LogBuilderModel) → new ≡ with_input old trace →
      new ≡ known_logs from (before ++ trace ∷ [])
  known_more new is = is ∙ (ap (λ (l : LogBuilderModel). with_input l trace) was ∙ known_with from before trace)

  pub few_more : old.taken + 1 < 2 ^ 62 → length before + 1 < 2 ^ 62
  few_more few = subst (λ (l : LogBuilderModel). l.taken + 1 < 2 ^ 62) was few

  -- The log has the rows that the input adds.
  pub part_is : (part : LogDelta) → part ≡ part_between old.clock trace.now old.log (after_input old.log trace) →
      part ≡ part_between (last_trace_time from.origin.state.clock before) trace.now (log_after from.log before)
      (after_input (log_after from.log before) trace)
  part_is part is = is
      ∙ ap (λ (l : LogBuilderModel). part_between l.clock trace.now l.log (after_input l.log trace)) was

module _ {L : Type 0} {S : Ghosts L} (from : LoggedOrigin) (before : List Trace) (old : LogWriter L S) where
  pub enter_failed : (trace : Trace) (fault : Fault) (new : LogWriter L S) →
      EntersNot from before trace old fault new → FailsBy from before (trace ∷ []) fault old new
  enter_failed trace (Run fault) new p = record {
    first = [];
    next = trace;
    others = [];
    all = refl;
    wrote = subst (λ (o : Output L S). OutputGrows old.output [] o) (sym p.0) (grows_none old.output);
    of_traces = subst (λ (l : List Trace). IsBuilderFault (known_logs from l) trace fault)
        (sym (append-nil before)) p.1;
  }
  enter_failed trace (Capture side fault) new p = absurd p
  enter_failed trace (Write which fault) new p = absurd p

  pub enter_written : (trace : Trace) (mid : LogWriter L S) (output : Output L S) (text bytes : List ℕ) →
      LogIsAt from before old → EntersWith from before trace old mid text → bytes ≡ text →
      OutputGrows mid.output bytes output →
      LogGoesOnFrom from (before ++ trace ∷ []) (rows_in from before (trace ∷ [])) old.output
      (record mid { output = output })
  enter_written trace mid output text bytes at s same p =
      grind (arith, common_steps, nat_tests, ℕ, length-append, append-nil)

  -- A text was written, and then it was flushed or not.
  pub write_adds : (text : TimeText) (mid last : Output L S) (r : Result (Unit {0}) WriteFault) →
      LogIsAt from before old →
      OutputGrows old.output text mid → OnOk r (OutputGrows mid [] last) → OnOk r (S.is_flushed last.device.now) →
      IfErr r (λ fault. mid.is_broken ≡ false → OutputBreaks mid [] fault last) →
      LogAdds from before text old.output (result_of_output Log r) (record old { output = last })
  write_adds text mid last (Ok done) at wrote grown flushed broke = record {
    on = record {
      at = record {
        log = at.log;
        few = at.few;
        sound = grown.sound (wrote.sound at.sound);
        each = at.each;
        goes_on = at.goes_on;
      };
      wrote = subst (λ (l : TimeText). OutputGrows old.output l last) (append-nil text)
          (grows_more old.output mid last text [] wrote grown);
    };
    flushed = flushed;
  }
  write_adds text mid last (Err fault) at wrote grown flushed broke =
      subst (λ (l : TimeText). OutputBreaks old.output l fault last) (append-nil text)
      (breaks_more old.output mid last text [] fault wrote (broke (wrote.sound at.sound)))
