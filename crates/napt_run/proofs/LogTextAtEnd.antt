-- The log of a run contains its text at the end of the run.
use Rattle.std.proofs.lemmas.{Grind.common_steps, Bool.Decides.nat_tests}
use Rattle.std.specs.Prelude.{if◌then◌else◌}
use Rattle.std.proofs.Common.{◌≡◌, ◌⊎◌, inl, inr, ℕ, ◌+◌, ◌-◌, ◌^◌, ◌<◌, ◌≤◌, max, min, Bool, true, false, List, [], ◌∷◌, ◌++◌, length, map, take, Option, Result, Ok, Err, IfErr, IfOk, IsOk, OnOk, string_bytes, refl, sym, ◌∙◌, ap, subst, arith, append-nil, append_assoc, length-append}
use Rattle.std.{proofs.{lemmas.List.take-append-le, KnownBytes.Appends-trans}, specs.Io.KnownBytes.Appends}
use Rattle.napt_wire.specs.declared.Side.{Side}
use Rattle.napt_capture.specs.declared.{device.Sink.Ghosts, fault.{CaptureFault.CaptureFault, WriteFault.WriteFault}}
use Rattle.napt_dispatch.specs.Dispatch.{IsFaultUnder}
use Rattle.napt_laws.specs.Dispatching.{IsFrontOf}
use Rattle.napt_account.specs.{Effects.{AreNextEffects, log_after}, Log.{LogModel, log_on}, LogParts.{in_order_of_end, kept_at}, ResumedLogRuns.left_of}
use Rattle.napt_log_text.specs.{Logs.{living_rows, rows_from}, Times.TimeText}
use Rattle.napt_records.specs.{RecordMerging.MergedInputs, declared.{Fault.{Fault, TheVariants.{Capture, Run, Write}}, Which.TheVariants.{Outside, Inside, Report, Log}, stream_merger.CutFlags.CutFlags}}
use Rattle.napt_rules.specs.Prelude.{Arrival, Binding, RunEffect, Rules, last_clock, step}
use Rattle.napt_sequential.{specs.{Traces.traces_from, declared.{fault.RunFault.{RunFault, TheVariants.{Memory, TooMany, Pool}}, passage.{Passage.Passage, Trace.Trace}}}, proofs.StepsInOrder.traces_long}
use Rattle.napt_run.specs.{LogLaws.held, OutcomeWriterLaws.{breaks_more, grows_more}, Outputs.{OutputBreaks, OutputGrows}, Origins.OriginModel}
use Rattle.napt_run.specs.{LogRuns.{EntersAll, EntersFront, LogFailsOver, Legs, LogsTo, legs_told, traces_by}, LogOrigins.{LoggedOrigin, ending, text_so_far, texts_of, whole_text}, Logs.{LogPost}}
use Rattle.napt_run.specs.{Posts.{AtMostOneMore, ExtentPost, FailedPost, FaultPost, OutputEnds, may_have_ended, text_if}, Runs.IfHeld, Streams.{AreInputsBeforeFault, IsSettledBy}}
use Rattle.napt_run.specs.RunningLogs.{LogAdds, LogCloses, Enters, FlushPost, IsReady, LogFails, FailsBy, LogGoesOnFrom, FailsMore, IsAfterFault, LogHalts, LogIsAt, LogOpens, ending_with, left_with, rows_in, running_log_of, running_log_traces, last_trace_time}
use Rattle.napt_run.specs.declared.{output.Output.Output, log_writer.LogWriter.LogWriter}
use Rattle.napt_run.proofs.{BytesAtEnd.{broken, ends, grown_if, none_held, take_whole}, TracePrefixes.{NextInput, next_input}}

-- TEXTS

abbrev rows_on : LoggedOrigin → List Arrival → TimeText
rows_on from inputs = rows_from from.origin.rules from.origin.state from.each from.log inputs

so_far_is : (from : LoggedOrigin) (inputs : List Arrival) →
    from.opening ++ rows_on from inputs ≡ text_so_far from inputs
unfolding text_so_far
so_far_is from inputs = refl

none_so_far : (from : LoggedOrigin) → from.opening ≡ text_so_far from []
unfolding text_so_far rows_from
none_so_far from = sym (append-nil from.opening)

text_is : (from : LoggedOrigin) (inputs : List Arrival) →
    text_so_far from inputs ++ ending from inputs ≡ whole_text from inputs
unfolding whole_text
text_is from inputs = refl

-- A prefix of the text so far is one of the whole text.
cut_is : (from : LoggedOrigin) (inputs : List Arrival) (count : ℕ) → count ≤ length (text_so_far from inputs) →
    take count (text_so_far from inputs) ≡ take count (whole_text from inputs)
cut_is from inputs count within =
    sym (take-append-le count (text_so_far from inputs) (ending from inputs) within)
    ∙ ap (λ (l : TimeText). take count l) (text_is from inputs)

cut_within : (from : LoggedOrigin) (inputs : List Arrival) (count : ℕ) → count ≤ length (text_so_far from inputs) →
    count ≤ length (whole_text from inputs)
cut_within from inputs count within =
    subst (λ (l : TimeText). count ≤ length l) (text_is from inputs)
    (omega (arith, within, length-append (text_so_far from inputs) (ending from inputs)))

-- A prefix of the text so far is a prefix of the text by a result.
cut_if : (from : LoggedOrigin) (ended : Bool) (inputs : List Arrival) (count : ℕ) →
    count ≤ length (text_so_far from inputs) → (count ≤ length (text_if ended (texts_of from) inputs))
    × (take count (text_so_far from inputs) ≡ take count (text_if ended (texts_of from) inputs))
cut_if from true inputs count within = (cut_within from inputs count within, cut_is from inputs count within)
cut_if from false inputs count within = (within, refl)

-- TRACES

traces_back : (all : List Trace) → running_log_traces (map (λ trace. (trace.now, trace.first, trace.second)) all) ≡ all
traces_back [] = refl
traces_back (trace ∷ all) = ap (λ (l : List Trace). trace ∷ l) (traces_back all)

-- The traces of the legs of these inputs.
abbrev pub told_traces : OriginModel → List Arrival → List Trace
told_traces origin inputs = running_log_traces (legs_told (λ (p : Passage). p) origin inputs)

pub traces_told : (origin : OriginModel) (inputs : List Arrival) → told_traces origin inputs ≡ traces_by origin inputs
traces_told origin inputs = traces_back (traces_by origin inputs)

-- The time of the last trace is that of the last input.
time_from : (rules : Rules) (number clock : ℕ) (inputs : List Arrival) (list : List Binding) →
    last_trace_time clock (traces_from rules number clock inputs list) ≡ last_clock clock inputs
time_from rules number clock [] list = refl
time_from rules number clock (input ∷ inputs) list =
    let now : ℕ = max clock input.clock in
    let course : RunEffect = step rules number now input list in
    time_from rules (number + 1) now inputs course.list

time_is : (origin : OriginModel) (inputs : List Arrival) →
    last_trace_time origin.state.clock (traces_by origin inputs) ≡ last_clock origin.state.clock inputs
time_is origin inputs = time_from origin.rules 0 origin.state.clock inputs origin.state.list

-- THE LOG WHILE THE RUN GOES

front_first : (inside outside : Option (List ℕ)) (inputs first others : List Arrival) → first ++ others ≡ inputs →
    IfHeld inside outside (λ all. IsFrontOf inputs all.arrivals) →
    IfHeld inside outside (λ all. IsFrontOf first all.arrivals)
front_first inside outside inputs first others both front =
    grind (arith, common_steps, nat_tests, held, append_assoc)

-- The number of its calls that failed, and whether it is broken.
abbrev Was : Bool → ℕ → ℕ → Type 0
Was broken old new = ((broken ≡ false) × (new ≡ old)) ⊎ ((broken ≡ true) × (new ≡ old + 1))

-- The log has some first rows. No call of it failed, or one did and none since.
record LogPart {L : Type 0} {S : Ghosts L} (from : LoggedOrigin) (inside outside : Option (List ℕ))
    (old new : Output L S) : Type 0 where
  inputs : List Arrival
  front : IfHeld inside outside (λ all. IsFrontOf inputs all.arrivals)
  count : ℕ
  within : count ≤ length (text_so_far from inputs)
  appended : Appends (S.contents old.device.now) (S.contents new.device.now) (take count (text_so_far from inputs))
  same : new.device.ghost_name ≡ old.device.ghost_name
  counts : Was new.is_broken (S.failed old.device.now) (S.failed new.device.now)

at_most : (broken : Bool) (old mid new : ℕ) → Was broken old mid → FailsMore broken mid new → AtMostOneMore old new
at_most broken old mid new was more = grind (arith, common_steps, nat_tests)

tried_by : (broken : Bool) (old mid new : ℕ) (Flushed : Type 0) → Was broken old mid → FailsMore broken mid new →
    (broken ≡ false → Flushed ⊎ (new ≡ mid + 1)) → Flushed ⊎ (new ≡ old + 1)
tried_by broken old mid new Flushed was more tried = grind (arith, common_steps, nat_tests)

-- The log has some first rows at the end, and it was flushed if no call failed.
record LogRest {L : Type 0} {S : Ghosts L} (from : LoggedOrigin) (inside outside : Option (List ℕ))
    (old new : Output L S) : Type 0 where
  inputs : List Arrival
  front : IfHeld inside outside (λ all. IsFrontOf inputs all.arrivals)
  count : ℕ
  within : count ≤ length (text_so_far from inputs)
  appended : Appends (S.contents old.device.now) (S.contents new.device.now) (take count (text_so_far from inputs))
  same : new.device.ghost_name ≡ old.device.ghost_name
  counts : AtMostOneMore (S.failed old.device.now) (S.failed new.device.now)
  tried : S.is_flushed new.device.now ⊎ (S.failed new.device.now ≡ S.failed old.device.now + 1)

rest : {L : Type 0} {S : Ghosts L} (from : LoggedOrigin) (inside outside : Option (List ℕ)) (old new last : Output L S)
    →
    FlushPost new last → LogPart from inside outside old new → LogRest from inside outside old last
rest {L} {S} from inside outside old new last flush p = record {
  inputs = p.inputs;
  front = p.front;
  count = p.count;
  within = p.within;
  appended = subst (λ (l : TimeText). Appends (S.contents old.device.now) (S.contents last.device.now) l)
      (append-nil (take p.count (text_so_far from p.inputs))) (Appends-trans _ _ _ _ [] p.appended flush.kept);
  same = flush.same ∙ p.same;
  counts = at_most _ _ _ _ p.counts flush.counts;
  tried = tried_by _ _ _ _ _ p.counts flush.counts flush.tried;
}

module _ {L : Type 0} {S : Ghosts L} (origin : OriginModel) (inside outside : Option (List ℕ)) (old : LogWriter L S)
    (ready : IsReady origin old) where
  abbrev pub From : LoggedOrigin
  From = running_log_of origin old

  abbrev Ends : Result (Unit {0}) Fault → Output L S → Type 0
  Ends result last = OutputEnds (texts_of From) Log inside outside result old.output last

  -- The log has a part of the rows, whatever failed.
  rest_ends : (result : Result (Unit {0}) Fault) (last : Output L S) → (IsSettledBy result → ⊥) →
      ((all : MergedInputs) (inputs : List Arrival) (count size : ℕ) → ExtentPost Log result all inputs count size) →
      (AtMostOneMore (S.failed old.output.device.now) (S.failed last.device.now) →
      FailedPost Log result (S.failed old.output.device.now) (S.failed last.device.now)) →
      LogRest From inside outside old.output last → Ends result last
  rest_ends result last never extent failed p =
      let cut = cut_if From (may_have_ended result) p.inputs p.count p.within in
      ends (texts_of From) Log inside outside result old.output last p.inputs _ refl p.front p.count cut.0
      (subst (λ (l : TimeText). Appends (S.contents old.output.device.now) (S.contents last.device.now) l) cut.1
      p.appended) (λ all. extent all p.inputs p.count
      (length (text_if (may_have_ended result) (texts_of From) p.inputs)))
      p.same (failed p.counts)
      (λ settled. absurd (never settled))

  front_taken : (side : Side) (fault : CaptureFault) (inputs : List Arrival) →
      IfHeld inside outside (λ all. AreInputsBeforeFault side fault all inputs) →
      IfHeld inside outside (λ all. IsFrontOf inputs all.arrivals)
  front_taken side fault inputs taken = held (λ all. AreInputsBeforeFault side fault all inputs)
      (λ all. IsFrontOf inputs all.arrivals)
      inside outside (λ all t. t.0) taken

  extent_taken : (side : Side) (fault : CaptureFault) (inputs : List Arrival) (size : ℕ) →
      IfHeld inside outside (λ all. AreInputsBeforeFault side fault all inputs) →
      IfHeld inside outside (λ all. ExtentPost Log (Err (Capture side fault)) all inputs size size)
  extent_taken side fault inputs size taken = held (λ all. AreInputsBeforeFault side fault all inputs)
      (λ all. ExtentPost Log (Err (Capture side fault)) all inputs size size) inside outside (λ all t. (t.1, refl))
      taken

  -- The log contains as much of its text as its own fault says.
  told : (count written : ℕ) → ((a : ℕ) → old.output.written ≡ min a (2 ^ 64 - 1) → written ≡
      min (a + count) (2 ^ 64 - 1)) →
      written ≡ min count (2 ^ 64 - 1)
  told count written counted = omega (arith, counted 0 (omega (arith, ready.written)))

  -- Writing the rows failed.
  rows_broken : (inputs : List Arrival) (fault : WriteFault) (last : LogWriter L S) →
      IfHeld inside outside (λ all. IsFrontOf inputs all.arrivals) →
      OutputBreaks old.output (text_so_far From inputs) fault last.output →
      LogPost origin inside outside (Err (Write Log fault)) old last
  rows_broken inputs fault last front p =
      let cut = cut_if From true inputs p.count p.within in
      record {
        written = ends (texts_of From) Log inside outside (Err (Write Log fault)) old.output last.output inputs _ refl
            front p.count cut.0 (subst (λ (l : TimeText). Appends (S.contents old.output.device.now)
            (S.contents last.output.device.now) l) cut.1 p.appended)
            (λ all. told p.count fault.written p.counted) p.same p.failed_once
            (λ settled. absurd settled);
        tried = inr p.failed_once;
        kept = tt;
        few = λ done. absurd done;
      }

  -- The log could not be opened.
  unopened : (last : LogWriter L S) (fault : Fault) → LogAdds From [] From.opening old.output (Err fault) last →
      LogPost origin inside outside (Err fault) old last
  unopened last (Write Log fault) p = rows_broken [] fault last (none_held inside outside)
      (subst (λ (l : TimeText). OutputBreaks old.output l fault last.output) (none_so_far From) p)
  unopened last (Write Outside fault) p = absurd p
  unopened last (Write Inside fault) p = absurd p
  unopened last (Write Report fault) p = absurd p
  unopened last (Capture side fault) p = absurd p
  unopened last (Run fault) p = absurd p

  module _ (mid after : LogWriter L S) (opens : LogOpens old mid) where
    abbrev EntersLegs : LogWriter L S → List (Legs Passage) → LogWriter L S → Type 0
    EntersLegs x all y = Enters x (running_log_traces all) y

    abbrev FailsLegs : LogWriter L S → List (Legs Passage) → Fault → LogWriter L S → Type 0
    FailsLegs x all fault y = LogFails x (running_log_traces all) fault y

    abbrev Settled : LogWriter L S → Type 0
    Settled log = S.is_flushed log.output.device.now

    abbrev All : CutFlags → Type 0
    All cuts = EntersAll (λ (p : Passage). p) origin EntersLegs FailsLegs Settled inside outside mid after cuts

    abbrev Front : Type 0
    Front = EntersFront (λ (p : Passage). p) origin EntersLegs FailsLegs Settled inside outside mid after

    abbrev Failed : Fault → Type 0
    Failed fault = LogFailsOver (λ (p : Passage). p) origin EntersLegs FailsLegs Settled inside outside mid after fault

    abbrev Watched : Bool → Fault → Type 0
    Watched open_gate fault = LogsTo (λ (p : Passage). p) origin EntersLegs FailsLegs Settled inside outside mid after
        open_gate (Err fault)

    begun : LogGoesOnFrom From [] From.opening old.output mid
    begun = (opens From ready.at).on

    abbrev Part : Type 0
    Part = LogPart From inside outside old.output after.output

    grew : (inputs : List Arrival) → OutputGrows mid.output (rows_on From inputs) after.output →
        OutputGrows old.output (text_so_far From inputs) after.output
    grew inputs p = subst (λ (l : TimeText). OutputGrows old.output l after.output) (so_far_is From inputs)
        (grows_more old.output mid.output after.output _ _ begun.wrote p)

    -- The traces of these inputs were entered.
    pub entered : (inputs : List Arrival) → Enters mid (told_traces origin inputs) after →
        LogGoesOnFrom From (traces_by origin inputs) (rows_on From inputs) mid.output after
    entered inputs enters =
        let told = traces_told origin inputs in
        subst (λ (ts : List Trace). LogGoesOnFrom From ts (rows_on From inputs) mid.output after) told
        (subst (λ (l : TimeText). LogGoesOnFrom From (told_traces origin inputs) l mid.output after)
        (ap (λ (ts : List Trace). rows_in From [] ts) told ∙ ready.laws.rows From.each inputs)
        (enters From [] begun.at))

    wrote : (inputs : List Arrival) → Enters mid (told_traces origin inputs) after →
        OutputGrows old.output (text_so_far From inputs) after.output
    wrote inputs enters = grew inputs (entered inputs enters).wrote

    failed_over : (inputs : List Arrival) (fault : Fault) →
        LogFails mid (told_traces origin inputs) fault after →
        FailsBy From [] (traces_by origin inputs) fault mid after
    failed_over inputs fault fails = subst (λ (ts : List Trace). FailsBy From [] ts fault mid after)
        (traces_told origin inputs) (fails From [] begun.at)

    broken_over : (inputs : List Arrival) (fault : WriteFault) →
        OutputBreaks mid.output (rows_in From [] (traces_by origin inputs)) fault after.output →
        OutputBreaks old.output (text_so_far From inputs) fault after.output
    broken_over inputs fault p = subst (λ (l : TimeText). OutputBreaks old.output l fault after.output)
        (ap (λ (l : TimeText). From.opening ++ l) (ready.laws.rows From.each inputs) ∙ so_far_is From inputs)
        (breaks_more old.output mid.output after.output _ _ fault begun.wrote p)

    -- A part of the rows.

    grown_part : (inputs : List Arrival) → OutputGrows old.output (text_so_far From inputs) after.output →
        IfHeld inside outside (λ all. IsFrontOf inputs all.arrivals) → Part
    grown_part inputs p front = record {
      inputs = inputs;
      front = front;
      count = length (text_so_far From inputs);
      within = omega arith;
      appended = subst (λ (l : TimeText). Appends (S.contents old.output.device.now)
          (S.contents after.output.device.now) l)
          (sym (take_whole (text_so_far From inputs))) p.appended;
      same = p.same;
      counts = inl (p.sound ready.at.sound, p.kept);
    }

    -- The input whose trace was not taken.
    next_of : (inputs : List Arrival) (fault : RunFault)
        (p : LogHalts From [] (traces_by origin inputs) fault mid after) → NextInput origin inputs p.first p.next
    next_of inputs fault p = next_input origin inputs p.first p.next p.others p.all

    failed_part : (fault : Fault) (inputs : List Arrival) →
        IfHeld inside outside (λ all. IsFrontOf inputs all.arrivals) →
        FailsBy From [] (traces_by origin inputs) fault mid after → Part
    failed_part (Write Log fault) inputs front p =
        let all = broken_over inputs fault p in
        record {
          inputs = inputs;
          front = front;
          count = all.count;
          within = all.within;
          appended = all.appended;
          same = all.same;
          counts = inr (all.broken, all.failed_once);
        }
    failed_part (Run fault) inputs front p =
        let n : NextInput origin inputs p.first p.next = next_of inputs fault p in
        grown_part n.before (grew n.before (subst (λ (l : TimeText). OutputGrows mid.output l after.output)
        (ap (λ (ts : List Trace). rows_in From [] ts) n.first_is ∙ ready.laws.rows From.each n.before) p.wrote))
        (front_first inside outside inputs n.before (n.input ∷ n.later)
        (sym (append_assoc n.before (n.input ∷ []) n.later) ∙ n.whole) front)
    failed_part (Write Outside fault) inputs front p = absurd p
    failed_part (Write Inside fault) inputs front p = absurd p
    failed_part (Write Report fault) inputs front p = absurd p
    failed_part (Capture side fault) inputs front p = absurd p

    part : Front ⊎ ((fault : Fault) × Failed fault) → Part
    part (inl s) = grown_part s.inputs (wrote s.inputs s.entered) s.front
    part (inr (fault, f)) = failed_part fault f.inputs f.front (failed_over f.inputs fault f.failed)

    -- THE FAULT

    too_many : (inputs : List Arrival) → 2 ^ 62 ≤ length inputs →
        IfHeld inside outside (λ all. IsFrontOf inputs all.arrivals) →
        IfHeld inside outside (λ all. 2 ^ 62 ≤ length all.arrivals)
    too_many inputs many front = grind (arith, common_steps, nat_tests, held, length-append)

    -- There were too many inputs.
    too_many_at : (inputs : List Arrival) → LogHalts From [] (traces_by origin inputs) TooMany mid after →
        2 ^ 62 ≤ length inputs
    too_many_at inputs p = grind (arith, common_steps, nat_tests, traces_long, length-append)

    -- A trace of a run always comes next.
    never_refused : (inputs : List Arrival) (first : List Trace) (next : Trace) → NextInput origin inputs first next →
        (¬ AreNextEffects (last_trace_time origin.state.clock first) (log_after From.log first) next) → ⊥
    never_refused inputs first next n never =
        never (subst (λ (ts : List Trace). AreNextEffects (last_trace_time origin.state.clock ts)
        (log_after From.log ts) next)
        (sym n.first_is) (subst (λ (l : LogModel). AreNextEffects (last_trace_time origin.state.clock
        (traces_by origin n.before)) l next) (sym (ready.laws.is_log n.before))
        (subst (λ (t : ℕ). AreNextEffects t (log_on origin.rules origin.state From.log n.before) next)
        (sym (time_is origin n.before)) (ready.laws.come n.before n.input next n.grown))))

    module _ (open_gate : Bool) where
      abbrev Explained : Fault → Type 0
      Explained fault = FaultPost true open_gate inside outside fault

      run_fault : (fault : RunFault) → IsFaultUnder open_gate fault → Explained (Run fault)
      run_fault Memory under = record { explained = tt; gate = λ is. refl }
      run_fault TooMany under = absurd under
      run_fault (Pool fault) under = record { explained = tt; gate = λ is. under is }

      log_fault : (fault : RunFault) → Failed (Run fault) → Explained (Run fault)
      log_fault Memory f = record { explained = tt; gate = λ is. refl }
      log_fault TooMany f = record {
        explained = (
          refl,
          too_many f.inputs (too_many_at f.inputs (failed_over f.inputs (Run TooMany) f.failed))
              f.front,
        );
        gate = λ is. refl;
      }
      log_fault (Pool fault) f =
          let h : LogHalts From [] (traces_by origin f.inputs) (Pool fault) mid after =
          failed_over f.inputs (Run (Pool fault)) f.failed in
          absurd (never_refused f.inputs h.first h.next (next_of f.inputs (Pool fault) h) h.of_traces.1)

      -- THE RUN FAILED, and the log is flushed after that

      abbrev Rest : LogWriter L S → Type 0
      Rest last = LogRest From inside outside old.output last.output

      abbrev Halts : Fault → LogWriter L S → Type 0
      Halts fault last = LogPost origin inside outside (Err fault) old last × Explained fault

      run_halted : (fault : RunFault) (last : LogWriter L S) → Rest last →
          LogPost origin inside outside (Err (Run fault)) old last
      run_halted fault last p = record {
        written = rest_ends (Err (Run fault)) last.output (λ settled. settled) (λ all inputs count size. tt) (λ f. f) p;
        tried = p.tried;
        kept = tt;
        few = λ done. absurd done;
      }

      pub halted : (fault : Fault) (last : LogWriter L S) → Watched open_gate fault → IsAfterFault fault after last →
          Halts fault last
      halted (Capture side fault) last s is = rw is (
        record {
          written = grown_if (texts_of From) Log inside outside (Err (Capture side fault)) old.output after.output
              s.inputs _
              refl (front_taken side fault s.inputs s.taken) (wrote s.inputs s.entered)
              (extent_taken side fault s.inputs _ s.taken) (λ kept. kept) (λ settled. s.settled);
          tried = inl s.settled;
          kept = tt;
          few = λ done. absurd done;
        },
        record { explained = s.is_fault; gate = λ is. refl },
      )
      halted (Write Outside fault) last s flush =
          let p = rest From inside outside old.output after.output last.output flush (part (inl s)) in (
            record {
              written = rest_ends (Err (Write Outside fault)) last.output (λ settled. settled)
                  (λ all inputs count size. tt) (λ f. f) p;
              tried = p.tried;
              kept = tt;
              few = λ done. absurd done;
            },
            record { explained = tt; gate = λ is. refl },
          )
      halted (Write Inside fault) last s flush =
          let p = rest From inside outside old.output after.output last.output flush (part (inl s)) in (
            record {
              written = rest_ends (Err (Write Inside fault)) last.output (λ settled. settled)
                  (λ all inputs count size. tt) (λ f. f) p;
              tried = p.tried;
              kept = tt;
              few = λ done. absurd done;
            },
            record { explained = tt; gate = λ is. refl },
          )
      halted (Write Report fault) last s flush = absurd s
      halted (Write Log fault) last f is = rw is (
        rows_broken f.inputs fault after f.front
            (broken_over f.inputs fault (failed_over f.inputs (Write Log fault) f.failed)),
        record { explained = refl; gate = λ is. refl },
      )
      halted (Run fault) last (inl (under, either)) flush = (
        run_halted fault last (rest From inside outside old.output after.output last.output flush (part either)),
        run_fault fault under,
      )
      halted (Run fault) last (inr f) flush = (
        run_halted fault last (rest From inside outside old.output after.output last.output flush
            (part (inr (Run fault, f)))),
        log_fault fault f,
      )

    -- THE RUN CAME TO ITS END, and the log is closed

    module _ (cuts : CutFlags) (s : All cuts) (last : LogWriter L S) where
      abbrev Is : MergedInputs → Type 0
      Is all = all ≡ record { arrivals = s.inputs; end = Ok cuts }

      front_all : IfHeld inside outside (λ all. IsFrontOf s.inputs all.arrivals)
      front_all = held Is (λ all. IsFrontOf s.inputs all.arrivals) inside outside
          (λ all is. rw is ([], append-nil s.inputs)) s.all

      extent_all : (size : ℕ) → IfHeld inside outside (λ all. IsOk all.end × (s.inputs ≡ all.arrivals) × (size ≡ size))
      extent_all size = held Is (λ all. IsOk all.end × (s.inputs ≡ all.arrivals) × (size ≡ size)) inside outside
          (λ all is. rw is (refl, refl, refl)) s.all

      pub at_end : LogIsAt From (traces_by origin s.inputs) after
      at_end = (entered s.inputs s.entered).at

      left_is : left_with From (traces_by origin s.inputs) ≡ left_of origin.rules origin.state From.log s.inputs
      left_is = λ i. kept_at (time_is origin s.inputs i) (ready.laws.is_log s.inputs i)

      ending_at : ending_with From (traces_by origin s.inputs) ≡ ending From s.inputs
      unfolding ending
      ending_at = ap (λ (kept : LogModel). if From.goes_on then [] else living_rows From.origin.rules
          (in_order_of_end kept.entries)) left_is

      pub closed : (left : Result LogModel Fault) → LogCloses From (traces_by origin s.inputs)
          (ending_with From (traces_by origin s.inputs)) after.output left last →
          IfOk left (λ log. log ≡ left_with From (traces_by origin s.inputs)) →
          LogPost origin inside outside left old last
      closed (Ok log) p is =
          let all : OutputGrows old.output (whole_text From s.inputs) last.output =
          subst (λ (l : TimeText). OutputGrows old.output l last.output) (text_is From s.inputs)
          (grows_more old.output after.output last.output _ _ (wrote s.inputs s.entered)
          (subst (λ (l : TimeText). OutputGrows after.output l last.output) ending_at p.on.wrote)) in
          let few : length s.inputs < 2 ^ 62 = subst (λ (n : ℕ). n < 2 ^ 62)
          (traces_long origin.rules 0 origin.state.clock s.inputs origin.state.list) p.on.at.few in
          record {
            written = grown_if (texts_of From) Log inside outside (Ok tt) old.output last.output s.inputs _ refl
                front_all
                all (extent_all _) (λ kept. kept) (λ settled. p.flushed);
            tried = inl p.flushed;
            kept = held Is (λ all. log ≡ left_of origin.rules origin.state From.log all.arrivals) inside outside
                (λ all whole. rw whole (is ∙ left_is)) s.all;
            few = λ done. held Is (λ all. length all.arrivals < 2 ^ 62) inside outside (λ all whole. rw whole few)
                s.all;
          }
      closed (Err (Write Log fault)) p is =
          let all : OutputBreaks old.output (whole_text From s.inputs) fault last.output =
          subst (λ (l : TimeText). OutputBreaks old.output l fault last.output) (text_is From s.inputs)
          (breaks_more old.output after.output last.output _ _ fault (wrote s.inputs s.entered)
          (subst (λ (l : TimeText). OutputBreaks after.output l fault last.output) ending_at p)) in
          record {
            written = broken (texts_of From) Log inside outside (Err (Write Log fault)) old.output last.output s.inputs
                _
                refl front_all fault all (λ held. told all.count fault.written all.counted)
                (λ once. once) (λ settled. settled);
            tried = inr all.failed_once;
            kept = tt;
            few = λ done. absurd done;
          }
      closed (Err (Run Memory)) p is =
          let rows = wrote s.inputs s.entered in
          let part = grown_part s.inputs rows front_all in
          let rest : LogRest From inside outside old.output after.output = record {
            inputs = part.inputs;
            front = part.front;
            count = part.count;
            within = part.within;
            appended = part.appended;
            same = part.same;
            counts = inl rows.kept;
            tried = inl s.settled;
          } in
          record {
            written = subst (λ (o : Output L S). Ends (Err (Run Memory)) o) (sym p)
                (rest_ends (Err (Run Memory)) after.output (λ settled. settled) (λ all inputs count size. tt) (λ f. f)
                rest);
            tried = subst (λ (o : Output L S). S.is_flushed o.device.now
                ⊎ (S.failed o.device.now ≡ S.failed old.output.device.now + 1)) (sym p) (inl s.settled);
            kept = tt;
            few = λ done. absurd done;
          }
      closed (Err (Run TooMany)) p is = absurd p
      closed (Err (Run (Pool fault))) p is = absurd p
      closed (Err (Capture side fault)) p is = absurd p
      closed (Err (Write Outside fault)) p is = absurd p
      closed (Err (Write Inside fault)) p is = absurd p
      closed (Err (Write Report fault)) p is = absurd p

-- Otherwise it could be written.
pub opens_by : {L : Type 0} {S : Ghosts L} (old new : LogWriter L S) (result : Result (Unit {0}) Fault) →
    ((from : LoggedOrigin) → LogIsAt from [] old →
    LogAdds from [] (string_bytes old.opening) old.output result new) → OnOk result (LogOpens old new)
opens_by old new (Ok done) adds = adds
opens_by old new (Err fault) adds = tt

pub unopened_by : {L : Type 0} {S : Ghosts L} (origin : OriginModel) (inside outside : Option (List ℕ))
    (old : LogWriter L S) (ready : IsReady origin old) (last : LogWriter L S) (result : Result (Unit {0}) Fault) →
    LogAdds (running_log_of origin old) [] (string_bytes old.opening) old.output result last →
    IfErr result (λ fault. LogPost origin inside outside (Err fault) old last)
unopened_by origin inside outside old ready last (Ok done) adds = tt
unopened_by origin inside outside old ready last (Err fault) adds =
    unopened origin inside outside old ready last fault adds
