-- The effect of a run on its log while outcomes leave.
use Rattle.std.specs.Int.NonZero.{non_zero_u32_get}
use Rattle.std.specs.Io.KnownBytes.{Appends}
use Rattle.std.specs.Prelude.{◌≡◌, ◌⊎◌, ℕ, ◌+◌, ◌<◌, ◌^◌, Bool, List, [], ◌∷◌, ◌++◌, length, map, false, if◌then◌else◌, Option, Some, None, option_map, string_bytes, Result, Ok, Err}
use Rattle.napt_capture.specs.declared.device.Sink.{Ghosts}
use Rattle.napt_account.specs.{Effects.{EffectsComeFrom, log_after}, Log.{LogModel, after_input, log_on}, LogBuilders.{IsBuilderFault, LogBuilderModel}, LogParts.{kept_at, living_at, part_between}}
use Rattle.napt_log_text.specs.{Logs.{living_rows, part_rows, piece_opening, rows_by, rows_from}, Times.TimeText}
use Rattle.napt_records.specs.declared.{Fault.{Fault, TheVariants.{Capture, Run, Write}}, Which.TheVariants.{Log}}
use Rattle.napt_sequential.specs.declared.fault.RunFault.TheVariants as reasons
use Rattle.napt_sequential.specs.declared.{fault.RunFault.RunFault, passage.{Passage.Passage, Trace.Trace}}
use Rattle.napt_rules.specs.Prelude.{Arrival}
use Rattle.napt_run.specs.{LogOrigins.LoggedOrigin, LogRuns.{Legs, traces_by}, Origins.OriginModel, Outputs.{OutputBreaks, OutputGrows}, declared.{output.Output.Output, log_writer.LogWriter.LogWriter}}

-- The laws of a log that follow from the effects of the legs of inputs.
pub record LogLawsHold (origin : OriginModel) (log : LogModel) : Type 0 where
  pub rows : (each : Option ℕ) (inputs : List Arrival) →
      rows_by origin.rules each None origin.state.clock log (traces_by origin inputs)
      ≡ rows_from origin.rules origin.state each log inputs
  pub is_log : (inputs : List Arrival) →
      log_after log (traces_by origin inputs) ≡ log_on origin.rules origin.state log inputs
  pub come : EffectsComeFrom origin.rules origin.state log

-- Returns the time of the last of these traces, or the given time if there are none.
abbrev pub last_trace_time : ℕ → List Trace → ℕ
last_trace_time now [] = now
last_trace_time now (trace ∷ traces) = last_trace_time trace.now traces

-- Returns the time of the last of these traces, or the given time, if any.
abbrev pub last_time : Option ℕ → List Trace → Option ℕ
last_time last [] = last
last_time last (trace ∷ traces) = last_time (Some trace.now) traces

-- No call of the log failed, or exactly one did if none had failed before.
abbrev pub FailsMore : Bool → ℕ → ℕ → Type 0
FailsMore is_broken old new = (new ≡ old) ⊎ ((is_broken ≡ false) × (new ≡ old + 1))

-- Returns the traces of inputs, from the passages of their legs.
abbrev pub running_log_traces : List (Legs Passage) → List Trace
running_log_traces all = map (λ legs. record { now = legs.0; first = legs.1; second = legs.2 }) all

-- Returns the log after these traces, and the rows of the traces after them.
abbrev pub known_logs : LoggedOrigin → List Trace → LogBuilderModel
known_logs from traces = record {
  rules = from.origin.rules;
  clock = last_trace_time from.origin.state.clock traces;
  log = log_after from.log traces;
  taken = length traces;
  is_stopped = false;
}

abbrev pub rows_in : LoggedOrigin → List Trace → List Trace → TimeText
rows_in from before traces = rows_by from.origin.rules from.each (last_time None before)
    (last_trace_time from.origin.state.clock before) (log_after from.log before) traces

-- Returns the rows of the live bindings at the end, or no text if another run continues.
abbrev pub ending_with : LoggedOrigin → List Trace → TimeText
ending_with from traces = if from.goes_on then []
    else living_rows from.origin.rules
    (living_at (last_trace_time from.origin.state.clock traces) (log_after from.log traces))

abbrev pub left_with : LoggedOrigin → List Trace → LogModel
left_with from traces = kept_at (last_trace_time from.origin.state.clock traces) (log_after from.log traces)

-- Returns the beginning of a piece, if one begins with an input after these traces.
abbrev pub opening_before : LoggedOrigin → List Trace → ℕ → TimeText
opening_before from before now =
    piece_opening from.origin.rules from.each (last_time None before) now (left_with from before)

-- Returns the rows of an input after these traces.
abbrev pub input_rows : LoggedOrigin → List Trace → Trace → TimeText
input_rows from before trace =
    let log : LogModel = log_after from.log before in
    opening_before from before trace.now ++ part_rows from.origin.rules
    (part_between (last_trace_time from.origin.state.clock before) trace.now log (after_input log trace))

module _ {L : Type 0} {S : Ghosts L} where
  -- The log recorded these traces, which are no more than it can count, and can continue.
  pub record LogIsAt (from : LoggedOrigin) (traces : List Trace) (it : LogWriter L S) : Type 0 where
    pub log : it.log ≡ known_logs from traces
    pub few : length traces < 2 ^ 62
    pub sound : it.output.is_broken ≡ false
    pub each : option_map non_zero_u32_get it.each ≡ from.each
    pub goes_on : it.goes_on ≡ from.goes_on

  -- Returns the origin of a log that begins at a state.
  abbrev pub running_log_of : OriginModel → LogWriter L S → LoggedOrigin
  running_log_of origin it = record {
    origin = origin;
    opening = string_bytes it.opening;
    log = it.log.log;
    each = option_map non_zero_u32_get it.each;
    goes_on = it.goes_on;
  }

  -- No trace was recorded, and nothing was written.
  pub record IsReady (origin : OriginModel) (it : LogWriter L S) : Type 0 where
    pub at : LogIsAt (running_log_of origin it) [] it
    pub laws : LogLawsHold origin it.log.log
    pub written : it.output.written ≡ 0

  -- The log has recorded these traces too, and this text was written.
  pub record LogGoesOnFrom (from : LoggedOrigin) (traces : List Trace) (text : TimeText) (old : Output L S)
      (new : LogWriter L S) : Type 0 where
    pub at : LogIsAt from traces new
    pub wrote : OutputGrows old text new.output

  -- The rows of these traces were written.
  abbrev pub Enters : LogWriter L S → List Trace → LogWriter L S → Type 0
  Enters old traces new = (from : LoggedOrigin) (before : List Trace) → LogIsAt from before old →
      LogGoesOnFrom from (before ++ traces) (rows_in from before traces) old.output new

  -- The log recorded the first of these traces and then failed.
  pub record LogHalts (from : LoggedOrigin) (before traces : List Trace) (fault : RunFault) (old new : LogWriter L S) :
      Type 0 where
    pub first : List Trace
    pub next : Trace
    pub others : List Trace
    pub all : traces ≡ first ++ (next ∷ others)
    pub wrote : OutputGrows old.output (rows_in from before first) new.output
    pub of_traces : IsBuilderFault (known_logs from (before ++ first)) next fault

  abbrev pub FailsBy : LoggedOrigin → List Trace → List Trace → Fault → LogWriter L S → LogWriter L S → Type 0
  FailsBy from before traces (Write Log fault) old new = OutputBreaks old.output (rows_in from before traces) fault
      new.output
  FailsBy from before traces (Run fault) old new = LogHalts from before traces fault old new
  FailsBy from before traces other old new = ⊥

  -- Recording these traces failed.
  abbrev pub LogFails : LogWriter L S → List Trace → Fault → LogWriter L S → Type 0
  LogFails old traces fault new = (from : LoggedOrigin) (before : List Trace) → LogIsAt from before old →
      FailsBy from before traces fault old new

  -- A text was written and flushed.
  pub record LogFlushes (from : LoggedOrigin) (traces : List Trace) (text : TimeText) (old : Output L S)
      (new : LogWriter L S) : Type 0 where
    pub on : LogGoesOnFrom from traces text old new
    pub flushed : S.is_flushed new.output.device.now

  abbrev pub LogAdds : LoggedOrigin → List Trace → TimeText → Output L S → Result (Unit {0}) Fault → LogWriter L S →
      Type 0
  LogAdds from traces text old (Ok done) new = LogFlushes from traces text old new
  LogAdds from traces text old (Err (Write Log fault)) new = OutputBreaks old text fault new.output
  LogAdds from traces text old (Err other) new = ⊥

  -- A text was made, and then written and flushed as in `Adds`. If making it fails, nothing was written.
  abbrev pub LogCloses : {T : Type 0} → LoggedOrigin → List Trace → TimeText → Output L S → Result T Fault →
      LogWriter L S →
      Type 0
  LogCloses from traces text old (Ok left) new = LogFlushes from traces text old new
  LogCloses from traces text old (Err (Write Log fault)) new = OutputBreaks old text fault new.output
  LogCloses from traces text old (Err (Run reasons.Memory)) new = new.output ≡ old
  LogCloses from traces text old (Err other) new = ⊥

  -- The opening of its text was written and flushed.
  abbrev pub LogOpens : LogWriter L S → LogWriter L S → Type 0
  LogOpens old new = (from : LoggedOrigin) → LogIsAt from [] old →
      LogFlushes from [] (string_bytes old.opening) old.output new

  -- After a fault the log is flushed, unless a call of it failed before or fails now.
  pub record FlushPost (old new : Output L S) : Type 0 where
    pub same : new.device.ghost_name ≡ old.device.ghost_name
    pub kept : Appends (S.contents old.device.now) (S.contents new.device.now) []
    pub counts : FailsMore old.is_broken (S.failed old.device.now) (S.failed new.device.now)
    pub tried : old.is_broken ≡ false →
        S.is_flushed new.device.now ⊎ (S.failed new.device.now ≡ S.failed old.device.now + 1)

  -- The log is flushed after a fault of the run, of a worker or of another output; after a fault of a capture it
  -- already is.
  abbrev pub IsAfterFault : Fault → LogWriter L S → LogWriter L S → Type 0
  IsAfterFault (Capture side fault) old new = new ≡ old
  IsAfterFault (Write Log fault) old new = new ≡ old
  IsAfterFault other old new = FlushPost old.output new.output

  -- The log recorded the next trace, and these are its rows.
  pub record EntersWith (from : LoggedOrigin) (before : List Trace) (trace : Trace) (old new : LogWriter L S)
      (text : TimeText) : Type 0 where
    pub log : new.log ≡ known_logs from (before ++ trace ∷ [])
    pub few : length before + 1 < 2 ^ 62
    pub output : new.output ≡ old.output
    pub each : new.each ≡ old.each
    pub goes_on : new.goes_on ≡ old.goes_on
    pub rows : text ≡ input_rows from before trace

  -- The log failed at the next trace.
  abbrev pub EntersNot : LoggedOrigin → List Trace → Trace → LogWriter L S → Fault → LogWriter L S → Type 0
  EntersNot from before trace old (Run fault) new =
      (new.output ≡ old.output) × IsBuilderFault (known_logs from before) trace fault
  EntersNot from before trace old other new = ⊥
