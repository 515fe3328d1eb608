-- The origin of the log of a run, and the text of the log.
use Rattle.std.specs.{Prelude.{◌≡◌, ℕ, List, Bool, true, false, if◌then◌else◌, [], ◌++◌, Option, None, option_map, string_bytes}, Int.NonZero.non_zero_u32_get}
use Rattle.napt_config.specs.Rules.{Rules}
use Rattle.napt_account.specs.{Log.LogModel, LogParts.in_order_of_end, LogStarts.{SavedLogStateModel, log_before, log_started, no_saved_log, started_part}, ResumedLogRuns.{IsLogOf, left_of}, declared.log_start.LogFromState.LogFromState}
use Rattle.napt_log_text.specs.{Logs.{LogOrigin, first_part, first_text, living_rows, log_anew, log_so_far, log_text, rows_from}, Times.TimeText}
use Rattle.napt_rules.specs.Prelude.{Arrival, State, initial_state, with_redirects}
use Rattle.napt_run.specs.{Origins.{OriginModel, origin_of}, declared.{start.Start.Start, log_start.{LogStart.LogStart, ResumedLog.ResumedLog}}}

-- The texts of a log: after the inputs so far, and at the end of the run over them.
pub record LogTexts : Type 0 where
  pub so_far : List Arrival → TimeText
  pub whole : List Arrival → TimeText

-- Returns the texts of a run from the state before any input.
abbrev pub texts_anew : Rules → LogTexts
texts_anew rules = record {
  so_far = log_so_far rules (initial_state rules) (log_anew rules) None;
  whole = log_text rules (initial_state rules) (log_anew rules) None false;
}

-- Returns the origin of the log of a run: the saved log of its state, as the configuration accepts it.
abbrev pub origin_saved : Rules → State → SavedLogStateModel → Bool → LogOrigin
origin_saved rules state saved is_new = record {
  before = log_before rules state saved;
  log = log_started rules state saved;
  told = started_part rules state saved;
  is_new = is_new;
}

abbrev pub log_origin : Start → LogStart → LogOrigin
log_origin start log_start =
    origin_saved start.config.now start.state.now log_start.saved.now log_start.is_new

-- Returns the texts of a log that begins at a start.
abbrev pub texts_from : Start → LogStart → LogTexts
texts_from start log_start =
    let origin : OriginModel = origin_of start in
    let log : LogOrigin = log_origin start log_start in
    let each : Option ℕ = option_map non_zero_u32_get log_start.each in
    record {
      so_far = log_so_far origin.rules origin.state log each;
      whole = log_text origin.rules origin.state log each log_start.goes_on;
    }

-- If a state contains no saved log, the log of a run from it, in one piece, is that of a run from the state before any
-- input.
abbrev pub BeginsLogsAnew : State → Type 0
BeginsLogsAnew state = (rules : Rules) (saved : SavedLogStateModel) → saved ≡ no_saved_log →
    (let origin : LogOrigin = origin_saved rules state saved true in let t : LogTexts = record {
      so_far = log_so_far rules (with_redirects rules state) origin None;
      whole = log_text rules (with_redirects rules state) origin None false;
    } in t) ≡ texts_anew rules

-- STEPS

-- Returns the same origin, as the code computes it.
abbrev pub origin_from : LogFromState → Bool → LogOrigin
origin_from started is_new = record {
  before = started.before;
  log = started.log.log;
  told = first_part started.ended.items started.made.items;
  is_new = is_new;
}

-- The code begins the log from this origin, with the beginning of its text.
pub record IsResumedFrom (start : Start) (log_start : LogStart) (taken : ResumedLog) : Type 0 where
  pub of : IsLogOf start.config.now (origin_of start).state (log_origin start log_start).log
  pub known : taken.log ≡ record {
    rules = start.config.now;
    clock = start.state.now.clock;
    log = (log_origin start log_start).log;
    taken = 0;
    is_stopped = false;
  }
  pub opening : string_bytes taken.opening ≡ first_text start.config.now (log_origin start log_start)

-- The origin of a run with a log: the beginning of its text, the log, the seconds in a piece, and whether it continues.
pub record LoggedOrigin : Type 0 where
  pub origin : OriginModel
  pub opening : TimeText
  pub log : LogModel
  pub each : Option ℕ
  pub goes_on : Bool

unfoldable pub text_so_far : LoggedOrigin → List Arrival → TimeText
text_so_far from inputs =
    from.opening ++ rows_from from.origin.rules from.origin.state from.each from.log inputs

-- Returns the rows of the live bindings, unless another run continues the log.
unfoldable pub ending : LoggedOrigin → List Arrival → TimeText
ending from inputs = if from.goes_on then []
    else living_rows from.origin.rules
    (in_order_of_end (left_of from.origin.rules from.origin.state from.log inputs).entries)

unfoldable pub whole_text : LoggedOrigin → List Arrival → TimeText
whole_text from inputs = text_so_far from inputs ++ ending from inputs

abbrev pub texts_of : LoggedOrigin → LogTexts
texts_of from = record { so_far = text_so_far from; whole = whole_text from }
