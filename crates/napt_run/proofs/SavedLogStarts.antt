-- A log begins from the saved log of a state. Before any input it is the log of a new run.
use Rattle.std.proofs.{Common.{◌≡◌, ℕ, Bool, true, string_bytes, lit<, List, [], false, Option, None, refl, sym, ◌∙◌, ap, ap₂, subst, append-nil}}
use Rattle.std.specs.{Prelude.option_map, Int.NonZero.non_zero_u32_get}
use Rattle.napt_config.specs.Rules.{Rules}
use Rattle.napt_rules.specs.Prelude.{Binding, State, initial_state, opening, with_redirects}
use Rattle.napt_account.specs.{Log.LogModel, LogBuilders.LogBuilderModel, LogStarts.{SavedLogStateModel, StartedLogsBeginAnew, empty_state, no_saved_log}, ResumedLogRuns.IsLogOf}
use Rattle.napt_log_text.specs.{Logs.{LogOrigin, first_part, first_text, log_so_far, log_text, rows_from}, Times.TimeText}
use Rattle.napt_capture.specs.declared.device.Sink.{Ghosts}
use Rattle.napt_run.specs.LogOrigins.{IsResumedFrom, LogTexts, LoggedOrigin, ending, log_origin, origin_saved, text_so_far, texts_anew, texts_from, texts_of, whole_text}
use Rattle.napt_run.specs.{Origins.{OriginModel, origin_of}, RunningLogs.{LogLawsHold, IsReady}, declared.{start.Start.Start, log_writer.LogWriter.LogWriter}}
use Rattle.napt_run.specs.declared.log_start.{LogStart.LogStart, ResumedLog.ResumedLog}

-- BEFORE ANY INPUT

module _ (rules : Rules) where
  abbrev texts_at : State → LogOrigin → LogTexts
  texts_at state origin =
      record { so_far = log_so_far rules state origin None; whole = log_text rules state origin None false }

  -- A log without entries, which gets the redirects first.
  abbrev told_anew : LogModel → LogOrigin
  told_anew log =
      let none : LogModel = record { made = 0; entries = []; shortages = [] } in
      record { before = none; log = log; told = first_part [] log.entries; is_new = true }

  redirects_are : with_redirects rules empty_state ≡ initial_state rules
  redirects_are = ap (λ (l : List Binding). let state : State = record { clock = 0; list = l } in state)
      (append-nil (opening rules))

  texts_of_none : StartedLogsBeginAnew → texts_at (with_redirects rules empty_state)
      (origin_saved rules empty_state no_saved_log true) ≡ texts_anew rules
  texts_of_none begin =
      ap₂ (λ (state : State) (log : LogModel). texts_at state (told_anew log)) redirects_are (begin rules)

pub texts_begin : StartedLogsBeginAnew → (rules : Rules) (items : List Binding) (saved : SavedLogStateModel) →
    items ≡ [] → saved ≡ no_saved_log → (let state : State = record { clock = 0; list = items } in
    texts_at rules (with_redirects rules state) (origin_saved rules state saved true)) ≡ texts_anew rules
texts_begin begin rules items saved empty none =
    ap₂ (λ (l : List Binding) (kept : SavedLogStateModel). let state : State = record { clock = 0; list = l } in
    texts_at rules (with_redirects rules state) (origin_saved rules state kept true)) empty none
    ∙ texts_of_none rules begin

-- THE TEXTS OF A LOG THAT GOES ON

pub texts_go_on : (origin : OriginModel) (log : LogOrigin) (each : Option ℕ) (goes_on : Bool) → texts_of (record {
  origin = origin;
  opening = first_text origin.rules log;
  log = log.log;
  each = each;
  goes_on = goes_on;
}) ≡ record {
  so_far = log_so_far origin.rules origin.state log each;
  whole = log_text origin.rules origin.state log each goes_on;
}
unfolding text_so_far whole_text ending log_so_far log_text rows_from
texts_go_on origin log each goes_on = refl

same_origin : (origin : OriginModel) (a b : TimeText) (log other : LogModel) (each same : Option ℕ)
    (goes_on also : Bool) →
    a ≡ b → log ≡ other → each ≡ same → goes_on ≡ also → (let f : LoggedOrigin = record {
      origin = origin;
      opening = a;
      log = log;
      each = each;
      goes_on = goes_on;
    } in f) ≡ record { origin = origin; opening = b; log = other; each = same; goes_on = also }
same_origin origin a b log other each same goes_on also text kept pieces goes = cc

module _ (start : Start) (log_start : LogStart) (taken : ResumedLog)
    (is_taken : IsResumedFrom start log_start taken) where
  pub log_of : taken.log.log ≡ (log_origin start log_start).log
  log_of = ap (λ (l : LogBuilderModel). l.log) is_taken.known

  pub ready : {L : Type 0} {S : Ghosts L} →
      ((log : LogModel) → IsLogOf start.config.now (origin_of start).state log → LogLawsHold (origin_of start) log) →
      (it : LogWriter L S) → it.log ≡ taken.log → it.output.is_broken ≡ false → it.output.written ≡ 0 →
      IsReady (origin_of start) it
  ready laws it is sound written =
      let same : it.log.log ≡ (log_origin start log_start).log = ap (λ (l : LogBuilderModel). l.log) is ∙ log_of in
      record {
        at = record {
          log = is ∙ (is_taken.known ∙ ap (λ (log : LogModel). let l : LogBuilderModel = record {
            rules = start.config.now;
            clock = start.state.now.clock;
            log = log;
            taken = 0;
            is_stopped = false;
          } in l) (sym same));
          few = lit< tt;
          sound = sound;
          each = refl;
          goes_on = refl;
        };
        laws = laws it.log.log (subst (IsLogOf start.config.now (origin_of start).state) (sym same) is_taken.of);
        written = written;
      }

  -- The texts of the log are those of the definition.
  pub texts_taken : texts_of (record {
    origin = origin_of start;
    opening = string_bytes taken.opening;
    log = taken.log.log;
    each = option_map non_zero_u32_get log_start.each;
    goes_on = log_start.goes_on;
  }) ≡ texts_from start log_start
  texts_taken =
      ap texts_of (same_origin (origin_of start) _ _ _ _ _ _ _ _ is_taken.opening log_of refl refl)
      ∙ texts_go_on (origin_of start) (log_origin start log_start) (option_map non_zero_u32_get log_start.each)
      log_start.goes_on
