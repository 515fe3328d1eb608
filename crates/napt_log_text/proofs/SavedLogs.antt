-- The text of a log is its header, and then the rows of its events.
use Rattle.std.{proofs.{Common.{◌≡◌, Bool, true, false, if◌then◌else◌, None, List, [], ◌∷◌, ◌++◌, map, refl, sym, ◌∙◌, ap, append_assoc}, lemmas.{Grind.flat_map-append, List.Folds.flat_map-map}}, specs.List.flat_map}
use Rattle.napt_config.specs.Rules.{Rules}
use Rattle.napt_rules.specs.Prelude.{Arrival, State}
use Rattle.napt_account.specs.{declared.log.LogEntry.LogEntry, Log.LogModel, LogParts.{LogDelta, in_order_of_end}, ResumedLogRuns.left_of}
use Rattle.napt_log_text.specs.declared.event.LogEvent.{LogEvent}
use Rattle.napt_log_text.specs.{declared.event.LogEvent.TheVariants.{Repeated, Living}, Logs.{living_rows, log_added, log_so_far, log_text, opening_text, part_rows, rows_from, text_of}, Rows.{csv_header, csv_row}, LogReaders.{LogHasRows, events_after, part_events}, Times.TimeText}

rows_after-events : (rules : Rules) (state : State) (log : LogModel) (before inputs : List Arrival) →
    flat_map (csv_row rules) (events_after rules state log before inputs)
    ≡ log_added (text_of rules state None log) before inputs
rows_after-events rules state log before [] = refl
rows_after-events rules state log before (input ∷ inputs) =
    simp (flat_map-append, flat_map-map, rows_after-events rules state log (before ++ input ∷ []) inputs)

module _ (rules : Rules) where
  part_text : (part : LogDelta) → part_rows rules part ≡ flat_map (csv_row rules) (part_events part)
  part_text part = simp (flat_map-append, flat_map-map)

  opened : (before : LogModel) (new : Bool) → (if new then opening_text rules before else [])
      ≡ (if new then csv_header else []) ++ flat_map (csv_row rules) (if new then map Repeated before.entries else [])
  opened before true =
      ap (λ (t : TimeText). csv_header ++ t) (sym (flat_map-map (csv_row rules) Repeated before.entries))
  opened before false = refl

  ended : (living : List LogEntry) (goes_on : Bool) → (if goes_on then [] else living_rows rules living)
      ≡ flat_map (csv_row rules) (if goes_on then [] else map Living living)
  ended living true = refl
  ended living false = sym (flat_map-map (csv_row rules) Living living)

  in_turn : (header : TimeText) (first told later last : List LogEvent) → (let text = flat_map (csv_row rules) in
      (((header ++ text first) ++ text told) ++ text later) ++ text last
      ≡ header ++ text (first ++ (told ++ (later ++ last))))
  in_turn header first told later last = simp (flat_map-append, append_assoc)

pub has_rows : LogHasRows
unfolding log_text log_so_far rows_from
has_rows rules state origin goes_on inputs =
    let living : List LogEntry = in_order_of_end (left_of rules state origin.log inputs).entries in
    (λ i. (((opened rules origin.before origin.is_new i) ++ part_text rules origin.told i)
    ++ sym (rows_after-events rules state origin.log [] inputs) i) ++ ended rules living goes_on i)
    ∙ in_turn rules (if origin.is_new then csv_header else [])
    (if origin.is_new then map Repeated origin.before.entries else [])
    (part_events origin.told) (events_after rules state origin.log [] inputs)
    (if goes_on then [] else map Living living)
