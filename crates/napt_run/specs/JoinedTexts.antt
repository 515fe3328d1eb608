-- LAW, from bytes to bytes: if captures are cut in two, a run over the first parts, and a run over the rest from the
-- saved state of the first run, write the texts of a run over the whole captures.
use Rattle.std.specs.Prelude.{◌≡◌, ℕ, ◌<◌, ◌^◌, List, ◌++◌, drop, length, Result, Ok}
use Rattle.napt_capture.specs.Text.{file_header}
use Rattle.napt_config.specs.Rules.{Rules, RulesInvariant}
use Rattle.napt_records.specs.{declared.Fault.Fault, Report.report_text}
use Rattle.napt_rules.specs.Prelude.{Each, IsStateInOrder, State, TakesState, inputs_from_clock, last_clock, next_state, run_then, with_redirects}
use Rattle.napt_run.specs.{Captures.{RunTexts, arrivals_of, read_both, texts_from}, Origins.{OriginModel, ran_by, resumed_origin}, declared.captures.CaptureFiles.CaptureFiles}

-- The records of the captures are those of their first parts, followed by those of the rest, and so are the inputs of a
-- run over them. `captures_can_be_cut` says that captures can be cut in this way after each input.
pub record AreCutInto (whole first rest : CaptureFiles) : Type 0 where
  pub inside : whole.inside.records ≡ first.inside.records ++ rest.inside.records
  pub outside : whole.outside.records ≡ first.outside.records ++ rest.outside.records
  pub inputs : arrivals_of whole ≡ arrivals_of first
      ++ inputs_from_clock (last_clock 0 (arrivals_of first)) (arrivals_of rest)

-- Returns the records of a capture, as they are written.
abbrev pub records_in : List ℕ → List ℕ
records_in bytes = drop (length file_header) bytes

-- The two runs write the texts of a run over the whole captures. The report is that of both together; its one premise
-- is that of `saved_runs_go_on`, whose rows have numbers of 16 bits.
pub record AreJoined (origin later : OriginModel) (whole first rest : CaptureFiles) (all : RunTexts)
    (of_first of_rest : Result RunTexts Fault) : Type 0 where
  pub texts : RunTexts
  pub more : RunTexts
  pub writes : of_first ≡ Ok texts
  pub goes_on : of_rest ≡ Ok more
  pub outside : all.outside ≡ texts.outside ++ records_in more.outside
  pub inside : all.inside ≡ texts.inside ++ records_in more.inside
  pub report : Each (λ r. r.external.number < 2 ^ 16) (ran_by origin (arrivals_of whole)).bindings →
      all.report ≡ report_text whole.inside.cut whole.outside.cut
      (run_then (ran_by origin (arrivals_of first)) (ran_by later (arrivals_of rest)))

abbrev pub TextsJoin : Type 0
TextsJoin = (rules : Rules) → RulesInvariant rules → (state saved : State) → TakesState rules state →
    (inside outside : List ℕ) (whole : CaptureFiles) → read_both inside outside ≡ Ok whole →
    (inside_first outside_first : List ℕ) (first : CaptureFiles) → read_both inside_first outside_first ≡ Ok first →
    (inside_rest outside_rest : List ℕ) (rest : CaptureFiles) → read_both inside_rest outside_rest ≡ Ok rest →
    AreCutInto whole first rest →
    IsStateInOrder rules (next_state rules (with_redirects rules state) (arrivals_of first)) saved →
    (all : RunTexts) → texts_from (resumed_origin rules state) inside outside ≡ Ok all →
    AreJoined (resumed_origin rules state) (resumed_origin rules saved) whole first rest all
    (texts_from (resumed_origin rules state) inside_first outside_first)
    (texts_from (resumed_origin rules saved) inside_rest outside_rest)
