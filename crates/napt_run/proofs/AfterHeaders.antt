-- The effect of a run follows from the inputs after the headers of its captures, and from its outputs.
use Rattle.std.proofs.lemmas.{Grind.common_steps, Bool.Decides.nat_tests}
use Rattle.std.proofs.Common.{◌≡◌, ◌⊎◌, inl, inr, ℕ, ◌≤◌, List, [], ◌++◌, length, Option, Some, None, Result, Ok, Err, IsOk, refl, sym, ◌∙◌, ap, ap₂, subst, arith, append-nil, append_assoc}
use Rattle.napt_wire.specs.declared.Side.{Side}
use Rattle.napt_wire.specs.declared.Side.TheVariants as sides
use Rattle.napt_capture.specs.declared.device.Sink as sink
use Rattle.napt_capture.specs.declared.device.Source as source
use Rattle.napt_capture.specs.{declared.fault.{CaptureFault.{CaptureFault, TheVariants.TooLarge}, WriteFault.WriteFault}, Reading.IsReadFault, Text.file_header}
use Rattle.napt_run.specs.Origins.{OriginModel, ran_by}
use Rattle.napt_dispatch.specs.RunsThrough.{HasCome}
use Rattle.napt_records.specs.{NewStreams.IsMergerNew, Counts.AreCountsOf, StreamMergers.{IsMergerLive, MergeEndsWith, HandsOutInputs, cut_of}, RecordMerging.MergedInputs, declared.Fault.Fault}
use Rattle.napt_records.specs.declared.{Fault.TheVariants.{Capture, Run, Write}, Which.{Which, TheVariants.{Outside, Inside, Report, Log}}, stream_merger.CutFlags.CutFlags}
use Rattle.napt_records.{specs.declared.stream_merger.StreamMerger.StreamMerger, proofs.HeadersRead.{came_fault, came_whole, handed_front, handed_timely}}
use Rattle.napt_records.proofs.ReaderRests.{StopsBy-then}
use Rattle.napt_laws.specs.Dispatching.{IsFrontOf}
use Rattle.napt_rules.specs.Prelude.{Arrival}
use Rattle.napt_sequential.specs.Inputs.{InputsCame}
use Rattle.napt_run.{specs.OutcomeWriters.{AreTimes, FailsBy, FailsToBegin, IsNewOutcomeWriter, IsSettled, SinkBegins, SinkTakes, TimedOutcome, records_text}, proofs.OutcomePrefixes.{capture_is, front_of, times_of}}
use Rattle.napt_run.specs.{OutcomeWriterLaws.{appends_none, breaks_more, grows_more, grows_none, records_text-append, times_first, times_second}, Outputs.{OutputBreaks, OutputGrows}}
use Rattle.napt_run.specs.CaptureRuns.{FailsAfter, PassesAll, PassesOr, RunPassesHalted}
use Rattle.napt_run.specs.{LogLaws.held, Posts.{AtMostOneMore, ExtentPost, FailedPost, OutputEnds, RunsTo, capture_to, may_have_ended, output_text_by}, Runs.{IfHeld, run_left_of}, Files.files_until}
use Rattle.napt_run.specs.{Streams.{AreInputsBeforeFault, IsStreamFaultOf, IsOfRun, IsReading, IsSettledBy, capture_text, side_of}, declared.{output.Output.Output, outcome_writer.OutcomeWriter.OutcomeWriter, capture_run.ReportData.ReportData}}
use Rattle.napt_run.proofs.{OpenStreams.{ReadBy, read_somehow, read_to_fault, read_well, told}, LaterBreaks.first_within, OutcomeCounts.all_counted, BytesAtEnd.{IfHeld-by, IsCapture, broken, ends, grown, grown_if, headed, inside_is, none_held, outside_is, same_text}, Files.{begun_files, files_large}}

-- WHAT IS KNOWN OF THE CAPTURES

abbrev pub Ended : Side → CaptureFault → MergedInputs → List Arrival → Type 0
Ended side fault all inputs = all ≡ record { arrivals = inputs; end = Err (record { side = side; fault = fault }) }

ended_is : (side : Side) (fault : CaptureFault) (all : MergedInputs) (inputs : List Arrival) →
    Ended side fault all inputs →
    all.end ≡ Err (record { side = side; fault = fault })
ended_is side fault all inputs is = ap (λ (i : MergedInputs). i.end) is

fault_told : (side : Side) (fault : CaptureFault) (all : MergedInputs) (inputs : List Arrival) →
    (all.end ≡ Err (record { side = side; fault = TooLarge }) → ⊥) → IsReadFault fault (Ended side fault all inputs) →
    IsStreamFaultOf side fault all
fault_told side fault all inputs never stops = grind (arith, common_steps, nat_tests, ended_is)

-- The inputs that were taken before a fault, which is the fault of the files.
pub record Refuses (side : Side) (fault : CaptureFault) (all : MergedInputs) (inputs : List Arrival) : Type 0 where
  pub taken : AreInputsBeforeFault side fault all inputs
  pub is_fault : IsStreamFaultOf side fault all

pub refuses : (side : Side) (fault : CaptureFault) (bytes others : List ℕ) (inputs : List Arrival) →
    IsFrontOf inputs (files_until bytes others).arrivals →
    IsReadFault fault (Ended side fault (files_until bytes others) inputs)
    → Refuses side fault (files_until bytes others) inputs
refuses side fault bytes others inputs front stops = record {
  taken = (front, stops);
  is_fault = fault_told side fault (files_until bytes others) inputs (files_large bytes others side) stops;
}

pub taken_of : (side : Side) (fault : CaptureFault) (inputs : List Arrival) (inside outside : Option (List ℕ)) →
    IfHeld inside outside (λ all. Refuses side fault all inputs) →
    IfHeld inside outside (λ all. AreInputsBeforeFault side fault all inputs)
taken_of side fault inputs inside outside refused = held (λ all. Refuses side fault all inputs)
    (λ all. AreInputsBeforeFault side fault all inputs) inside outside (λ all r. r.taken) refused

pub fault_of : (side : Side) (fault : CaptureFault) (inputs : List Arrival) (inside outside : Option (List ℕ)) →
    IfHeld inside outside (λ all. Refuses side fault all inputs) →
    IfHeld inside outside (IsStreamFaultOf side fault)
fault_of side fault inputs inside outside refused = held (λ all. Refuses side fault all inputs)
    (IsStreamFaultOf side fault) inside outside (λ all r. r.is_fault) refused

-- ONE OUTPUT, after its header

module _ {D : Type 0} {S : sink.Ghosts D} (origin : OriginModel) (side : Side) (inputs : List Arrival)
    (old mid new : Output D S) (begun : OutputGrows old file_header mid) where
  abbrev Left : List ℕ
  Left = records_text side (run_left_of origin inputs)

  pub grown_behind : OutputGrows mid Left new → OutputGrows old (capture_text origin side inputs) new
  grown_behind p = subst (λ (l : List ℕ). OutputGrows old l new) (capture_is origin side inputs)
      (grows_more old mid new _ _ begun p)

  pub broken_behind : (fault : WriteFault) → OutputBreaks mid Left fault new →
      (p : OutputBreaks old (capture_text origin side inputs) fault new) × (length file_header ≤ p.count)
  broken_behind fault p =
      subst (λ (l : List ℕ). (p : OutputBreaks old l fault new) × (length file_header ≤ p.count))
      (capture_is origin side inputs)
      (breaks_more old mid new _ _ fault begun p, first_within old mid new _ _ fault begun p)

-- If the run or its log failed, an output has at least its header.
module _ {D : Type 0} {S : sink.Ghosts D} (origin : OriginModel) (inside outside : Option (List ℕ)) (which : Which)
    (old new : Output D S) where
  -- It contains the records of some first inputs, or a part of them if writing it failed.
  pub record HasSome : Type 0 where
    pub inputs : List Arrival
    pub front : IfHeld inside outside (λ all. IsFrontOf inputs all.arrivals)
    pub left : OutputGrows old (capture_text origin (side_of which) inputs) new
        ⊎ ((fault : WriteFault) × (p : OutputBreaks old (capture_text origin (side_of which) inputs) fault new)
        × (length file_header ≤ p.count))

  halted_at : (result : Result (Unit {0}) Fault) → (IsSettledBy result → ⊥) →
      ((all : MergedInputs) (inputs : List Arrival) (count size : ℕ) → length file_header ≤ count →
      ExtentPost which result all inputs count size) →
      (AtMostOneMore (S.failed old.device.now) (S.failed new.device.now) →
      FailedPost which result (S.failed old.device.now) (S.failed new.device.now)) → (inputs : List Arrival) →
      IfHeld inside outside (λ all. IsFrontOf inputs all.arrivals) →
      OutputGrows old (capture_text origin (side_of which) inputs) new
      ⊎ ((fault : WriteFault) × (p : OutputBreaks old (capture_text origin (side_of which) inputs) fault new)
      × (length file_header ≤ p.count)) → OutputEnds (capture_to which origin) which inside outside result old new
  halted_at result never extent failed inputs front (inl p) =
      grown _ which inside outside result old new inputs _ (same_text origin which (may_have_ended result) inputs)
      front p
      (λ all. extent all inputs _ (length (capture_text origin (side_of which) inputs))
      (headed origin (side_of which) inputs)) (λ is. failed (inl is)) (λ settled. absurd (never settled))
  halted_at result never extent failed inputs front (inr (fault, p, begun)) =
      broken _ which inside outside result old new inputs _ (same_text origin which (may_have_ended result) inputs)
      front
      fault p (λ all. extent all inputs p.count (length (capture_text origin (side_of which) inputs)) begun)
      (λ is. failed (inr is)) never

  pub halted_ends : IsCapture which → (result : Result (Unit {0}) Fault) → IsOfRun result → HasSome →
      OutputEnds (capture_to which origin) which inside outside result old new
  halted_ends of (Err (Run fault)) run p = halted_at (Err (Run fault)) (λ settled. settled)
      (λ all inputs count size begun. of.begun count begun) (λ f. f) p.inputs p.front p.left
  halted_ends of (Err (Write Log fault)) run p = halted_at (Err (Write Log fault)) (λ settled. settled)
      (λ all inputs count size begun. of.log_extent fault count size (of.begun count begun))
      (of.log_failed _ _) p.inputs p.front p.left
  halted_ends of (Ok done) run p = absurd run
  halted_ends of (Err (Capture side fault)) run p = absurd run
  halted_ends of (Err (Write Outside fault)) run p = absurd run
  halted_ends of (Err (Write Inside fault)) run p = absurd run
  halted_ends of (Err (Write Report fault)) run p = absurd run

  -- Otherwise it contains all records of these inputs, and it is flushed.
  pub settled_ends : (result : Result (Unit {0}) Fault) (inputs : List Arrival) →
      output_text_by (capture_to which origin) result inputs ≡ capture_text origin (side_of which) inputs →
      IfHeld inside outside (λ all. IsFrontOf inputs all.arrivals) →
      OutputGrows old (capture_text origin (side_of which) inputs) new → S.is_flushed new.device.now →
      IfHeld inside outside (λ all. ExtentPost which result all inputs
      (length (capture_text origin (side_of which) inputs))
      (length (capture_text origin (side_of which) inputs))) →
      (S.failed new.device.now ≡ S.failed old.device.now → FailedPost which result (S.failed old.device.now)
      (S.failed new.device.now)) → OutputEnds (capture_to which origin) which inside outside result old new
  settled_ends result inputs is front p flushed extent failed =
      grown_if _ which inside outside result old new inputs _ is front p extent failed (λ settled. flushed)

-- WHAT CAME

module _ {R Q : Type 0} {G : source.Ghosts R} {H : source.Ghosts Q} (begin end : StreamMerger R Q G H)
    (bytes others : Option (List ℕ))
    (begun : (b o : List ℕ) → bytes ≡ Some b → others ≡ Some o → IsMergerNew begin b o) where
  front_at : (inputs first later : List Arrival) (mid : StreamMerger R Q G H) → inputs ≡ first ++ later →
      HandsOutInputs begin inputs mid → (b o : List ℕ) → bytes ≡ Some b → others ≡ Some o →
      IsFrontOf first (files_until b o).arrivals
  front_at inputs first later mid whole handed b o is same =
      let p = begun b o is same in
      let (left, split) = handed_front begin mid b o inputs p handed in (
        later ++ left,
        sym (ap (λ (i : MergedInputs). i.arrivals) (begun_files begin b o p) ∙ split
            ∙ ap (λ (l : List Arrival). l ++ left) whole ∙ append_assoc first later left),
      )

  pub front : (inputs first later : List Arrival) (mid : StreamMerger R Q G H) → inputs ≡ first ++ later →
      HandsOutInputs begin inputs mid → IfHeld bytes others (λ all. IsFrontOf first all.arrivals)
  front inputs first later mid whole handed =
      IfHeld-by (λ all. IsFrontOf first all.arrivals) bytes others (front_at inputs first later mid whole handed)

  -- They are all inputs.
  pub whole_is : (inputs : List Arrival) (cuts : CutFlags) →
      InputsCame HandsOutInputs MergeEndsWith begin inputs None end →
      cuts.inside ≡ cut_of end.inside → cuts.outside ≡ cut_of end.outside →
      IfHeld bytes others (λ all. all ≡ record { arrivals = inputs; end = Ok cuts })
  whole_is inputs cuts came cut_inside cut_outside =
      IfHeld-by (λ all. all ≡ record { arrivals = inputs; end = Ok cuts }) bytes others (λ b o is same.
      begun_files begin b o (begun b o is same) ∙ came_whole begin end b o inputs (begun b o is same) came
      ∙ ap₂ (λ x y. record { arrivals = inputs; end = Ok (record { inside = x; outside = y }) })
      (sym cut_inside) (sym cut_outside))

  refused : (side : Side) (fault : CaptureFault) (inputs : List Arrival) →
      InputsCame HandsOutInputs MergeEndsWith begin inputs (Some (record { side = side; fault = fault })) end →
      (b o : List ℕ) →
      bytes ≡ Some b → others ≡ Some o → Refuses side fault (files_until b o) inputs
  refused side fault inputs came b o is same =
      let of_files = begun_files begin b o (begun b o is same) in
      refuses side fault b o inputs (front_at inputs inputs [] came.last (sym (append-nil inputs)) came.handed b o
      is same) (StopsBy-then fault (λ stops. of_files ∙ stops) (came_fault begin end b o
      inputs (record { side = side; fault = fault }) (begun b o is same) came))

  -- They are all before the fault.
  pub refused_held : (side : Side) (fault : CaptureFault) (inputs : List Arrival) →
      InputsCame HandsOutInputs MergeEndsWith begin inputs (Some (record { side = side; fault = fault })) end →
      IfHeld bytes others (λ all. Refuses side fault all inputs)
  refused_held side fault inputs came =
      IfHeld-by (λ all. Refuses side fault all inputs) bytes others (refused side fault inputs came)

  came_somehow : (inputs : List Arrival) → HasCome HandsOutInputs MergeEndsWith begin inputs end →
      (mid : StreamMerger R Q G H) × HandsOutInputs begin inputs mid
  came_somehow inputs (inl handed) = (end, handed)
  came_somehow inputs (inr (stop, came)) = (came.last, came.handed)

-- WHAT THE OUTPUTS HAVE

module _ {W V : Type 0} {S : sink.Ghosts W} {T : sink.Ghosts V} (origin : OriginModel) (bytes others : Option (List ℕ))
    (start new : OutcomeWriter W V S T) where
  abbrev pub To : Result ReportData Fault → Type 0
  To result = RunsTo origin bytes others start new result

  abbrev GrownOutside : List Arrival → Type 0
  GrownOutside inputs = OutputGrows start.to_outside (capture_text origin sides.Outside inputs) new.to_outside

  abbrev GrownInside : List Arrival → Type 0
  GrownInside inputs = OutputGrows start.to_inside (capture_text origin sides.Inside inputs) new.to_inside

  -- A capture had a fault.
  pub to_fault : (side : Side) (fault : CaptureFault) (inputs : List Arrival) →
      IfHeld bytes others (λ all. Refuses side fault all inputs) → GrownOutside inputs → GrownInside inputs →
      IsSettled new → To (Err (Capture side fault))
  to_fault side fault inputs refused ours theirs settled =
      let R : MergedInputs → Type 0 = λ all. Refuses side fault all inputs in
      let first = held R (λ all. IsFrontOf inputs all.arrivals) bytes others (λ all r. r.taken.0) refused in
      let extent : (size : ℕ) → IfHeld bytes others
      (λ all. IsReadFault fault (Ended side fault all inputs) × (size ≡ size)) =
      λ size. held R (λ all. IsReadFault fault (Ended side fault all inputs) × (size ≡ size)) bytes others
      (λ all r. (r.taken.1, refl)) refused in
      record {
        to_outside = settled_ends origin bytes others Outside start.to_outside new.to_outside (Err (Capture side fault))
            inputs refl first ours settled.0 (extent _) (λ is. is);
        to_inside = settled_ends origin bytes others Inside start.to_inside new.to_inside (Err (Capture side fault))
            inputs refl first theirs settled.1 (extent _) (λ is. is);
        told = tt;
      }

  -- The output to the outside failed, and the one to the inside has the text of some first inputs, or it was not begun.
  pub fails_outside : start.to_outside.written ≡ 0 → (fault : WriteFault) (inputs : List Arrival) →
      IfHeld bytes others (λ all. IsFrontOf inputs all.arrivals) →
      OutputBreaks start.to_outside (capture_text origin sides.Outside inputs) fault new.to_outside →
      OutputEnds (capture_to Inside origin) Inside bytes others (Err (Write Outside fault)) start.to_inside
      new.to_inside →
      To (Err (Write Outside fault))
  fails_outside none fault inputs first broke kept = record {
    to_outside = broken _ Outside bytes others (Err (Write Outside fault)) start.to_outside new.to_outside inputs _ refl
        first fault broke (λ all. omega (arith, broke.counted 0 (omega (arith, none))))
        (λ is. is) (λ settled. settled);
    to_inside = kept;
    told = tt;
  }

  -- The output to the inside failed.
  pub fails_inside : start.to_inside.written ≡ 0 → (fault : WriteFault) (inputs : List Arrival) →
      IfHeld bytes others (λ all. IsFrontOf inputs all.arrivals) → GrownOutside inputs →
      OutputBreaks start.to_inside (capture_text origin sides.Inside inputs) fault new.to_inside →
      To (Err (Write Inside fault))
  fails_inside none fault inputs first ours broke = record {
    to_outside = grown _ Outside bytes others (Err (Write Inside fault)) start.to_outside new.to_outside inputs _ refl
        first ours (λ all. refl) (λ is. is) (λ settled. absurd settled);
    to_inside = broken _ Inside bytes others (Err (Write Inside fault)) start.to_inside new.to_inside inputs _ refl
        first fault broke (λ all. omega (arith, broke.counted 0 (omega (arith, none))))
        (λ is. is) (λ settled. settled);
    told = tt;
  }

  -- The headers could not be written.
  pub unheaded : IsNewOutcomeWriter start → (fault : Fault) → FailsToBegin start fault new → To (Err fault)
  unheaded is_new (Write Outside fault) (broke, same) =
      let none = none_held bytes others in
      let counted = broke.counted 0 (omega (arith, is_new.none_outside)) in
      fails_outside is_new.none_outside fault [] none (subst (λ (l : List ℕ). OutputBreaks start.to_outside l fault
      new.to_outside) (sym (append-nil file_header) ∙ capture_is origin sides.Outside []) broke)
      (subst (λ (o : Output V T). OutputEnds (capture_to Inside origin) Inside bytes others (Err (Write Outside fault))
      start.to_inside o) (sym same)
      (ends _ Inside bytes others (Err (Write Outside fault)) start.to_inside start.to_inside [] _ refl none 0
      (omega arith)
      (appends_none _) (λ all. inr (refl, omega (arith, counted, broke.within))) refl refl
      (λ settled. absurd settled)))
  unheaded is_new (Write Inside fault) (wrote, broke) =
      fails_inside is_new.none_inside fault [] (none_held bytes others)
      (subst (λ (l : List ℕ). OutputGrows start.to_outside l new.to_outside)
      (sym (append-nil file_header) ∙ capture_is origin sides.Outside []) wrote)
      (subst (λ (l : List ℕ). OutputBreaks start.to_inside l fault new.to_inside)
      (sym (append-nil file_header) ∙ capture_is origin sides.Inside []) broke)
  unheaded is_new (Write Report fault) p = absurd p
  unheaded is_new (Write Log fault) p = absurd p
  unheaded is_new (Capture side fault) p = absurd p
  unheaded is_new (Run fault) p = absurd p

pub none_read : {W V : Type 0} {S : sink.Ghosts W} {T : sink.Ghosts V} (start new : OutcomeWriter W V S T)
    (fault : Fault) →
    FailsToBegin start fault new →
    (let told : Result ReportData Fault = Err fault in IsReading told (Ok tt))
none_read start new (Write Outside fault) p = tt
none_read start new (Write Inside fault) p = tt
none_read start new (Write Report fault) p = absurd p
none_read start new (Write Log fault) p = absurd p
none_read start new (Capture side fault) p = absurd p
none_read start new (Run fault) p = absurd p

-- A header of a capture was refused.
pub unread : {W V : Type 0} {S : sink.Ghosts W} {T : sink.Ghosts V} (origin : OriginModel)
    (bytes others : Option (List ℕ)) (start mid : OutcomeWriter W V S T) → SinkBegins start mid → IsSettled mid →
    (side : Side) (fault : CaptureFault) → IfHeld bytes others (λ all. Refuses side fault all []) →
    RunsTo origin bytes others start mid (Err (Capture side fault))
unread origin bytes others start mid begins settled side fault refuses =
    to_fault origin bytes others start mid side fault [] refuses
    (grown_behind origin sides.Outside [] start.to_outside mid.to_outside mid.to_outside begins.to_outside
    (grows_none mid.to_outside))
    (grown_behind origin sides.Inside [] start.to_inside mid.to_inside mid.to_inside begins.to_inside
    (grows_none mid.to_inside)) settled

-- WHAT THE RUN DID

module _ {R Q W V : Type 0} {G : source.Ghosts R} {H : source.Ghosts Q} {S : sink.Ghosts W} {T : sink.Ghosts V}
    (origin : OriginModel) (begin : StreamMerger R Q G H) (start mid : OutcomeWriter W V S T)
    (end : StreamMerger R Q G H)
    (new : OutcomeWriter W V S T) (bytes others : Option (List ℕ)) (live : IsMergerLive begin)
    (begun : (b o : List ℕ) → bytes ≡ Some b → others ≡ Some o → IsMergerNew begin b o)
    (is_new : IsNewOutcomeWriter start) (begins : SinkBegins start mid) where
  times : (inputs : List Arrival) (mid : StreamMerger R Q G H) → HandsOutInputs begin inputs mid → AreTimes
      (run_left_of origin inputs)
  times inputs mid handed = grind (arith, common_steps, nat_tests, times_of, handed_timely)

  grown_outside : (inputs : List Arrival) (left : List TimedOutcome) → left ≡ run_left_of origin inputs →
      OutputGrows mid.to_outside (records_text sides.Outside left) new.to_outside →
      OutputGrows start.to_outside (capture_text origin sides.Outside inputs) new.to_outside
  grown_outside inputs left is p = grown_behind origin sides.Outside inputs start.to_outside mid.to_outside
      new.to_outside begins.to_outside (subst (λ (l : List TimedOutcome). OutputGrows mid.to_outside
      (records_text sides.Outside l) new.to_outside) is p)

  grown_inside : (inputs : List Arrival) (left : List TimedOutcome) → left ≡ run_left_of origin inputs →
      OutputGrows mid.to_inside (records_text sides.Inside left) new.to_inside →
      OutputGrows start.to_inside (capture_text origin sides.Inside inputs) new.to_inside
  grown_inside inputs left is p = grown_behind origin sides.Inside inputs start.to_inside mid.to_inside
      new.to_inside begins.to_inside (subst (λ (l : List TimedOutcome). OutputGrows mid.to_inside
      (records_text sides.Inside l) new.to_inside) is p)

  well : (totals : ReportData) → PassesAll origin begin mid end new totals →
      RunsTo origin bytes others start new (Ok totals)
  well totals p =
      let whole = p.well.whole in
      let inputs = whole.inputs in
      let all = times inputs whole.came.last whole.came.handed in
      let is = whole_is begin end bytes others begun inputs totals.cuts whole.came p.cut_inside p.cut_outside in
      let Is : MergedInputs → Type 0 = λ all. all ≡ record { arrivals = inputs; end = Ok totals.cuts } in
      let first = held Is (λ all. IsFrontOf inputs all.arrivals) bytes others
      (λ all same. rw same ([], append-nil inputs))
      is in
      let extent : (size : ℕ) → IfHeld bytes others (λ all. IsOk all.end × (inputs ≡ all.arrivals) × (size ≡ size)) =
      λ size. held Is (λ all. IsOk all.end × (inputs ≡ all.arrivals) × (size ≡ size)) bytes others
      (λ all same. rw same (refl, refl, refl)) is in
      record {
        to_outside = settled_ends origin bytes others Outside start.to_outside new.to_outside (Ok tt) inputs refl first
            (grown_outside inputs _ refl (whole.took.to_outside all)) whole.settled.0
            (extent _) (λ same. same);
        to_inside = settled_ends origin bytes others Inside start.to_inside new.to_inside (Ok tt) inputs refl first
            (grown_inside inputs _ refl (whole.took.to_inside all)) whole.settled.1
            (extent _) (λ same. same);
        told = record {
          inputs = inputs;
          all = is;
          counts = subst (λ c. AreCountsOf (ran_by origin inputs).outcomes c) (sym p.counts)
              (all_counted origin inputs mid new (subst (λ c. AreCountsOf [] c) (sym begins.counts) is_new.counts)
              whole.few whole.took);
          bindings = p.well.bindings;
          leaves = p.well.leaves;
        };
      }

  -- The outputs reported a fault.
  record Early (fault : Fault) : Type 0 where
    went_is : List Arrival
    first_is : List Arrival
    first : List TimedOutcome
    later : List TimedOutcome
    middle : OutcomeWriter W V S T
    front_went : IfHeld bytes others (λ all. IsFrontOf went_is all.arrivals)
    front_first : IfHeld bytes others (λ all. IsFrontOf first_is all.arrivals)
    both_are : first ++ later ≡ run_left_of origin went_is
    first_are : first ≡ run_left_of origin first_is
    took_outside : OutputGrows mid.to_outside (records_text sides.Outside first) middle.to_outside
    took_inside : OutputGrows mid.to_inside (records_text sides.Inside first) middle.to_inside
    failed : FailsBy middle later fault new

  early : (fault : Fault) (inputs : List Arrival) (went : List TimedOutcome) →
      HasCome HandsOutInputs MergeEndsWith begin inputs end → IsFrontOf went (run_left_of origin inputs) →
      FailsAfter mid went fault new → Early fault
  early fault inputs went come front_is f =
      let (at, handed) = came_somehow begin end bytes others begun inputs come in
      let (rest, is) = front_is in
      let went_of = front_of origin inputs went front_is in
      let split : f.first ++ (f.others ++ rest) ≡ run_left_of origin inputs =
      sym (append_assoc f.first f.others rest)
      ∙ ap (λ (l : List TimedOutcome). l ++ rest) (sym f.went_is) ∙ is in
      let begun_of = front_of origin inputs f.first (f.others ++ rest, split) in
      let all = subst AreTimes (sym split) (times inputs at handed) in
      let first_times = times_first f.first (f.others ++ rest) all in
      let later_times = times_first f.others rest (times_second f.first (f.others ++ rest) all) in
      let outside_grew = f.took.to_outside first_times in
      let inside_grew = f.took.to_inside first_times in
      record {
        went_is = went_of.first;
        first_is = begun_of.first;
        first = f.first;
        later = f.others;
        middle = f.middle;
        front_went = front begin end bytes others begun inputs went_of.first went_of.later at went_of.whole handed;
        front_first = front begin end bytes others begun inputs begun_of.first begun_of.later at begun_of.whole handed;
        both_are = sym f.went_is ∙ went_of.went_is;
        first_are = begun_of.went_is;
        took_outside = outside_grew;
        took_inside = inside_grew;
        failed = f.failed (
          outside_grew.sound (begins.to_outside.sound is_new.sound.0),
          inside_grew.sound (begins.to_inside.sound is_new.sound.1),
        ) later_times;
      }

  -- The text of both parts.
  text_of_both : (side : Side) (first later : List TimedOutcome) →
      records_text side first ++ records_text side later ≡ records_text side (first ++ later)
  text_of_both side first later = sym (records_text-append side first later)

  outside_broke : (fault : WriteFault) (e : Early (Write Outside fault)) →
      (p : OutputBreaks start.to_outside (capture_text origin sides.Outside e.went_is) fault new.to_outside)
      × (length file_header ≤ p.count)
  outside_broke fault e = broken_behind origin sides.Outside e.went_is start.to_outside mid.to_outside new.to_outside
      begins.to_outside fault (subst (λ (l : List ℕ). OutputBreaks mid.to_outside l fault new.to_outside)
      (text_of_both sides.Outside e.first e.later
      ∙ ap (λ (l : List TimedOutcome). records_text sides.Outside l) e.both_are)
      (breaks_more mid.to_outside e.middle.to_outside new.to_outside _ _ fault e.took_outside e.failed.0))

  inside_kept : (fault : WriteFault) (e : Early (Write Outside fault)) →
      OutputGrows start.to_inside (capture_text origin sides.Inside e.first_is) new.to_inside
  inside_kept fault e = grown_inside e.first_is e.first e.first_are
      (subst (λ (l : List ℕ). OutputGrows mid.to_inside l new.to_inside)
      (append-nil (records_text sides.Inside e.first))
      (grows_more mid.to_inside e.middle.to_inside new.to_inside _ _ e.took_inside e.failed.1))

  outside_wrote : (fault : WriteFault) (e : Early (Write Inside fault)) →
      OutputGrows start.to_outside (capture_text origin sides.Outside e.went_is) new.to_outside
  outside_wrote fault e = grown_outside e.went_is (e.first ++ e.later) e.both_are
      (subst (λ (l : List ℕ). OutputGrows mid.to_outside l new.to_outside) (text_of_both sides.Outside e.first e.later)
      (grows_more mid.to_outside e.middle.to_outside new.to_outside _ _ e.took_outside e.failed.0))

  inside_broke : (fault : WriteFault) (e : Early (Write Inside fault)) →
      (p : OutputBreaks start.to_inside (capture_text origin sides.Inside e.went_is) fault new.to_inside)
      × (length file_header ≤ p.count)
  inside_broke fault e = broken_behind origin sides.Inside e.went_is start.to_inside mid.to_inside new.to_inside
      begins.to_inside fault (subst (λ (l : List ℕ). OutputBreaks mid.to_inside l fault new.to_inside)
      (text_of_both sides.Inside e.first e.later ∙
      ap (λ (l : List TimedOutcome). records_text sides.Inside l) e.both_are)
      (breaks_more mid.to_inside e.middle.to_inside new.to_inside _ _ fault e.took_inside e.failed.1))

  -- The run itself failed, or its log; an output may have failed before.
  abbrev Halts : Type 0
  Halts = HasSome origin bytes others Outside start.to_outside new.to_outside
      × HasSome origin bytes others Inside start.to_inside new.to_inside

  halted : (inputs : List Arrival) (went : List TimedOutcome) → HasCome HandsOutInputs MergeEndsWith begin inputs end →
      IsFrontOf went (run_left_of origin inputs) → SinkTakes mid went new → Halts
  halted inputs went come front_is took =
      let (at, handed) = came_somehow begin end bytes others begun inputs come in
      let first = front_of origin inputs went front_is in
      let all = times_first went front_is.0 (subst AreTimes (sym front_is.1) (times inputs at handed)) in
      let held_front = front begin end bytes others begun inputs first.first first.later at first.whole handed in (
        record {
          inputs = first.first;
          front = held_front;
          left = inl (grown_outside first.first went first.went_is (took.to_outside all));
        },
        record {
          inputs = first.first;
          front = held_front;
          left = inl (grown_inside first.first went first.went_is (took.to_inside all));
        },
      )

  failed : (fault : Fault) → Early fault → Halts
  failed (Write Outside fault) e = (
    record {
      inputs = e.went_is;
      front = e.front_went;
      left =
          inr (fault, (outside_broke fault e).0, (outside_broke fault e).1);
    },
    record { inputs = e.first_is; front = e.front_first; left = inl (inside_kept fault e) },
  )
  failed (Write Inside fault) e = (
    record { inputs = e.went_is; front = e.front_went; left = inl (outside_wrote fault e) },
    record {
      inputs = e.went_is;
      front = e.front_went;
      left =
          inr (fault, (inside_broke fault e).0, (inside_broke fault e).1);
    },
  )
  failed (Write Report fault) e = absurd e.failed
  failed (Write Log fault) e = absurd e.failed
  failed (Capture side fault) e = absurd e.failed
  failed (Run fault) e = absurd e.failed

  halts : RunPassesHalted origin HandsOutInputs MergeEndsWith begin mid end new → Halts
  halts p = elim p.took [
    | inl took ↦ halted p.inputs p.went p.come p.front took
    | inr fails ↦ failed fails.0 (early fails.0 p.inputs p.went p.come p.front fails.1)
  ]

  halts_to : (fault : Fault) → (let r : Result (Unit {0}) Fault = Err fault in IsOfRun r) → Halts →
      RunsTo origin bytes others start new (Err fault)
  halts_to fault run p = record {
    to_outside = halted_ends origin bytes others Outside start.to_outside new.to_outside outside_is (Err fault) run p.0;
    to_inside = halted_ends origin bytes others Inside start.to_inside new.to_inside inside_is (Err fault) run p.1;
    told = tt;
  }

  pub runs_to : (result : Result ReportData Fault) → PassesOr origin begin mid end new result →
      RunsTo origin bytes others start new result
  runs_to (Ok totals) p = well totals p
  runs_to (Err (Capture side fault)) p =
      let all = times p.inputs p.came.last p.came.handed in
      to_fault origin bytes others start new side fault p.inputs
      (refused_held begin end bytes others begun side fault p.inputs p.came)
      (grown_outside p.inputs _ refl (p.took.to_outside all)) (grown_inside p.inputs _ refl (p.took.to_inside all))
      p.settled
  runs_to (Err (Write Outside fault)) p =
      let e = early (Write Outside fault) p.inputs p.went p.come p.front p.failed in
      fails_outside origin bytes others start new is_new.none_outside fault e.went_is e.front_went
      (outside_broke fault e).0
      (grown _ Inside bytes others (Err (Write Outside fault)) start.to_inside new.to_inside e.first_is _ refl
      e.front_first
      (inside_kept fault e) (λ all. inl refl) (λ is. is) (λ settled. absurd settled))
  runs_to (Err (Write Inside fault)) p =
      let e = early (Write Inside fault) p.inputs p.went p.come p.front p.failed in
      fails_inside origin bytes others start new is_new.none_inside fault e.went_is e.front_went (outside_wrote fault e)
      (inside_broke fault e).0
  runs_to (Err (Write Report fault)) p = absurd p
  runs_to (Err (Write Log fault)) p = halts_to (Write Log fault) tt (halts p)
  runs_to (Err (Run fault)) p = halts_to (Run fault) tt (halts p)

-- The number of reads that failed.
module _ {R Q W V : Type 0} {G : source.Ghosts R} {H : source.Ghosts Q} {S : sink.Ghosts W} {T : sink.Ghosts V}
    (origin : OriginModel) (begin end : StreamMerger R Q G H) (mid new : OutcomeWriter W V S T)
    (live : IsMergerLive begin)
  where
    pub reads_of : (result : Result ReportData Fault) → PassesOr origin begin mid end new result →
        (¬ IsOfRun result) → (read : Result (Unit {0}) Fault) × IsReading result read × ReadBy begin end live read
    reads_of (Ok totals) p not_run = (Ok tt, refl, read_well begin end live p.well.whole.inputs p.well.whole.came)
    reads_of (Err (Capture side fault)) p not_run =
        (told side fault, refl, read_to_fault begin end live p.inputs (record { side = side; fault = fault }) p.came)
    reads_of (Err (Write Outside fault)) p not_run = read_somehow begin end live p.inputs p.come
    reads_of (Err (Write Inside fault)) p not_run = read_somehow begin end live p.inputs p.come
    reads_of (Err (Write Report fault)) p not_run = absurd p
    reads_of (Err (Write Log fault)) p not_run = absurd (not_run tt)
    reads_of (Err (Run fault)) p not_run = absurd (not_run tt)
