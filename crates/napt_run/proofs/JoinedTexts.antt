-- Two runs over the parts of captures write what one run over the whole captures writes.
use Rattle.std.proofs.lemmas.{Grind.{common_steps, flat_map-append}, Bool.{Decides.nat_tests, true≢false}, List.{Elements.filter_map-append, length-append}}
use Rattle.std.proofs.Common.{◌≡◌, ℕ, suc, ◌+◌, ◌<◌, ◌≤◌, ◌^◌, max, nat_le, Bool, true, false, if◌then◌else◌, List, [], ◌∷◌, ◌++◌, drop, length, map, filter_map, Option, Result, Ok, Err, refl, sym, ◌∙◌, ap, subst, arith, append_assoc}
use Rattle.std.{specs.List.{flat_map, zip}, proofs.Math.Seq.drop-append_seam}
use Rattle.napt_capture.specs.{Contents.RecordModel, Text.{file_header, record_text, text}}
use Rattle.napt_config.specs.Rules.{Rules, RulesInvariant}
use Rattle.napt_laws.proofs.OneMoreInput.{outcomes_long}
use Rattle.napt_records.specs.{declared.Fault.{Fault, TheVariants.Run}, Output.{packet_to, record_at, records_to}, Report.report_text}
use Rattle.napt_rules.specs.Prelude.{Arrival, Each, EarlierClocksAreTheStates, IsStateInOrder, RunEffect, RunResult, SavedRunGoesOn, SavedRunsGoOn, Side, State, TakesState, effect_from, inputs_from_clock, last_clock, next_state, raised, run_result_from, run_result_of, run_then, with_redirects}
use Rattle.napt_rules.specs.declared.Outcome.{Outcome}
use Rattle.napt_sequential.specs.declared.fault.RunFault.TheVariants.{TooMany}
use Rattle.napt_wire.specs.declared.Side.TheVariants as sides
use Rattle.napt_run.specs.Captures.{RunTexts, arrivals_of, texts_by, texts_made}
use Rattle.napt_run.specs.{JoinedTexts.{AreCutInto, TextsJoin, records_in}, Origins.{OriginModel, ran_by, resumed_origin}, declared.captures.CaptureFiles.CaptureFiles}

-- WHAT IS WRITTEN

text_joined : (xs ys : List RecordModel) → text (xs ++ ys) ≡ text xs ++ records_in (text ys)
unfolding text
text_joined xs ys =
    ap (λ (l : List ℕ). file_header ++ l) (flat_map-append record_text xs ys)
    ∙ (sym (append_assoc file_header (flat_map record_text xs) (flat_map record_text ys))
    ∙ ap (λ (l : List ℕ). (file_header ++ flat_map record_text xs) ++ l)
    (sym (drop-append_seam file_header (flat_map record_text ys))))

zip_joined : (xs ys : List Arrival) (os ps : List Outcome) → length os ≡ length xs →
    zip (xs ++ ys) (os ++ ps) ≡ zip xs os ++ zip ys ps
zip_joined [] ys [] ps long = refl
zip_joined [] ys (o ∷ os) ps long = absurd (omega (arith, long))
zip_joined (a ∷ xs) ys [] ps long = absurd (omega (arith, long))
zip_joined (a ∷ xs) ys (o ∷ os) ps long =
    ap (λ (l : List (Arrival × Outcome)). (a, o) ∷ l) (zip_joined xs ys os ps (omega (arith, long)))

module _ (side : Side) where
  abbrev made : Arrival × Outcome → Option RecordModel
  made pair = record_at pair.0.time (packet_to side pair.1)

  records_joined : (xs ys : List Arrival) (os ps : List Outcome) → length os ≡ length xs →
      records_to side (xs ++ ys) (os ++ ps) ≡ records_to side xs os ++ records_to side ys ps
  records_joined xs ys os ps long =
      ap (filter_map made)
      (zip_joined xs ys os ps long)
      ∙ filter_map-append made (zip xs os) (zip ys ps)

  -- The times of records are not those of the clock.
  records_raised : (clock : ℕ) (xs : List Arrival) (os : List Outcome) →
      records_to side (inputs_from_clock clock xs) os ≡ records_to side xs os
  records_raised clock [] os = refl
  records_raised clock (a ∷ xs) [] = refl
  records_raised clock (a ∷ xs) (o ∷ os) =
      filter_map-append made
      ((a, o) ∷ []) (zip (inputs_from_clock clock xs) os)
      ∙ (ap (λ (l : List RecordModel). filter_map made ((a, o) ∷ []) ++ l) (records_raised clock xs os)
      ∙ sym (filter_map-append made
      ((a, o) ∷ []) (zip xs os)))

-- THE CLOCK

later_clock : (c n : ℕ) (xs : List Arrival) → c ≤ n → last_clock c xs ≤ last_clock n xs
later_clock c n [] le = le
later_clock c n (a ∷ xs) le = later_clock (max c a.clock) (max n a.clock) xs (omega (arith, le))

raised_twice : (c n : ℕ) → c ≤ n → (xs : List Arrival) → inputs_from_clock n (inputs_from_clock c xs) ≡
    inputs_from_clock n xs
raised_twice c n le [] = refl
raised_twice c n le (a ∷ xs) =
    let same : max n (max c a.clock) ≡ max n a.clock = omega (arith, le) in
    ap (λ (m : ℕ). record a { clock = m } ∷ inputs_from_clock n (inputs_from_clock c xs)) same
    ∙ ap (λ (l : List Arrival). raised n a ∷ l) (raised_twice c n le xs)

-- WHAT A RUN MAKES OF CAPTURES

abbrev many : CaptureFiles → ℕ
many captures = length captures.inside.records + length captures.outside.records

made_all : (origin : OriginModel) (captures : CaptureFiles) (all : RunTexts) → texts_by origin (Ok captures) ≡ Ok all →
    (nat_le (2 ^ 32) (many captures) ≡ false) × (texts_made origin captures ≡ all)
made_all origin captures all is = elim (nat_le (2 ^ 32) (many captures)) as (λ v.
    (if v then Err (Run TooMany) else Ok (texts_made origin captures)) ≡ Ok all →
    (v ≡ false) × (texts_made origin captures ≡ all)) [ true ↦ λ e. cc | false ↦ λ e. (refl, cc) ] is

made_of : (origin : OriginModel) (captures : CaptureFiles) → nat_le (2 ^ 32) (many captures) ≡ false →
    texts_by origin (Ok captures) ≡ Ok (texts_made origin captures)
made_of origin captures few = ap (λ v. if v then Err (Run TooMany) else Ok (texts_made origin captures)) few

fewer : (m n : ℕ) → m ≤ n → nat_le (2 ^ 32) n ≡ false → nat_le (2 ^ 32) m ≡ false
fewer m n le few = grind (arith, nat_tests, le, few)

module _ (clocks : EarlierClocksAreTheStates) (go_on : SavedRunsGoOn) (rules : Rules) (keeps : RulesInvariant rules)
    (state saved : State) (takes : TakesState rules state) (whole first rest : CaptureFiles)
    (cut : AreCutInto whole first rest)
    (order : IsStateInOrder rules (next_state rules (with_redirects rules state) (arrivals_of first)) saved) where
  abbrev origin : OriginModel
  origin = resumed_origin rules state

  abbrev later : OriginModel
  later = resumed_origin rules saved

  abbrev ones : List Arrival
  ones = arrivals_of first

  abbrev others : List Arrival
  others = arrivals_of rest

  abbrev behind : List Arrival
  behind = inputs_from_clock (last_clock 0 ones) others

  went : SavedRunGoesOn rules (with_redirects rules state) saved ones behind
  went = go_on rules keeps state saved takes ones behind order

  was_earlier : last_clock 0 ones ≤ saved.clock
  was_earlier = (let at = order.clock in let before = later_clock 0 state.clock ones (omega arith) in
      omega (arith, at, before))

  same_effect : effect_from rules later.state behind ≡ effect_from rules later.state others
  same_effect = sym (clocks rules later.state behind).course
      ∙ (ap (effect_from rules later.state) (raised_twice (last_clock 0 ones) saved.clock was_earlier others)
      ∙ (clocks rules later.state others).course)

  same_last : last_clock saved.clock behind ≡ last_clock saved.clock others
  same_last = sym (clocks rules later.state behind).last
      ∙ (ap (last_clock saved.clock) (raised_twice (last_clock 0 ones) saved.clock was_earlier others)
      ∙ (clocks rules later.state others).last)

  outcomes_all : (effect_from rules origin.state (arrivals_of whole)).outcomes
      ≡ (effect_from rules origin.state ones).outcomes ++ (effect_from rules later.state others).outcomes
  outcomes_all = ap (λ (all : List Arrival). (effect_from rules origin.state all).outcomes) cut.inputs
      ∙ (went.outcomes ∙ ap (λ (c : RunEffect). (effect_from rules origin.state ones).outcomes ++ c.outcomes)
      same_effect)

  texts_all : (side : Side) → text (records_to side (arrivals_of whole) (ran_by origin (arrivals_of whole)).outcomes)
      ≡ text (records_to side ones (ran_by origin ones).outcomes)
      ++ records_in (text (records_to side others (ran_by later others).outcomes))
  unfolding ran_by
  texts_all side =
      ap text ((λ i. records_to side (cut.inputs i) (outcomes_all i))
      ∙ (records_joined side ones behind (effect_from rules origin.state ones).outcomes
      (effect_from rules later.state others).outcomes (outcomes_long rules 0 state.clock ones origin.state.list)
      ∙ ap (λ (l : List RecordModel). records_to side ones (effect_from rules origin.state ones).outcomes ++ l)
      (records_raised side (last_clock 0 ones) others (effect_from rules later.state others).outcomes)))
      ∙ text_joined (records_to side ones (effect_from rules origin.state ones).outcomes)
      (records_to side others (effect_from rules later.state others).outcomes)

  results_join : Each (λ r. r.external.number < 2 ^ 16) (ran_by origin (arrivals_of whole)).bindings →
      ran_by origin (arrivals_of whole) ≡ run_then (ran_by origin ones) (ran_by later others)
  unfolding ran_by
  results_join rows =
      let both : run_result_from rules later.state behind ≡ run_result_from rules later.state others =
      λ i. run_result_of rules (same_last i) (same_effect i) in
      ap (run_result_from rules origin.state) cut.inputs
      ∙ (went.ran (subst (λ (all : List Arrival).
      Each (λ r. r.external.number < 2 ^ 16) (run_result_from rules origin.state all).bindings) cut.inputs rows)
      ∙ ap (run_then (run_result_from rules origin.state ones)) both)

pub texts_join : EarlierClocksAreTheStates → SavedRunsGoOn → TextsJoin
unfolding ran_by
texts_join clocks go_on rules keeps state saved takes inside outside whole read ins outs first read_first ins' outs'
    rest
    read_rest cut order all is =
    let origin : OriginModel = resumed_origin rules state in
    let later : OriginModel = resumed_origin rules saved in
    let made = made_all origin whole all (sym (ap (texts_by origin) read) ∙ is) in
    let inner = ap length cut.inside ∙ length-append first.inside.records rest.inside.records in
    let outer = ap length cut.outside ∙ length-append first.outside.records rest.outside.records in
    let few = fewer (many first) (many whole) (omega (arith, inner, outer)) made.0 in
    let fewer_rest = fewer (many rest) (many whole) (omega (arith, inner, outer)) made.0 in
    let texts = texts_all clocks go_on rules keeps state saved takes whole first rest cut order in
    record {
      texts = texts_made origin first;
      more = texts_made later rest;
      writes = ap (texts_by origin) read_first ∙ made_of origin first few;
      goes_on = ap (texts_by later) read_rest ∙ made_of later rest fewer_rest;
      outside = ap (λ (t : RunTexts). t.outside) (sym made.1) ∙ texts sides.Outside;
      inside = ap (λ (t : RunTexts). t.inside) (sym made.1) ∙ texts sides.Inside;
      report = λ rows. ap (λ (t : RunTexts). t.report) (sym made.1)
          ∙ ap (report_text whole.inside.cut whole.outside.cut)
          (results_join clocks go_on rules keeps state saved takes whole first rest cut order rows);
    }
