-- The outcomes of a prefix of the inputs are a prefix of the outcomes.
use Rattle.std.proofs.{lemmas.{Grind.common_steps, Bool.Decides.nat_tests, List.{length-take-le, take-append-drop}}, Math.Seq.take-append_seam}
use Rattle.std.proofs.Common.{◌≡◌, suc, ◌≤◌, List, [], ◌∷◌, ◌++◌, length, map, take, drop, All, filter_map, flat_map, refl, sym, ◌∙◌, ap, arith, length-append}
use Rattle.std.proofs.lemmas.List.Elements.{All-head, All-tail, All-nil, All-cons}
use Rattle.napt_wire.specs.declared.Side.{Side}
use Rattle.napt_capture.specs.Text.{file_header, text}
use Rattle.napt_run.specs.Origins.{OriginModel, ran_by}
use Rattle.napt_dispatch.specs.RunsThrough.{timed_results}
use Rattle.napt_records.specs.Output.{IsTime, IsTimely, packet_to, record_at, records_to}
use Rattle.napt_rules.specs.{Prelude.{Arrival, effect_from, last_clock, run_from}, declared.Outcome.Outcome}
use Rattle.napt_laws.{specs.Dispatching.IsFrontOf, proofs.OneMoreInput.{outcomes_long, run_append}}
use Rattle.napt_run.specs.{OutcomeWriters.{AreTimes, TimedOutcome, records_text}, Runs.run_left_of, Streams.capture_text}

-- TEXTS

records_same : (side : Side) (inputs : List Arrival) (outcomes : List Outcome) →
    filter_map (λ (t : TimedOutcome). record_at t.0 (packet_to side t.1)) (timed_results inputs outcomes)
    ≡ records_to side inputs
    outcomes
records_same side [] outcomes = refl
records_same side (input ∷ inputs) [] = refl
records_same side (input ∷ inputs) (outcome ∷ outcomes) =
    grind (arith, common_steps, nat_tests, records_same side inputs outcomes)

pub capture_is : (origin : OriginModel) (side : Side) (inputs : List Arrival) → file_header ++ records_text side
    (run_left_of origin inputs) ≡ capture_text origin side inputs
unfolding text
capture_is origin side inputs = grind (arith, common_steps, nat_tests, flat_map, records_same)

-- TIMES

pub times_of : (inputs : List Arrival) (outcomes : List Outcome) → All IsTimely inputs → AreTimes
    (timed_results inputs outcomes)
times_of [] outcomes all = All-nil (λ (t : TimedOutcome). IsTime t.0)
times_of (input ∷ inputs) [] all = All-nil (λ (t : TimedOutcome). IsTime t.0)
times_of (input ∷ inputs) (outcome ∷ outcomes) all =
    grind (
      arith,
      common_steps,
      nat_tests,
      All-cons,
      All-head,
      All-tail,
      times_of inputs outcomes (All-tail IsTimely input inputs all),
    )

-- OUTCOMES

pub outcomes_of : (origin : OriginModel) (inputs : List Arrival) → (ran_by origin inputs).outcomes
    ≡ (effect_from origin.rules origin.state inputs).outcomes
unfolding ran_by
outcomes_of origin inputs = refl

pub as_many : (origin : OriginModel) (inputs : List Arrival) → length (ran_by origin inputs).outcomes ≡ length inputs
as_many origin inputs = grind (arith, common_steps, nat_tests, outcomes_of, outcomes_long)

pub outcomes_back : (inputs : List Arrival) (outcomes : List Outcome) → length outcomes ≡ length inputs →
    map (λ (t : TimedOutcome). t.1) (timed_results inputs outcomes) ≡ outcomes
outcomes_back [] [] same = refl
outcomes_back [] (outcome ∷ outcomes) same = absurd (omega (arith, same))
outcomes_back (input ∷ inputs) [] same = absurd (omega (arith, same))
outcomes_back (input ∷ inputs) (outcome ∷ outcomes) same =
    ap (λ (l : List Outcome). outcome ∷ l) (outcomes_back inputs outcomes (omega (arith, same)))

timed_long : (inputs : List Arrival) (outcomes : List Outcome) → length outcomes ≡ length inputs →
    length (timed_results inputs outcomes) ≡ length inputs
timed_long [] outcomes same = refl
timed_long (input ∷ inputs) [] same = omega (arith, same)
timed_long (input ∷ inputs) (outcome ∷ outcomes) same = ap suc (timed_long inputs outcomes (omega (arith, same)))

left_long : (origin : OriginModel) (inputs : List Arrival) → length (run_left_of origin inputs) ≡ length inputs
left_long origin inputs = timed_long inputs (ran_by origin inputs).outcomes (as_many origin inputs)

-- PREFIXES

timed_append : (xs ys : List Arrival) (os ps : List Outcome) → length os ≡ length xs →
    timed_results (xs ++ ys) (os ++ ps)
    ≡ timed_results xs os ++ timed_results ys ps
timed_append [] ys [] ps same = refl
timed_append [] ys (o ∷ os) ps same = absurd (omega (arith, same))
timed_append (x ∷ xs) ys [] ps same = absurd (omega (arith, same))
timed_append (x ∷ xs) ys (o ∷ os) ps same =
    ap (λ (l : List TimedOutcome). (x.time, o) ∷ l) (timed_append xs ys os ps (omega (arith, same)))

pub left_front : (origin : OriginModel) (xs ys : List Arrival) → (more : List TimedOutcome) × (run_left_of origin
    (xs ++ ys) ≡ run_left_of origin xs ++ more)
left_front origin xs ys =
    let later : List Outcome =
    (run_from origin.rules (length xs) (last_clock origin.state.clock xs) ys
    (effect_from origin.rules origin.state xs).list).outcomes in
    let whole : (ran_by origin (xs ++ ys)).outcomes ≡ (ran_by origin xs).outcomes ++ later =
    outcomes_of origin (xs ++ ys)
    ∙ ap (λ c. c.outcomes) (run_append origin.rules 0 origin.state.clock xs ys origin.state.list (length xs)
    (omega arith))
    ∙ ap (λ (l : List Outcome). l ++ later) (sym (outcomes_of origin xs)) in (
      timed_results ys later,
      ap (timed_results (xs ++ ys)) whole ∙ timed_append xs ys (ran_by origin xs).outcomes later (as_many origin xs),
    )

pub same_front : {X : Type 0} (a b x y : List X) → length a ≡ length b → a ++ x ≡ b ++ y → a ≡ b
same_front a b x y n e = sym (take-append_seam a x) ∙ ap (take (length a)) e ∙ ap (λ k. take k (b ++ y)) n
    ∙ take-append_seam b y

-- The inputs whose outcomes left.
pub record Front (origin : OriginModel) (inputs : List Arrival) (went : List TimedOutcome) : Type 0 where
  pub first : List Arrival
  pub later : List Arrival
  pub whole : inputs ≡ first ++ later
  pub went_is : went ≡ run_left_of origin first

pub front_of : (origin : OriginModel) (inputs : List Arrival) (went : List TimedOutcome) →
    IsFrontOf went (run_left_of origin inputs) →
    Front origin inputs went
front_of origin inputs went (rest, is) =
    let first : List Arrival = take (length went) inputs in
    let later : List Arrival = drop (length went) inputs in
    let whole : first ++ later ≡ inputs = take-append-drop (length went) inputs in
    let long : length (went ++ rest) ≡ length inputs = ap (λ (l : List TimedOutcome). length l) is
    ∙ left_long origin inputs in
    let fits : length went ≤ length inputs = omega (arith, long, length-append went rest) in
    let (more, split) = left_front origin first later in
    let ends : went ++ rest ≡ run_left_of origin first ++ more = is ∙ ap (run_left_of origin) (sym whole) ∙ split in
    record {
      first = first;
      later = later;
      whole = sym whole;
      went_is = same_front went (run_left_of origin first) rest more
          (sym (left_long origin first ∙ length-take-le (length went) inputs fits)) ends;
    }
