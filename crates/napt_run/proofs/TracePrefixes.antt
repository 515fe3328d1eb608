-- A prefix of the traces of a run is the traces of a prefix of its inputs.
use Rattle.std.proofs.Common.{◌≡◌, ℕ, ◌+◌, max, List, [], ◌∷◌, ◌++◌, length, map, take, drop, refl, sym, ◌∙◌, ap, arith, append_assoc, length-append}
use Rattle.std.proofs.lemmas.List.{length-map, length-take-le, map-append, take-append-drop}
use Rattle.napt_run.specs.Origins.{OriginModel}
use Rattle.napt_rules.specs.Prelude.{Arrival, effect_from, last_clock, step}
use Rattle.napt_sequential.{specs.{Traces.trace_of, declared.passage.Trace.Trace}, proofs.{StepsInOrder.{traces_begin, traces_long}, StepTraceSteps.traces_grow}}
use Rattle.napt_run.{specs.LogRuns.traces_by, proofs.OutcomePrefixes.same_front}

module _ {X : Type 0} (of : Trace → X) (origin : OriginModel) where
  pub long : (inputs : List Arrival) → length (map of (traces_by origin inputs)) ≡ length inputs
  long inputs = length-map (traces_by origin inputs) of ∙ traces_long origin.rules 0 origin.state.clock inputs
      origin.state.list

  -- The inputs to which these traces belong.
  pub record TraceFront (inputs : List Arrival) (went : List X) : Type 0 where
    pub first : List Arrival
    pub later : List Arrival
    pub whole : first ++ later ≡ inputs
    pub went_is : went ≡ map of (traces_by origin first)

  pub trace_front : (inputs : List Arrival) (went rest : List X) → went ++ rest ≡ map of (traces_by origin inputs) →
      TraceFront inputs went
  trace_front inputs went rest is =
      let first : List Arrival = take (length went) inputs in
      let later : List Arrival = drop (length went) inputs in
      let whole : first ++ later ≡ inputs = take-append-drop (length went) inputs in
      let many : length (went ++ rest) ≡ length inputs = ap (λ (l : List X). length l) is ∙ long inputs in
      let fits = length-append went rest in
      let (more, split) = traces_begin origin.rules 0 origin.state.clock first later origin.state.list in
      let ends : went ++ rest ≡ map of (traces_by origin first) ++ map of more =
      is ∙ (ap (λ (l : List Arrival). map of (traces_by origin l)) (sym whole)
      ∙ (ap (λ (l : List Trace). map of l) (sym split) ∙ map-append of (traces_by origin first) more)) in
      record {
        first = first;
        later = later;
        whole = whole;
        went_is = same_front went (map of (traces_by origin first)) rest (map of more)
            (sym (long first ∙ length-take-le (length went) inputs (omega (arith, many, fits)))) ends;
      }

-- THE NEXT TRACE

map_same : {X : Type 0} (xs : List X) → map (λ x. x) xs ≡ xs
map_same [] = refl
map_same (x ∷ xs) = ap (λ l. x ∷ l) (map_same xs)

last_of : {X : Type 0} (xs : List X) (n : ℕ) → length xs ≡ n + 1 →
    (front : List X) × (last : X) × (xs ≡ front ++ last ∷ [])
last_of [] n long = absurd (omega (arith, long))
last_of (x ∷ []) n long = ([], x, refl)
last_of (x ∷ (y ∷ xs)) n long =
    let all = last_of (y ∷ xs) (length xs) (omega arith) in (x ∷ all.0, all.1, ap (λ l. x ∷ l) all.2)

same_last : {X : Type 0} (xs ys : List X) (x y : X) → length xs ≡ length ys → xs ++ x ∷ [] ≡ ys ++ y ∷ [] → x ≡ y
same_last [] [] x y long e = cc (e)
same_last [] (w ∷ ys) x y long e = absurd (omega (arith, long))
same_last (z ∷ xs) [] x y long e = absurd (omega (arith, long))
same_last (z ∷ xs) (w ∷ ys) x y long e = same_last xs ys x y (omega (arith, long)) (cc (e))

-- The inputs before the one to which the next trace belongs.
pub record NextInput (origin : OriginModel) (inputs : List Arrival) (first : List Trace) (next : Trace) : Type 0 where
  pub before : List Arrival
  pub input : Arrival
  pub later : List Arrival
  pub whole : (before ++ input ∷ []) ++ later ≡ inputs
  pub first_is : first ≡ traces_by origin before
  pub grown : traces_by origin (before ++ input ∷ []) ≡ traces_by origin before ++ next ∷ []

pub next_input : (origin : OriginModel) (inputs : List Arrival) (first : List Trace) (next : Trace)
    (others : List Trace) →
    traces_by origin inputs ≡ first ++ (next ∷ others) → NextInput origin inputs first next
next_input origin inputs first next others is =
    let came : (first ++ next ∷ []) ++ others ≡ map (λ t. t) (traces_by origin inputs) =
    append_assoc first (next ∷ []) others ∙ (sym is ∙ sym (map_same (traces_by origin inputs))) in
    let f : TraceFront (λ t. t) origin inputs (first ++ next ∷ []) =
    trace_front (λ t. t) origin inputs (first ++ next ∷ []) others came in
    let there : first ++ next ∷ [] ≡ traces_by origin f.first = f.went_is ∙ map_same (traces_by origin f.first) in
    let many : length f.first ≡ length first + 1 =
    sym (traces_long origin.rules 0 origin.state.clock f.first origin.state.list)
    ∙ (ap (λ (l : List Trace). length l) (sym there)
    ∙ length-append first (next ∷ [])) in
    let (before, input, split) = last_of f.first (length first) many in
    let now : ℕ = max (last_clock origin.state.clock before) input.clock in
    let t : Trace = trace_of origin.rules.timers now
    (step origin.rules (length before) now input (effect_from origin.rules origin.state before).list) in
    let grown : traces_by origin (before ++ input ∷ []) ≡ traces_by origin before ++ t ∷ [] =
    traces_grow origin.rules 0 origin.state.clock before input origin.state.list (length before) (omega arith) in
    let both : first ++ next ∷ [] ≡ traces_by origin before ++ t ∷ [] =
    there ∙ (ap (λ (l : List Arrival). traces_by origin l) split ∙ grown) in
    let long : length first ≡ length (traces_by origin before) =
    let one = ap (λ (l : List Trace). length l) both in
    let two = length-append first (next ∷ []) in
    let three = length-append (traces_by origin before) (t ∷ []) in omega (arith, one, two, three) in
    record {
      before = before;
      input = input;
      later = f.later;
      whole = ap (λ (l : List Arrival). l ++ f.later) (sym split) ∙ f.whole;
      first_is = same_front first (traces_by origin before) (next ∷ []) (t ∷ []) long both;
      grown = grown ∙ ap (λ (x : Trace). traces_by origin before ++ x ∷ [])
          (sym (same_last first (traces_by origin before) next t long both));
    }
