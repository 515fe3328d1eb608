-- The laws, the order and the clocks of merging, each proved by induction on its steps.
use Rattle.std.proofs.lemmas.{Grind.common_steps, Bool.Decides.nat_tests, List.Elements.{All-nil, All-cons, All-head, All-tail}}
use Rattle.std.proofs.Common.{◌≡◌, ℕ, zero, suc, ◌+◌, ◌<◌, ◌≤◌, max, Bool, true, false, ◌↔◌, List, [], ◌∷◌, ◌++◌, append-nil, length, map, take, All, Option, Some, None, Result, Ok, Err, refl, sym, ◌∙◌, ap, subst, arith}
use Rattle.std.{specs.Prelude.{filter, slice_get}, proofs.lemmas.{Bool.{ltb-false, ltb-true, cases_Bool}, List.length-map}}
use Rattle.napt_capture.specs.{Contents.RecordModel, Text.IsWritable, Capture.CaptureReading, declared.fault.CaptureFault.CaptureFault}
use Rattle.napt_rules.specs.Prelude.{Arrival, Side, Inside, Outside}
use Rattle.napt_sequential.specs.Inputs.{InputIsTaken}
use Rattle.napt_records.specs.{Output.IsTimely, MergeLaws.{HaveAll, MergeEnds, MergeMeets, MergesBefore, MergesFront, MergesWhole, ReportsInsideFirst, held_of}}
use Rattle.napt_records.specs.RecordMerging.{MergedInputs, TakesRecord, outside_alone, alone_by, at_end, at_fault, outside_before, input_of, inputs_from, inputs_until, is_outside_next, merged_inputs, merged_from, unless_fault, outside_until}
use Rattle.napt_records.specs.declared.stream_merger.{CutFlags.CutFlags, SideFault.SideFault}
use Rattle.napt_records.specs.Merge.{of_record, of_input, is_from, latest, clock_at, reach, IsMerged}

-- THE UNFOLDING LAWS

-- If a capture has no record left, it ended without a fault.
abbrev pub IsKnown : List RecordModel → Result Bool CaptureFault → Type 0
IsKnown [] (Ok cut) = Unit {0}
IsKnown [] (Err fault) = ⊥
IsKnown (entry ∷ entries) end = Unit {0}

inside_first : (a b : Result Bool CaptureFault) (entry : RecordModel) (ins outs : List RecordModel) (clock : ℕ) →
    IsKnown outs b →
    is_outside_next (entry ∷ ins) outs ≡ false → inputs_from a b (entry ∷ ins) clock outs
    ≡ outside_before (input_of Inside (max clock entry.time) entry) (inputs_from a b ins (max clock entry.time) outs)
inside_first a b entry ins outs clock known next = grind (arith, common_steps, nat_tests)

outside_first : (a b : Result Bool CaptureFault) (entry : RecordModel) (ins outs : List RecordModel) (clock : ℕ)
    → IsKnown ins a →
    is_outside_next ins (entry ∷ outs) ≡ true → inputs_from a b ins clock (entry ∷ outs)
    ≡ outside_before (input_of Outside (max clock entry.time) entry) (inputs_from a b ins (max clock entry.time) outs)
outside_first a b entry ins outs clock known next = grind (arith, common_steps, nat_tests)

pub hands_until : (a b : Result Bool CaptureFault) (ins outs ins_left outs_left : List RecordModel) (clock : ℕ)
    (side : Side)
    (entry : RecordModel) → IsKnown ins a → IsKnown outs b →
    TakesRecord ins outs (Some (side, entry)) ins_left outs_left
    → inputs_from a b ins clock outs ≡ outside_before (input_of side (max clock entry.time) entry)
    (inputs_from a b ins_left (max clock entry.time) outs_left)
hands_until a b ins outs ins_left outs_left clock side entry in_known out_known taken =
    grind (arith, common_steps, nat_tests, inside_first, outside_first)

no_fault : (entries : List RecordModel) → IsKnown entries (Ok false)
no_fault entries = grind (arith, common_steps, nat_tests)

pub hands : (ins outs ins_left outs_left : List RecordModel) (clock : ℕ) (side : Side) (entry : RecordModel) →
    TakesRecord ins outs (Some (side, entry)) ins_left outs_left → merged_from ins clock outs
    ≡ input_of side (max clock entry.time) entry ∷ merged_from ins_left (max clock entry.time) outs_left
hands ins outs ins_left outs_left clock side entry taken = grind (arith, common_steps, nat_tests, hands_until, no_fault)

-- No record is left of either capture.
pub none_from : (a b : Bool) (clock : ℕ) → inputs_from (Ok a) (Ok b) [] clock [] ≡ at_end a (Ok b)
none_from a b clock = refl

-- INDUCTION BY STEPS

-- A property that holds at each end of merging, and of one more inside or outside record if it holds of the rest.
record StepsUntil (a b : Result Bool CaptureFault) (P : List RecordModel → ℕ → List RecordModel → MergedInputs →
    Type 0) : Type 0 where
  ends : (x y : Bool) (clock : ℕ) → a ≡ Ok x → b ≡ Ok y → P [] clock [] (at_end x (Ok y))
  bad_inside : (fault : CaptureFault) (outs : List RecordModel) (clock : ℕ) → a ≡ Err fault →
      P [] clock outs (at_fault Inside fault)
  bad_outside : (fault : CaptureFault) (ins : List RecordModel) (clock : ℕ) → b ≡ Err fault → IsKnown ins a →
      P ins clock [] (at_fault Outside fault)
  inside : (entry : RecordModel) (ins outs : List RecordModel) (clock : ℕ) (inputs : MergedInputs) → IsKnown outs b →
      is_outside_next (entry ∷ ins) outs ≡ false → P ins (max clock entry.time) outs inputs
      → P (entry ∷ ins) clock outs (outside_before (input_of Inside (max clock entry.time) entry) inputs)
  outside : (entry : RecordModel) (ins outs : List RecordModel) (clock : ℕ) (inputs : MergedInputs) → IsKnown ins a →
      is_outside_next ins (entry ∷ outs) ≡ true → P ins (max clock entry.time) outs inputs
      → P ins clock (entry ∷ outs) (outside_before (input_of Outside (max clock entry.time) entry) inputs)

known_end : (end : Result Bool CaptureFault) (cut : Bool) → end ≡ Ok cut → IsKnown [] end
known_end end cut is = rw is tt

module _ (a b : Result Bool CaptureFault) (P : List RecordModel → ℕ → List RecordModel → MergedInputs → Type 0)
    (steps : StepsUntil a b P) where
  of_end : (cut : Bool) (end : Result Bool CaptureFault) (clock : ℕ) → a ≡ Ok cut → b ≡ end →
      P [] clock [] (at_end cut end)
  of_end cut end clock is also = grind (arith, common_steps, nat_tests, known_end)

  of_alone : (cut : Bool) (outs : List RecordModel) (clock : ℕ) → a ≡ Ok cut →
      P [] clock outs (outside_alone cut b clock outs)
  of_alone cut [] clock is = of_end cut b clock is refl
  of_alone cut (other ∷ outs) clock is =
      grind (arith, common_steps, nat_tests, known_end, of_alone cut outs (max clock other.time) is)

  of_last : (first : RecordModel) (ins : List RecordModel) (clock : ℕ) (end : Result Bool CaptureFault) →
      b ≡ end →
      P ins (max clock first.time) [] (inputs_from a b ins (max clock first.time) [])
      → P (first ∷ ins) clock [] (unless_fault end (outside_before (input_of Inside (max clock first.time) first)
      (inputs_from a b ins (max clock first.time) [])))
  of_last first ins clock end is more = grind (arith, common_steps, nat_tests, known_end)

  of_until : (first : RecordModel) (ins outs : List RecordModel) (clock : ℕ) →
      ((now : ℕ) (left : List RecordModel) → P ins now left (inputs_from a b ins now left))
      → P (first ∷ ins) clock outs (outside_until b first (inputs_from a b ins) clock outs)
  of_until first ins [] clock more = of_last first ins clock b refl (more (max clock first.time) [])
  of_until first ins (other ∷ outs) clock more =
      grind (arith, common_steps, nat_tests, cases_Bool, of_until first ins outs (max clock other.time) more)

  of_none : (end : Result Bool CaptureFault) (outs : List RecordModel) (clock : ℕ) → a ≡ end →
      P [] clock outs (alone_by end b clock outs)
  of_none end outs clock is = grind (arith, common_steps, nat_tests, of_alone)

  of_inputs : (ins outs : List RecordModel) (clock : ℕ) → P ins clock outs (inputs_from a b ins clock outs)
  of_inputs [] outs clock = of_none a outs clock refl
  of_inputs (first ∷ ins) outs clock = of_until first ins outs clock (λ now left. of_inputs ins left now)

-- The same for the merged list.
pub record Steps (P : List RecordModel → ℕ → List RecordModel → List Arrival → Type 0) : Type 0 where
  pub none : (clock : ℕ) → P [] clock [] []
  pub inside : (entry : RecordModel) (ins outs : List RecordModel) (clock : ℕ) (xs : List Arrival) →
      is_outside_next (entry ∷ ins) outs ≡ false → P ins (max clock entry.time) outs xs
      → P (entry ∷ ins) clock outs (input_of Inside (max clock entry.time) entry ∷ xs)
  pub outside : (entry : RecordModel) (ins outs : List RecordModel) (clock : ℕ) (xs : List Arrival) →
      is_outside_next ins (entry ∷ outs) ≡ true → P ins (max clock entry.time) outs xs
      → P ins clock (entry ∷ outs) (input_of Outside (max clock entry.time) entry ∷ xs)

pub of_merged : (P : List RecordModel → ℕ → List RecordModel → List Arrival → Type 0) → Steps P →
    (ins outs : List RecordModel) →
    (clock : ℕ) → P ins clock outs (merged_from ins clock outs)
of_merged P steps = of_inputs (Ok false) (Ok false) (λ ins clock outs inputs. P ins clock outs inputs.arrivals)
    (record {
      ends = λ x y clock is also. steps.none clock;
      bad_inside = λ fault outs clock is. absurd cc;
      bad_outside = λ fault ins clock is known. absurd cc;
      inside = λ entry ins outs clock inputs known next p. steps.inside entry ins outs clock inputs.arrivals next p;
      outside = λ entry ins outs clock inputs known next p. steps.outside entry ins outs clock inputs.arrivals next p;
    })

-- A FAULT ENDS IT EARLY

-- The inputs that merging returns are a prefix of these, and all of them if there is no fault.
record IsFront (inputs : MergedInputs) (all : List Arrival) : Type 0 where
  pub left : List Arrival
  pub is : all ≡ inputs.arrivals ++ left
  pub whole : (cuts : CutFlags) → inputs.end ≡ Ok cuts → left ≡ []

front_before : (x : Arrival) (inputs : MergedInputs) (some all : List Arrival) → all ≡ x ∷ some → IsFront inputs some →
    IsFront (outside_before x inputs) all
front_before x inputs some all is p = record { left = p.left; is = is ∙ ap (λ l. x ∷ l) p.is; whole = p.whole }

front_fault : (side : Side) (fault : CaptureFault) (all : List Arrival) → IsFront (at_fault side fault) all
front_fault side fault all = record { left = all; is = refl; whole = λ cuts never. absurd cc }

front_from : (a b : Result Bool CaptureFault) (ins outs : List RecordModel) (clock : ℕ) →
    IsFront (inputs_from a b ins clock outs) (merged_from ins clock outs)
front_from a b = of_inputs a b (λ ins clock outs inputs. IsFront inputs (merged_from ins clock outs)) (record {
  ends = λ x y clock is also. record { left = []; is = refl; whole = λ cuts same. refl };
  bad_inside = λ fault outs clock is. front_fault Inside fault (merged_from [] clock outs);
  bad_outside = λ fault ins clock is known. front_fault Outside fault (merged_from ins clock []);
  inside = λ entry ins outs clock inputs known next p. front_before _ inputs _ _
      (hands (entry ∷ ins) outs ins outs clock Inside entry (refl, refl, next)) p;
  outside = λ entry ins outs clock inputs known next p. front_before _ inputs _ _
      (hands ins (entry ∷ outs) ins outs clock Outside entry (refl, refl, next)) p;
})

pub merges_front : MergesFront
merges_front inside outside =
    let p = front_from inside.end outside.end inside.records outside.records 0 in
    (p.left, p.is)

pub merges_whole : MergesWhole
merges_whole inside outside cuts is =
    let p = front_from inside.end outside.end inside.records outside.records 0 in
    sym (p.is ∙ ap (λ l. (inputs_until inside outside).arrivals ++ l) (p.whole cuts is)
    ∙ append-nil (inputs_until inside outside).arrivals)

-- If merging met no fault, both captures ended as the flags say.
abbrev EndAs : Result Bool CaptureFault → Result Bool CaptureFault → MergedInputs → Type 0
EndAs a b inputs = (cuts : CutFlags) → inputs.end ≡ Ok cuts → (a ≡ Ok cuts.inside) × (b ≡ Ok cuts.outside)

ends_are : (a b : Result Bool CaptureFault) (x y : Bool) → a ≡ Ok x → b ≡ Ok y → EndAs a b (at_end x (Ok y))
ends_are a b x y is also = grind (arith, common_steps, nat_tests)

ends_from : (a b : Result Bool CaptureFault) (ins outs : List RecordModel) (clock : ℕ) →
    EndAs a b (inputs_from a b ins clock outs)
ends_from a b = of_inputs a b (λ ins clock outs inputs. EndAs a b inputs) (record {
  ends = λ x y clock is also. ends_are a b x y is also;
  bad_inside = λ fault outs clock is cuts end. absurd cc;
  bad_outside = λ fault ins clock is known cuts end. absurd cc;
  inside = λ entry ins outs clock inputs known next p. p;
  outside = λ entry ins outs clock inputs known next p. p;
})

pub merge_ends : MergeEnds
merge_ends inside outside cuts is = ends_from inside.end outside.end inside.records outside.records 0 cuts is

-- THE INPUTS BEFORE A FAULT

abbrev end_of : Side → Result Bool CaptureFault → Result Bool CaptureFault → Result Bool CaptureFault
end_of Inside a b = a
end_of Outside a b = b

abbrev records_of : Side → List RecordModel → List RecordModel → List RecordModel
records_of Inside ins outs = ins
records_of Outside ins outs = outs

-- The number of these inputs that are of a side.
abbrev count : Side → List Arrival → ℕ
count side inputs = length (filter (is_from side) inputs)

abbrev HasAllOf : Side → List RecordModel → List RecordModel → List Arrival → Type 0
HasAllOf side ins outs inputs = map of_input (filter (is_from side) inputs) ≡ map of_record (records_of side ins outs)

record IsBefore (a b : Result Bool CaptureFault) (ins outs : List RecordModel) (inputs : MergedInputs) : Type 0 where
  meets : (f : SideFault) → inputs.end ≡ Err f → end_of f.side a b ≡ Err f.fault
  all : (f : SideFault) → inputs.end ≡ Err f → HasAllOf f.side ins outs inputs.arrivals
  least : (k : ℕ) (side : Side) (its : CaptureFault) → k < length inputs.arrivals → end_of side a b ≡ Err its →
      count side (take k inputs.arrivals) < length (records_of side ins outs)
  first : (fault its : CaptureFault) → inputs.end ≡ Err (record { side = Outside; fault = fault }) → a ≡ Err its →
      count Inside inputs.arrivals < length ins

before_end : (a b : Result Bool CaptureFault) (x y : Bool) → IsBefore a b [] [] (at_end x (Ok y))
before_end a b x y = grind (arith, common_steps, nat_tests)

fault_is : (side : Side) (fault : CaptureFault) (f : SideFault) → (at_fault side fault).end ≡ Err f →
    (let at : SideFault = record { side = side; fault = fault } in at ≡ f)
fault_is side fault f same = cc

-- Merging returns no input.
at_once : (a b : Result Bool CaptureFault) (ins outs : List RecordModel) (side : Side) (fault : CaptureFault) →
    end_of side a b ≡ Err fault → records_of side ins outs ≡ []
    → ((its : CaptureFault) → side ≡ Outside → a ≡ Err its → 0 < length ins)
    → IsBefore a b ins outs (at_fault side fault)
at_once a b ins outs side fault is none more = grind (arith, common_steps, nat_tests, fault_is)

some_left : (entries : List RecordModel) (end : Result Bool CaptureFault) (fault : CaptureFault) →
    IsKnown entries end →
    end ≡ Err fault → 0 < length entries
some_left entries end fault known is = grind (arith, common_steps, nat_tests)

-- One more inside record comes first.
module _ (a b : Result Bool CaptureFault) (entry : RecordModel) (ins outs : List RecordModel) (inputs : MergedInputs)
    (now : ℕ) where
  all_in : (side : Side) → HasAllOf side ins outs inputs.arrivals →
      HasAllOf side (entry ∷ ins) outs (input_of Inside now entry ∷ inputs.arrivals)
  all_in side has = grind (arith, common_steps, nat_tests)

  least_in : IsKnown outs b → IsBefore a b ins outs inputs → (k : ℕ) (side : Side) (its : CaptureFault) →
      k < length (input_of Inside now entry ∷ inputs.arrivals) → end_of side a b ≡ Err its →
      count side (take k (input_of Inside now entry ∷ inputs.arrivals)) < length (records_of side (entry ∷ ins) outs)
  least_in known p k side its less is = grind (arith, common_steps, nat_tests, some_left)

  before_in : IsKnown outs b → IsBefore a b ins outs inputs →
      IsBefore a b (entry ∷ ins) outs (outside_before (input_of Inside now entry) inputs)
  before_in known p = grind (arith, common_steps, nat_tests, all_in, least_in)

  -- One more outside record comes first.
  all_out : (side : Side) → HasAllOf side ins outs inputs.arrivals →
      HasAllOf side ins (entry ∷ outs) (input_of Outside now entry ∷ inputs.arrivals)
  all_out side has = grind (arith, common_steps, nat_tests)

  least_out : IsKnown ins a → IsBefore a b ins outs inputs → (k : ℕ) (side : Side) (its : CaptureFault) →
      k < length (input_of Outside now entry ∷ inputs.arrivals) → end_of side a b ≡ Err its →
      count side (take k (input_of Outside now entry ∷ inputs.arrivals)) < length (records_of side ins (entry ∷ outs))
  least_out known p k side its less is = grind (arith, common_steps, nat_tests, some_left)

  before_out : IsKnown ins a → IsBefore a b ins outs inputs →
      IsBefore a b ins (entry ∷ outs) (outside_before (input_of Outside now entry) inputs)
  before_out known p = grind (arith, common_steps, nat_tests, all_out, least_out)

out_is_in : Inside ≡ Outside → ⊥
out_is_in is = cc

before_from : (a b : Result Bool CaptureFault) (ins outs : List RecordModel) (clock : ℕ) →
    IsBefore a b ins outs (inputs_from a b ins clock outs)
before_from a b = of_inputs a b (λ ins clock outs inputs. IsBefore a b ins outs inputs) (record {
  ends = λ x y clock is also. before_end a b x y;
  bad_inside = λ fault outs clock is. at_once a b [] outs Inside fault is refl
      (λ its never also. absurd (out_is_in never));
  bad_outside = λ fault ins clock is known. at_once a b ins [] Outside fault is refl
      (λ its same also. some_left ins a its known also);
  inside = λ entry ins outs clock inputs known next p.
      before_in a b entry ins outs inputs (max clock entry.time) known p;
  outside = λ entry ins outs clock inputs known next p.
      before_out a b entry ins outs inputs (max clock entry.time) known p;
})

held_end_of : (side : Side) (inside outside : CaptureReading) → (held_of side inside outside).end
    ≡ end_of side inside.end outside.end
held_end_of side inside outside = grind (arith, common_steps, nat_tests)

held_records_of : (side : Side) (inside outside : CaptureReading) → (held_of side inside outside).records
    ≡ records_of side inside.records outside.records
held_records_of side inside outside = grind (arith, common_steps, nat_tests)

pub merge_meets : MergeMeets
merge_meets inside outside fault is =
    held_end_of fault.side inside outside
    ∙ (before_from inside.end outside.end inside.records outside.records 0).meets fault is

-- If all records of a side were returned, there are as many inputs of that side.
all_counted : (side : Side) (inside outside : CaptureReading) (inputs : List Arrival) →
    HaveAll side inside outside inputs →
    count side inputs ≡ length (records_of side inside.records outside.records)
all_counted side inside outside inputs have = grind (arith, common_steps, nat_tests, length-map, held_records_of)

pub merges_before : MergesBefore
merges_before inside outside fault is =
    let p = before_from inside.end outside.end inside.records outside.records 0 in
    let inputs = (inputs_until inside outside).arrivals in (
      subst (λ (l : List RecordModel). map of_input (filter (is_from fault.side) inputs) ≡ map of_record l)
          (sym (held_records_of fault.side inside outside)) (p.all fault is),
      λ k other its less ends have.
          let few = p.least k other its less (sym (held_end_of other inside outside) ∙ ends) in
          omega (arith, few, all_counted other inside outside (take k inputs) have),
    )

pub tells_inside_first : ReportsInsideFirst
tells_inside_first inside outside fault its is also have =
    let p = before_from inside.end outside.end inside.records outside.records 0 in
    let few = p.first fault its is also in
    omega (arith, few, all_counted Inside inside outside (inputs_until inside outside).arrivals have)

-- THE NUMBER OF INPUTS

pub as_many : (ins outs : List RecordModel) (clock : ℕ) →
    length (merged_from ins clock outs) ≡ length ins + length outs
as_many = of_merged (λ ins clock outs xs. length xs ≡ length ins + length outs) (record {
  none = λ clock. refl;
  inside = λ entry ins outs clock xs next long. omega (arith, long);
  outside = λ entry ins outs clock xs next long. omega (arith, long);
})

-- TIMES THAT FIT A CAPTURE

pub timely_from : (ins outs : List RecordModel) (clock : ℕ) → All IsWritable ins → All IsWritable outs →
    All IsTimely (merged_from ins clock outs)
timely_from = of_merged (λ ins clock outs xs. All IsWritable ins → All IsWritable outs → All IsTimely xs) (record {
  none = λ clock first second. All-nil IsTimely;
  inside =
      λ entry ins outs clock xs next more first second.
      All-cons IsTimely (input_of Inside (max clock entry.time) entry) xs ((All-head IsWritable entry ins first).time)
      (more (All-tail IsWritable entry ins first) second);
  outside =
      λ entry ins outs clock xs next more first second.
      All-cons IsTimely (input_of Outside (max clock entry.time) entry) xs
      ((All-head IsWritable entry outs second).time) (more first (All-tail IsWritable entry outs second));
})

pub takes_timely : (ins outs ins_left outs_left : List RecordModel) (now : ℕ) (side : Side) (entry : RecordModel)
    →
    TakesRecord ins outs (Some (side, entry)) ins_left outs_left → All IsWritable ins × All IsWritable outs
    → All IsTimely (input_of side now entry ∷ []) × (All IsWritable ins_left × All IsWritable outs_left)
takes_timely ins outs ins_left outs_left now Inside entry taken all =
    let mine : All IsWritable (entry ∷ ins_left) = subst (All IsWritable) taken.0 all.0 in (
      All-cons IsTimely (input_of Inside now entry) [] (All-head IsWritable entry ins_left mine).time
          (All-nil IsTimely),
      (All-tail IsWritable entry ins_left mine, subst (All IsWritable) taken.1 all.1),
    )
takes_timely ins outs ins_left outs_left now Outside entry taken all =
    let mine : All IsWritable (entry ∷ outs_left) = subst (All IsWritable) taken.0 all.1 in (
      All-cons IsTimely (input_of Outside now entry) [] (All-head IsWritable entry outs_left mine).time
          (All-nil IsTimely),
      (subst (All IsWritable) taken.1 all.0, All-tail IsWritable entry outs_left mine),
    )

-- ORDER AND CLOCKS

take_more : (place : ℕ) (x : Arrival) (xs : List Arrival) → take (suc place + 1) (x ∷ xs) ≡ x ∷ take (place + 1) xs
take_more place x xs = grind (arith, common_steps, nat_tests)

reach_more : (side : Side) (place : ℕ) (x : Arrival) (xs : List Arrival) → reach side (suc place) (x ∷ xs)
    ≡ latest (filter (is_from side) (x ∷ take (place + 1) xs))
reach_more side place x xs = ap (λ l. latest (filter (is_from side) l)) (take_more place x xs)

clock_more : (place : ℕ) (x : Arrival) (xs : List Arrival) → clock_at (suc place) (x ∷ xs)
    ≡ max x.time (clock_at place xs)
clock_more place x xs = ap latest (take_more place x xs)

-- The first of these records is not later than this time.
abbrev IsFloor : List RecordModel → ℕ → Type 0
IsFloor [] time = ⊥
IsFloor (entry ∷ entries) time = entry.time ≤ time

-- Inside records were returned up to this time, and outside ones up to before that time. An inside record may follow,
-- and likewise an outside one.
abbrev MayIn : ℕ → ℕ → List RecordModel → Type 0
MayIn m q [] = Unit {0}
MayIn m q (entry ∷ entries) = q ≤ max m entry.time

abbrev MayOut : ℕ → ℕ → List RecordModel → Type 0
MayOut m q [] = Unit {0}
MayOut m q (entry ∷ entries) = m < max q (suc entry.time)

in_reaches : (m q time : ℕ) (ins : List RecordModel) → MayIn m q ins → IsFloor ins time → q ≤ max m time
in_reaches m q time ins may floor = grind (arith, common_steps, nat_tests)

out_reaches : (m q time : ℕ) (outs : List RecordModel) → MayOut m q outs → IsFloor outs time → m < max q (suc time)
out_reaches m q time outs may floor = grind (arith, common_steps, nat_tests)

-- An inside record follows an inside one.
in_in : (m q time : ℕ) (ins : List RecordModel) → q ≤ max m time → MayIn (max m time) q ins
in_in m q time ins may = grind (arith, common_steps, nat_tests)

in_out : (m q : ℕ) (entry : RecordModel) (ins outs : List RecordModel) →
    is_outside_next (entry ∷ ins) outs ≡ false →
    MayOut m q outs → MayOut (max m entry.time) q outs
in_out m q entry ins outs next may = grind (arith, common_steps, nat_tests, ltb-false)

-- An outside record follows an outside one.
out_out : (m q time : ℕ) (outs : List RecordModel) → m < max q (suc time) → MayOut m (max q (suc time)) outs
out_out m q time outs may = grind (arith, common_steps, nat_tests)

out_in : (m q : ℕ) (entry : RecordModel) (ins outs : List RecordModel) →
    is_outside_next ins (entry ∷ outs) ≡ true →
    MayIn m q ins → MayIn m (max q (suc entry.time)) ins
out_in m q entry ins outs next may = grind (arith, common_steps, nat_tests, ltb-true)

some_side : (x a : Arrival) → Some x ≡ Some a → x.side ≡ a.side
some_side x a is = let same : x ≡ a = cc in ap (λ (b : Arrival). b.side) same

in_out_apart : Inside ≡ Outside → ⊥
in_out_apart is = cc

abbrev OrderFrom : ℕ → ℕ → List Arrival → Type 0
OrderFrom m q xs =
    (i o : ℕ) (a b : Arrival) → slice_get xs i ≡ Some a → slice_get xs o ≡ Some b → a.side ≡ Inside → b.side ≡ Outside
    → (i < o) ↔ (max m (reach Inside i xs) < max q (suc (reach Outside o xs)))

abbrev Floors : Side → List RecordModel → List Arrival → Type 0
Floors side entries xs = (place : ℕ) (a : Arrival) → slice_get xs place ≡ Some a → a.side ≡ side →
    IsFloor entries (reach side place xs)

order_in : (m q now : ℕ) (entry : RecordModel) (outs : List RecordModel) (xs : List Arrival) →
    MayOut (max m entry.time) q outs → Floors Outside outs xs → OrderFrom (max m entry.time) q xs
    → OrderFrom m q (input_of Inside now entry ∷ xs)
order_in m q now entry outs xs may floors order i zero a b at also inside outside =
    absurd (in_out_apart (some_side (input_of Inside now entry) b also ∙ outside))
order_in m q now entry outs xs may floors order zero (suc o) a b at also inside outside =
    grind (arith, common_steps, nat_tests, out_reaches, reach_more)
order_in m q now entry outs xs may floors order (suc i) (suc o) a b at also inside outside =
    let older = order i o a b at also inside outside in
    let in_is : reach Inside (suc i) (input_of Inside now entry ∷ xs) ≡ max entry.time (reach Inside i xs) =
    reach_more Inside i (input_of Inside now entry) xs in
    let out_is : reach Outside (suc o) (input_of Inside now entry ∷ xs) ≡ reach Outside o xs =
    reach_more Outside o (input_of Inside now entry) xs in (
      λ before. let less = older.0 (omega (arith, before)) in omega (arith, less, in_is, out_is),
      λ less. let before : i < o = older.1 (omega (arith, less, in_is, out_is)) in omega (arith, before),
    )

order_out : (m q now : ℕ) (entry : RecordModel) (ins : List RecordModel) (xs : List Arrival) →
    MayIn m (max q (suc entry.time)) ins → Floors Inside ins xs → OrderFrom m (max q (suc entry.time)) xs
    → OrderFrom m q (input_of Outside now entry ∷ xs)
order_out m q now entry ins xs may floors order zero o a b at also inside outside =
    absurd (in_out_apart (sym inside ∙ sym (some_side (input_of Outside now entry) a at)))
order_out m q now entry ins xs may floors order (suc i) zero a b at also inside outside =
    grind (arith, common_steps, nat_tests, in_reaches, reach_more)
order_out m q now entry ins xs may floors order (suc i) (suc o) a b at also inside outside =
    let older = order i o a b at also inside outside in
    let in_is : reach Inside (suc i) (input_of Outside now entry ∷ xs) ≡ reach Inside i xs =
    reach_more Inside i (input_of Outside now entry) xs in
    let out_is : reach Outside (suc o) (input_of Outside now entry ∷ xs) ≡ max entry.time (reach Outside o xs) =
    reach_more Outside o (input_of Outside now entry) xs in (
      λ before. let less = older.0 (omega (arith, before)) in omega (arith, less, in_is, out_is),
      λ less. let before : i < o = older.1 (omega (arith, less, in_is, out_is)) in omega (arith, before),
    )

floor_own : (side : Side) (now : ℕ) (entry : RecordModel) (rest : List RecordModel) (xs : List Arrival) →
    Floors side (entry ∷ rest) (input_of side now entry ∷ xs)
floor_own side now entry rest xs = grind (arith, common_steps, nat_tests, reach_more)

floor_in : (now : ℕ) (entry : RecordModel) (ins : List RecordModel) (xs : List Arrival) → Floors Inside ins xs →
    Floors Inside ins (input_of Outside now entry ∷ xs)
floor_in now entry ins xs floors = grind (arith, common_steps, nat_tests, in_out_apart, some_side, reach_more)

floor_out : (now : ℕ) (entry : RecordModel) (outs : List RecordModel) (xs : List Arrival) →
    Floors Outside outs xs →
    Floors Outside outs (input_of Inside now entry ∷ xs)
floor_out now entry outs xs floors = grind (arith, common_steps, nat_tests, in_out_apart, some_side, reach_more)

abbrev ClocksFrom : ℕ → List Arrival → Type 0
ClocksFrom clock xs = (place : ℕ) (a : Arrival) → slice_get xs place ≡ Some a → a.clock ≡ max clock (clock_at place xs)

clocks_more : (side : Side) (clock : ℕ) (entry : RecordModel) (xs : List Arrival) →
    ClocksFrom (max clock entry.time) xs →
    ClocksFrom clock (input_of side (max clock entry.time) entry ∷ xs)
clocks_more side clock entry xs clocks = grind (arith, common_steps, nat_tests, clock_more)

-- The properties of the merged list of some records.
record IsGood (ins : List RecordModel) (clock : ℕ) (outs : List RecordModel) (xs : List Arrival) : Type 0 where
  inside : map of_input (filter (is_from Inside) xs) ≡ map of_record ins
  outside : map of_input (filter (is_from Outside) xs) ≡ map of_record outs
  in_floors : Floors Inside ins xs
  out_floors : Floors Outside outs xs
  order : (m q : ℕ) → MayIn m q ins → MayOut m q outs → OrderFrom m q xs
  clocks : ClocksFrom clock xs

none_there : {A : Type 0} {a : Arrival} → None ≡ Some a → A
none_there is = cc

good : Steps IsGood
good = record {
  none = λ clock. record {
    inside = refl;
    outside = refl;
    in_floors = λ place a at is. none_there at;
    out_floors = λ place a at is. none_there at;
    order = λ m q first second i o a b at. none_there at;
    clocks = λ place a at. none_there at;
  };
  inside = λ entry ins outs clock xs next p. record {
    inside = ap (λ l. of_record entry ∷ l) p.inside;
    outside = p.outside;
    in_floors = floor_own Inside (max clock entry.time) entry ins xs;
    out_floors = floor_out (max clock entry.time) entry outs xs p.out_floors;
    order =
        λ m q first second.
        let may = in_out m q entry ins outs next second in
        order_in m q (max clock entry.time) entry outs xs may p.out_floors
        (p.order (max m entry.time) q (in_in m q entry.time ins first) may);
    clocks = clocks_more Inside clock entry xs p.clocks;
  };
  outside = λ entry ins outs clock xs next p. record {
    inside = p.inside;
    outside = ap (λ l. of_record entry ∷ l) p.outside;
    in_floors = floor_in (max clock entry.time) entry ins xs p.in_floors;
    out_floors = floor_own Outside (max clock entry.time) entry outs xs;
    order =
        λ m q first second.
        let may = out_in m q entry ins outs next first in
        order_out m q (max clock entry.time) entry ins xs may p.in_floors
        (p.order m (max q (suc entry.time)) may (out_out m q entry.time outs second));
    clocks = clocks_more Outside clock entry xs p.clocks;
  };
}

begin_in : (ins : List RecordModel) → MayIn 0 0 ins
begin_in ins = grind (arith, common_steps, nat_tests)

begin_out : (outs : List RecordModel) → MayOut 0 0 outs
begin_out outs = grind (arith, common_steps, nat_tests)

pub merged_good : (ins outs : List RecordModel) → IsMerged ins outs (merged_inputs ins outs)
merged_good ins outs =
    let p = of_merged IsGood good ins outs 0 in
    let order = p.order 0 0 (begin_in ins) (begin_out outs) in
    record {
      inside = p.inside;
      outside = p.outside;
      order =
          λ i o a b at also inside outside.
          let same = order i o a b at also inside outside in
          (λ before. let less = same.0 before in omega (arith, less), λ less. same.1 (omega (arith, less)));
      clock = λ place a at. omega (arith, p.clocks place a at);
    }

-- If no input was returned, none was left.
pub none_left : (before after : List Arrival) (handed : Option Arrival) → ((x : Arrival) → handed ≡ Some x → ⊥) →
    InputIsTaken before handed after → before ≡ []
none_left before after handed never is = grind (arith, common_steps, nat_tests)
