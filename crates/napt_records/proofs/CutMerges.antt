-- If the merged list is cut, the captures can be cut accordingly.
use Rattle.std.proofs.lemmas.{Grind.common_steps, Bool.Decides.nat_tests}
use Rattle.std.proofs.Common.{◌≡◌, ℕ, zero, suc, ◌≤◌, max, true, false, List, [], ◌∷◌, ◌++◌, length, refl, sym, ◌∙◌, ap, arith}
use Rattle.napt_capture.specs.Contents.{RecordModel}
use Rattle.napt_rules.specs.Prelude.{Arrival, Inside, Outside, inputs_from_clock, last_clock, raised}
use Rattle.napt_records.specs.{MergeLaws.CapturesCanBeCut, RecordMerging.{input_of, is_outside_next, merged_inputs, merged_from}}
use Rattle.napt_records.proofs.MergeSteps.{Steps, hands, of_merged}

-- A cut after `count` inputs, with clocks from `clock` on, in ns.
record CutFrom (ins : List RecordModel) (clock : ℕ) (outs : List RecordModel) (xs : List Arrival)
    (count : ℕ) : Type 0 where
  pub ins_first : List RecordModel
  pub ins_rest : List RecordModel
  pub outs_first : List RecordModel
  pub outs_rest : List RecordModel
  pub inside : ins ≡ ins_first ++ ins_rest
  pub outside : outs ≡ outs_first ++ outs_rest
  pub many : length (merged_from ins_first clock outs_first) ≡ count
  pub whole : xs ≡ merged_from ins_first clock outs_first
      ++ merged_from ins_rest (last_clock clock (merged_from ins_first clock outs_first)) outs_rest

record IsCut (ins : List RecordModel) (clock : ℕ) (outs : List RecordModel) (xs : List Arrival) : Type 0 where
  pub all : xs ≡ merged_from ins clock outs
  pub each : (count : ℕ) → count ≤ length xs → CutFrom ins clock outs xs count

cut_at_once : (ins : List RecordModel) (clock : ℕ) (outs : List RecordModel) (xs : List Arrival) →
    xs ≡ merged_from ins clock outs →
    CutFrom ins clock outs xs 0
cut_at_once ins clock outs xs all = record {
  ins_first = [];
  ins_rest = ins;
  outs_first = [];
  outs_rest = outs;
  inside = refl;
  outside = refl;
  many = refl;
  whole = all;
}

-- The next record of the first parts is that of the whole captures.
inside_next : (entry : RecordModel) (ins outs first some rest : List RecordModel) → outs ≡ some ++ rest →
    is_outside_next (entry ∷ ins) outs ≡ false → is_outside_next (entry ∷ first) some ≡ false
inside_next entry ins outs first [] rest is next = refl
inside_next entry ins outs first (other ∷ some) rest is next = grind (arith, common_steps, nat_tests)

outside_next : (entry : RecordModel) (ins outs first some rest : List RecordModel) → ins ≡ some ++ rest →
    is_outside_next ins (entry ∷ outs) ≡ true → is_outside_next some (entry ∷ first) ≡ true
outside_next entry ins outs first [] rest is next = refl
outside_next entry ins outs first (other ∷ some) rest is next = grind (arith, common_steps, nat_tests)

-- One more input comes first.
more_whole : (clock time : ℕ) (one : Arrival) (rest : ℕ → List Arrival) (all first xs : List Arrival) →
    one.clock ≡ max clock time → all ≡ one ∷ first → xs ≡ first ++ rest (last_clock (max clock time) first) →
    one ∷ xs ≡ all ++ rest (last_clock clock all)
more_whole clock time one rest all first xs its is whole =
    let now : max clock one.clock ≡ max clock time = omega (arith, its) in
    ap (λ l. one ∷ l) whole
    ∙ (ap (λ (c : ℕ). one ∷ (first ++ rest (last_clock c first))) (sym now)
    ∙ sym (ap (λ l. l ++ rest (last_clock clock l)) is))

cuts : Steps IsCut
cuts = record {
  none = λ clock. record { all = refl; each = λ count few. none_cut clock count few };
  inside = λ entry ins outs clock xs next p. record {
    all = ap (λ l. input_of Inside (max clock entry.time) entry ∷ l) p.all
        ∙ sym (hands (entry ∷ ins) outs ins outs clock Inside entry (refl, refl, next));
    each = inside_cut entry ins outs clock xs next p;
  };
  outside = λ entry ins outs clock xs next p. record {
    all = ap (λ l. input_of Outside (max clock entry.time) entry ∷ l) p.all
        ∙ sym (hands ins (entry ∷ outs) ins outs clock Outside entry (refl, refl, next));
    each = outside_cut entry ins outs clock xs next p;
  };
}
  where
    none_cut : (clock count : ℕ) → count ≤ 0 → CutFrom [] clock [] [] count
    none_cut clock zero few = cut_at_once [] clock [] [] refl
    none_cut clock (suc count) few = absurd (omega (arith, few))

    inside_cut : (entry : RecordModel) (ins outs : List RecordModel) (clock : ℕ) (xs : List Arrival) →
        is_outside_next (entry ∷ ins) outs ≡ false → IsCut ins (max clock entry.time) outs xs → (count : ℕ) →
        count ≤ length (input_of Inside (max clock entry.time) entry ∷ xs) →
        CutFrom (entry ∷ ins) clock outs (input_of Inside (max clock entry.time) entry ∷ xs) count
    inside_cut entry ins outs clock xs next p zero few = cut_at_once (entry ∷ ins) clock outs _
        (ap (λ l. input_of Inside (max clock entry.time) entry ∷ l) p.all
        ∙ sym (hands (entry ∷ ins) outs ins outs clock Inside entry (refl, refl, next)))
    inside_cut entry ins outs clock xs next p (suc count) few =
        let c : CutFrom ins (max clock entry.time) outs xs count = p.each count (omega (arith, few)) in
        let is = hands (entry ∷ c.ins_first) c.outs_first c.ins_first c.outs_first clock Inside entry
        (refl, refl, inside_next entry ins outs c.ins_first c.outs_first c.outs_rest c.outside next) in
        record {
          ins_first = entry ∷ c.ins_first;
          ins_rest = c.ins_rest;
          outs_first = c.outs_first;
          outs_rest = c.outs_rest;
          inside = ap (λ l. entry ∷ l) c.inside;
          outside = c.outside;
          many = ap length is ∙ ap suc c.many;
          whole = more_whole clock entry.time (input_of Inside (max clock entry.time) entry)
              (λ (now : ℕ). merged_from c.ins_rest now c.outs_rest) _ _ xs refl is c.whole;
        }

    outside_cut : (entry : RecordModel) (ins outs : List RecordModel) (clock : ℕ) (xs : List Arrival) →
        is_outside_next ins (entry ∷ outs) ≡ true → IsCut ins (max clock entry.time) outs xs → (count : ℕ) →
        count ≤ length (input_of Outside (max clock entry.time) entry ∷ xs) →
        CutFrom ins clock (entry ∷ outs) (input_of Outside (max clock entry.time) entry ∷ xs) count
    outside_cut entry ins outs clock xs next p zero few = cut_at_once ins clock (entry ∷ outs) _
        (ap (λ l. input_of Outside (max clock entry.time) entry ∷ l) p.all
        ∙ sym (hands ins (entry ∷ outs) ins outs clock Outside entry (refl, refl, next)))
    outside_cut entry ins outs clock xs next p (suc count) few =
        let c : CutFrom ins (max clock entry.time) outs xs count = p.each count (omega (arith, few)) in
        let is = hands c.ins_first (entry ∷ c.outs_first) c.ins_first c.outs_first clock Outside entry
        (refl, refl, outside_next entry ins outs c.outs_first c.ins_first c.ins_rest c.inside next) in
        record {
          ins_first = c.ins_first;
          ins_rest = c.ins_rest;
          outs_first = entry ∷ c.outs_first;
          outs_rest = c.outs_rest;
          inside = c.inside;
          outside = ap (λ l. entry ∷ l) c.outside;
          many = ap length is ∙ ap suc c.many;
          whole = more_whole clock entry.time (input_of Outside (max clock entry.time) entry)
              (λ (now : ℕ). merged_from c.ins_rest now c.outs_rest) _ _ xs refl is c.whole;
        }

-- FROM A LATER CLOCK

later : (c clock : ℕ) (time : ℕ) → max (max c clock) time ≡ max c (max clock time)
later c clock time = omega arith

from_later : Steps (λ ins clock outs xs. (c : ℕ) → merged_from ins (max c clock) outs ≡ inputs_from_clock c xs)
from_later = record {
  none = λ clock c. refl;
  inside = λ entry ins outs clock xs next p c.
      hands (entry ∷ ins) outs ins outs (max c clock) Inside entry (refl, refl, next)
      ∙ (ap (λ (now : ℕ). input_of Inside now entry ∷ merged_from ins now outs) (later c clock entry.time)
      ∙ ap (λ l. raised c (input_of Inside (max clock entry.time) entry) ∷ l) (p c));
  outside = λ entry ins outs clock xs next p c.
      hands ins (entry ∷ outs) ins outs (max c clock) Outside entry (refl, refl, next)
      ∙ (ap (λ (now : ℕ). input_of Outside now entry ∷ merged_from ins now outs) (later c clock entry.time)
      ∙ ap (λ l. raised c (input_of Outside (max clock entry.time) entry) ∷ l) (p c));
}

pub can_be_cut : CapturesCanBeCut
can_be_cut insides outsides count few =
    let c : CutFrom insides 0 outsides (merged_inputs insides outsides) count =
    (of_merged IsCut cuts insides outsides 0).each count few in
    let last : ℕ = last_clock 0 (merged_inputs c.ins_first c.outs_first) in
    let same : max last 0 ≡ last = omega arith in
    record {
      inside_first = c.ins_first;
      inside_rest = c.ins_rest;
      outside_first = c.outs_first;
      outside_rest = c.outs_rest;
      inside = c.inside;
      outside = c.outside;
      many = c.many;
      whole = c.whole ∙ ap (λ l. merged_inputs c.ins_first c.outs_first ++ l)
          (ap (λ (now : ℕ). merged_from c.ins_rest now c.outs_rest) (sym same)
          ∙ of_merged _ from_later c.ins_rest c.outs_rest 0 last);
    }
