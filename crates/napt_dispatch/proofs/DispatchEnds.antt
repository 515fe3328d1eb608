-- Properties of the answers and the translators at the end of dispatching.
use Rattle.std.proofs.lemmas.{Grind.common_steps, Bool.Decides.nat_tests}
use Rattle.std.proofs.Common.{◌≡◌, ℕ, zero, suc, ◌<◌, List, [], ◌∷◌, length, map, refl, sym, ap, ◌∙◌, arith, append-nil, length-append, inl, inr}
use Rattle.std.{specs.Prelude.{slice_index, slice_index_or}, proofs.{lemmas.Bool.cases_eq, Math.{ListN.get_or-append, Seq.get_or-append_seam}}}
use Rattle.napt_config.specs.Rules.{Rules}
use Rattle.napt_rules.specs.declared.Leg.{Leg}
use Rattle.napt_rules.specs.Prelude.{State}
use Rattle.napt_translate.specs.Translators.{TranslatorModel, initial_translator, local_state, with_local_state, translator_after}
use Rattle.napt_pool.specs.{declared.machine.Machine.Ghosts, Histories.{replies, ArePrefixesOf}, Pools.zip_with}
use Rattle.napt_laws.specs.Dispatching.{IsFrontOf}
use Rattle.napt_dispatch.{specs.Dispatch.{started_from, of_worker, local_bindings, AnswersAreRight}, proofs.Lanes.fronts_both}
use Rattle.napt_sequential.specs.{declared.{passage.Passage.Passage, leg_trace.TracedAnswer.TracedAnswer}, CountedTranslators.traced_answer, Steps.traced_replies}

-- LISTS

pub zip_index : {X Y Z : Type 0} (f : X → List Y → Z) (xs : List X) (ys : List (List Y)) (w : ℕ) (d : X) (e : Z) →
    w < length xs → w < length ys → slice_index_or (zip_with f xs ys) w e ≡ f (slice_index_or xs w d) (of_worker ys w)
zip_index f [] ys w d e lt lu = absurd (omega arith)
zip_index f (x ∷ xs) [] w d e lt lu = absurd (omega arith)
zip_index f (x ∷ xs) (y ∷ ys) zero d e lt lu = refl
zip_index f (x ∷ xs) (y ∷ ys) (suc w) d e lt lu = zip_index f xs ys w d e (omega arith) (omega arith)

pub map_at : {X : Type 0} (f : ℕ → X) (xs : List X) (d : X) (pool : List ℕ) → length xs ≡ length pool →
    ((w : ℕ) → w < length pool → slice_index_or xs w d ≡ f (slice_index pool w)) → xs ≡ map f pool
map_at f [] d [] e h = refl
map_at f [] d (a ∷ pool) e h = absurd (omega arith)
map_at f (x ∷ xs) d [] e h = absurd (omega arith)
map_at f (x ∷ xs) d (a ∷ pool) e h =
    rw (h zero (omega arith), map_at f xs d pool (omega arith) (λ w lt. h (suc w) (omega arith))) refl

pub same_lengths : {X Y : Type 0} (xs : List (List X)) (ys : List (List Y)) → length xs ≡ length ys →
    ((v : ℕ) → v < length ys → length (of_worker xs v) ≡ length (of_worker ys v)) → map length xs ≡ map length ys
same_lengths [] [] e h = refl
same_lengths [] (y ∷ ys) e h = absurd (omega arith)
same_lengths (x ∷ xs) [] e h = absurd (omega arith)
same_lengths (x ∷ xs) (y ∷ ys) e h =
    rw (h zero (omega arith), same_lengths xs ys (omega arith) (λ v lt. h (suc v) (omega arith))) refl

pub zip_long : {X Y Z : Type 0} (f : X → Y → Z) (xs : List X) (ys : List Y) → length xs ≡ length ys →
    length (zip_with f xs ys) ≡ length ys
zip_long f [] [] e = refl
zip_long f [] (y ∷ ys) e = absurd (omega arith)
zip_long f (x ∷ xs) [] e = absurd (omega arith)
zip_long f (x ∷ xs) (y ∷ ys) e = ap suc (zip_long f xs ys (omega arith))

begin_at : {X : Type 0} (xs ys : List (List X)) (w : ℕ) → w < length ys → ArePrefixesOf xs ys →
    IsFrontOf (of_worker xs w) (of_worker ys w)
begin_at xs [] w lt all = absurd (omega arith)
begin_at [] (y ∷ ys) w lt all = absurd all
begin_at (x ∷ xs) (y ∷ ys) zero lt all = all.0
begin_at (x ∷ xs) (y ∷ ys) (suc w) lt all = begin_at xs ys w (omega arith) all.1

-- WORKERS

pub length_started : (rules : Rules) (start : State) (n : ℕ) → length (started_from rules start n) ≡ n
length_started rules start zero = refl
length_started rules start (suc n) = grind (arith, common_steps, nat_tests, length-append, length_started rules start n)

pub started_at : (rules : Rules) (start : State) (n w : ℕ) (d : TranslatorModel) → w < n →
    slice_index_or (started_from rules start n) w d
    ≡ with_local_state (initial_translator w rules) (local_bindings start (slice_index rules.pool w))
started_at rules start zero w d lt = absurd (omega arith)
started_at rules start (suc n) w d lt =
    let long : length (started_from rules start n) ≡ n = length_started rules start n in
    let next : TranslatorModel = with_local_state (initial_translator n rules)
    (local_bindings start (slice_index rules.pool n)) in
    elim (cases_eq w n) [
      | inl same ↦ rw same (rw long at (get_or-append_seam (started_from rules start n) next [] d))
      | inr other ↦ get_or-append (started_from rules start n) (next ∷ []) d w (omega arith)
          ∙ started_at rules start n w d (omega arith)
    ]

module _ {P : Type 0} (tells : Passage → P) {g : Ghosts TranslatorModel Leg (TracedAnswer P)} where
  replies_kept : ((s : TranslatorModel) (leg : Leg) → g.stepped s leg ≡ translator_after leg s) →
      ((s : TranslatorModel) (leg : Leg) → g.reply s leg ≡ traced_answer tells leg s) → (s : TranslatorModel)
      (legs : List Leg) → replies g s legs ≡ traced_replies tells s.rules s.table.address legs (local_state s.table)
  replies_kept stepped_is reply_is s [] = refl
  replies_kept stepped_is reply_is s (leg ∷ legs) =
      rw (reply_is s leg, stepped_is s leg, replies_kept stepped_is reply_is (translator_after leg s) legs) refl

  -- If the workers answered with their translators, the answers are right.
  pub right_since : (rules : Rules) (start : State) (starts : List TranslatorModel) (offered : List (List Leg))
      (taken : List (List (TracedAnswer P))) → starts ≡ started_from rules start (length rules.pool) →
      taken ≡ zip_with (replies g) starts offered →
      ((s : TranslatorModel) (leg : Leg) → g.stepped s leg ≡ translator_after leg s) →
      ((s : TranslatorModel) (leg : Leg) → g.reply s leg ≡ traced_answer tells leg s) →
      length offered ≡ length rules.pool → AnswersAreRight tells rules start offered taken
  right_since rules start starts offered taken began is_taken stepped_is reply_is many = λ w lt.
      let long = length_started rules start (length rules.pool) in
      let is : of_worker taken w ≡ traced_replies tells rules (slice_index rules.pool w) (of_worker offered w)
      (local_bindings start (slice_index rules.pool w)) =
      rw (
        is_taken,
        began,
        zip_index (replies g) (started_from rules start (length rules.pool)) offered w (initial_translator w rules) []
            (omega arith) (omega arith),
        started_at rules start (length rules.pool) w (initial_translator w rules) lt,
      )
      (replies_kept stepped_is reply_is (with_local_state (initial_translator w rules)
      (local_bindings start (slice_index rules.pool w)))
      (of_worker offered w)) in
      ([], append-nil (of_worker taken w) ∙ is)

  -- The same holds if only the first of their answers were taken.
  pub right_begin : (rules : Rules) (start : State) (starts : List TranslatorModel) (offered : List (List Leg))
      (taken : List (List (TracedAnswer P))) → starts ≡ started_from rules start (length rules.pool) →
      ArePrefixesOf taken (zip_with (replies g) starts offered) →
      ((s : TranslatorModel) (leg : Leg) → g.stepped s leg ≡ translator_after leg s) →
      ((s : TranslatorModel) (leg : Leg) → g.reply s leg ≡ traced_answer tells leg s) →
      length offered ≡ length rules.pool → AnswersAreRight tells rules start offered taken
  right_begin rules start starts offered taken began begin stepped_is reply_is many = λ w lt.
      let long : length starts ≡ length offered = ap length began ∙ (length_started rules start (length rules.pool)
      ∙ sym many) in
      let all : length (zip_with (replies g) starts offered) ≡ length offered = zip_long
      (replies g) starts offered long in
      fronts_both _ _ _ (begin_at taken (zip_with (replies g) starts offered) w (omega (arith, lt, many, all)) begin)
      (right_since rules start starts offered (zip_with (replies g) starts offered) began refl stepped_is reply_is many
      w lt)
