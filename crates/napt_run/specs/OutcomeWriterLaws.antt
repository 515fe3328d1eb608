-- Outcomes that leave in two parts can be taken as one part.
use Rattle.std.specs.Prelude.{◌≡◌, ℕ, ◌+◌, ◌-◌, ◌^◌, ◌<◌, min, List, [], ◌∷◌, ◌++◌, length, take, map, filter_map, flat_map, Option, Some, None, refl}
use Rattle.std.proofs.Common.{sym, ◌∙◌, ap, subst, append-nil, append_assoc, arith, length-append, add_assoc, add-zero}
use Rattle.std.{proofs.{Math.{Nat.{lt_of_le_of_lt, le-add_right}, Seq.take-append-add}, KnownBytes.Appends-trans}, specs.Io.KnownBytes.Appends}
use Rattle.std.proofs.lemmas.{List.{map-append, Elements.{filter_map-append, All-head, All-tail, All-nil, All-cons}}, Grind.flat_map-append}
use Rattle.napt_wire.specs.declared.Side.{Side}
use Rattle.napt_wire.specs.declared.Side.TheVariants as sides
use Rattle.napt_capture.specs.{declared.{device.Sink.Ghosts, fault.WriteFault.WriteFault}, Contents.RecordModel, Text.record_text}
use Rattle.napt_rules.specs.declared.Outcome.{Outcome}
use Rattle.napt_records.specs.{Output.{packet_to, record_at, IsTime}, Counts.AreCountsOf}
use Rattle.napt_run.specs.{Outputs.{OutputBreaks, OutputGrows}, OutcomeWriters.{TimedOutcome, records_text, AreTimes, SinkTakes}, declared.{output.Output.Output, outcome_writer.OutcomeWriter.OutcomeWriter}}

-- TEXTS AND TIMES

pub records_text-append : (side : Side) (first second : List TimedOutcome) → records_text side (first ++ second)
    ≡ records_text side first ++ records_text side second
records_text-append side first second =
    let record_of : TimedOutcome → Option RecordModel = λ timed. record_at timed.0 (packet_to side timed.1) in
    ap (λ (l : List RecordModel). flat_map record_text l) (filter_map-append record_of first second)
    ∙ flat_map-append record_text (filter_map record_of first) (filter_map record_of second)

pub times_first : (first second : List TimedOutcome) → AreTimes (first ++ second) → AreTimes first
times_first [] second all = All-nil (λ timed. IsTime timed.0)
times_first (x ∷ first) second all =
    All-cons (λ timed. IsTime timed.0) x first (All-head (λ timed. IsTime timed.0) x (first ++ second) all)
    (times_first first second (All-tail (λ timed. IsTime timed.0) x (first ++ second) all))

pub times_second : (first second : List TimedOutcome) → AreTimes (first ++ second) → AreTimes second
times_second [] second all = all
times_second (x ∷ first) second all =
    times_second first second (All-tail (λ timed. IsTime timed.0) x (first ++ second) all)

pub appends_none : (known : Option (List ℕ)) → Appends known known []
appends_none None = tt
appends_none (Some xs) = sym (append-nil xs)

-- ONE OUTPUT

module _ {W : Type 0} {S : Ghosts W} where
  pub grows_none : (x : Output W S) → OutputGrows x [] x
  grows_none x = record {
    same = refl;
    sound = λ sound. sound;
    counted = λ a is. is ∙ ap (λ (n : ℕ). min n (2 ^ 64 - 1)) (sym (add-zero a));
    appended = appends_none (S.contents x.device.now);
    kept = refl;
  }

  pub grows_more : (x y z : Output W S) (first second : List ℕ) → OutputGrows x first y →
      OutputGrows y second z → OutputGrows x (first ++ second) z
  grows_more x y z first second one two = record {
    same = two.same ∙ one.same;
    sound = λ sound. two.sound (one.sound sound);
    counted = λ a is. two.counted (a + length first) (one.counted a is)
        ∙ ap (λ (n : ℕ). min n (2 ^ 64 - 1)) (add_assoc a (length first) (length second)
        ∙ ap (λ (n : ℕ). a + n) (sym (length-append first second)));
    appended = Appends-trans _ _ _ first second one.appended two.appended;
    kept = two.kept ∙ one.kept;
  }

-- A fault after a text that was written is a fault of the whole text.
module _ {W : Type 0} {S : Ghosts W} where
  unfoldable pub breaks_more : (x y z : Output W S) (first second : List ℕ) (fault : WriteFault) →
      OutputGrows x first y →
      OutputBreaks y second fault z → OutputBreaks x (first ++ second) fault z
  breaks_more x y z first second fault one two = record {
    same = two.same ∙ one.same;
    count = length first + two.count;
    within = omega (arith, two.within, length-append first second);
    counted = λ a is. two.counted (a + length first) (one.counted a is)
        ∙ ap (λ (n : ℕ). min n (2 ^ 64 - 1)) (add_assoc a (length first) two.count);
    appended = subst (λ (l : List ℕ). Appends (S.contents x.device.now) (S.contents z.device.now) l)
        (sym (take-append-add first second two.count))
        (Appends-trans _ _ _ first (take two.count second) one.appended two.appended);
    broken = two.broken;
    failed_once = two.failed_once ∙ ap (λ (n : ℕ). n + 1) one.kept;
  }

-- BOTH

module _ {W V : Type 0} {S : Ghosts W} {T : Ghosts V} where
  pub takes_none : (x : OutcomeWriter W V S T) → SinkTakes x [] x
  takes_none x = record {
    to_outside = λ times. grows_none x.to_outside;
    to_inside = λ times. grows_none x.to_inside;
    counts = λ outcomes few are. subst (λ (l : List Outcome). AreCountsOf l x.counts) (sym (append-nil outcomes)) are;
  }

  pub takes_more : (x y z : OutcomeWriter W V S T) (first second : List TimedOutcome) → SinkTakes x first y →
      SinkTakes y second z → SinkTakes x (first ++ second) z
  takes_more x y z first second one two = record {
    to_outside = λ times. subst (λ (l : List ℕ). OutputGrows x.to_outside l z.to_outside)
        (sym (records_text-append sides.Outside first second))
        (grows_more x.to_outside y.to_outside z.to_outside _ _ (one.to_outside (times_first first second times))
        (two.to_outside (times_second first second times)));
    to_inside = λ times. subst (λ (l : List ℕ). OutputGrows x.to_inside l z.to_inside)
        (sym (records_text-append sides.Inside first second))
        (grows_more x.to_inside y.to_inside z.to_inside _ _ (one.to_inside (times_first first second times))
        (two.to_inside (times_second first second times)));
    counts = λ outcomes few are.
        let mid : List Outcome = outcomes ++ map (λ timed. timed.1) first in
        let last : List Outcome = map (λ timed. timed.1) second in
        let both : mid ++ last ≡ outcomes ++ map (λ timed. timed.1) (first ++ second) =
        append_assoc outcomes (map (λ timed. timed.1) first) last
        ∙ ap (λ (l : List Outcome). outcomes ++ l) (sym (map-append (λ timed. timed.1) first second)) in
        let all_few : length (mid ++ last) < 2 ^ 64 =
        subst (λ (l : List Outcome). length l < 2 ^ 64) (sym both) few in
        let mid_few : length mid < 2 ^ 64 =
        lt_of_le_of_lt (le-add_right (length mid) (length last))
        (subst (λ (n : ℕ). n < 2 ^ 64) (length-append mid last) all_few) in
        subst (λ (l : List Outcome). AreCountsOf l z.counts) both
        (two.counts mid all_few (one.counts outcomes mid_few are));
  }
