-- Returning no input changes nothing, and inputs that are returned in two parts are returned in one.
use Rattle.std.{specs.Prelude.{List, [], ◌++◌, Option, None, Some}, proofs.Common.{refl, sym, ap, ◌∙◌, append_assoc}}
use Rattle.std.proofs.lemmas.List.Elements.{All-append, All-nil}
use Rattle.napt_capture.specs.declared.device.Source.{Ghosts}
use Rattle.napt_records.specs.{declared.stream_merger.StreamMerger.StreamMerger, StreamMergers.HandsOutInputs, Output.IsTimely, UnreadInputs.{InputsCameFirst, inputs_of}, RecordMerging.MergedInputs}
use Rattle.napt_rules.specs.Prelude.{Arrival}

follows_none : (x : Option MergedInputs) → InputsCameFirst x [] x
follows_none None = tt
follows_none (Some x) = refl

follows_more : (x y z : Option MergedInputs) (xs ys : List Arrival) → InputsCameFirst x xs y →
    InputsCameFirst y ys z → InputsCameFirst x (xs ++ ys) z
follows_more None y z xs ys first second = tt
follows_more (Some x) None z xs ys first second = absurd first
follows_more (Some x) (Some y) None xs ys first second = absurd second
follows_more (Some x) (Some y) (Some z) xs ys first second =
    first ∙ ap (λ (i : MergedInputs). record { arrivals = xs ++ i.arrivals; end = i.end }) second
    ∙ ap (λ l. record { arrivals = l; end = z.end }) (sym (append_assoc xs ys z.arrivals))

module _ {R Q : Type 0} {G : Ghosts R} {H : Ghosts Q} where
  pub HandsOut-none : (x : StreamMerger R Q G H) → HandsOutInputs x [] x
  HandsOut-none x = (
    (refl, refl),
    λ live. record {
      live = live;
      inside_count = refl;
      outside_count = refl;
      timely = All-nil IsTimely;
      takes = follows_none (inputs_of x);
    },
  )

  pub HandsOut-more : (x y z : StreamMerger R Q G H) (xs ys : List Arrival) → HandsOutInputs x xs y →
      HandsOutInputs y ys z →
      HandsOutInputs x (xs ++ ys) z
  HandsOut-more x y z xs ys first second = (
    (second.0.0 ∙ first.0.0, second.0.1 ∙ first.0.1),
    λ live.
        let a = first.1 live in
        let b = second.1 a.live in
        record {
          live = b.live;
          inside_count = b.inside_count ∙ a.inside_count;
          outside_count = b.outside_count ∙ a.outside_count;
          timely = All-append IsTimely xs ys a.timely b.timely;
          takes = follows_more (inputs_of x) (inputs_of y) (inputs_of z) xs ys a.takes b.takes;
        },
  )
