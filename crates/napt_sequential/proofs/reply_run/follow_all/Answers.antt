-- follow_all: one more input can be translated, and is the one that the run gets.
use Rattle.std.proofs.Common.{◌≡◌, ◌≤◌, max, List, [], ◌∷◌, ◌++◌, length, length-append, append_assoc, sym, ◌∙◌, ap, subst, arith}
use Rattle.std.specs.Vec.Iter.{into_iter_items}
use Rattle.napt_rules.specs.Prelude.{Arrival, last_clock}
use Rattle.napt_follow.specs.Following.{followed}
use Rattle.napt_sequential.{specs.CountedTranslators.{state_at_time, state_of}, proofs.OneMoreReplyInput.{FollowedSoFar, can_take_next, followed_next}}
use Rattle.napt_sequential.proofs.reply_run.follow_all.Goals as goal

pub step-requires-clause-can_take : goal.step-requires-clause-can_take
step-requires-clause-can_take c =
    let taken : List Arrival = c.loop-input.yielded in
    let so_far : FollowedSoFar c.args.config.now taken c.loop-input.got.items c.loop-input.last
    c.loop-input.translators = c.loop-input.invariant.so_far in
    let clock : c.input.inside.clock ≡ c.in-Some.input.clock = ap (λ (a : Arrival). a.clock) c.input.view_is in
    let now : c.max-last.result ≡ max c.loop-input.last c.in-Some.input.clock = c.max-last.ensures
    ∙ ap (max c.loop-input.last) clock in
    let later : last_clock 0 (followed c.args.config.now taken) ≤ c.max-last.result =
    omega (arith, so_far.clock, now) in
    let long = length-append taken (into_iter_items c.loop-input.input-iterator) in
    let whole = ap length c.loop-input.invariant.split in
    let few = c.requires.few in
    can_take_next c.args.config.now taken c.in-Some.input c.loop-input.got.items c.loop-input.last
    c.loop-input.translators so_far c.max-last.result c.follow-next.new.translators
    (c.follow-next.ensures.left (state_of c.args.config.now (followed c.args.config.now taken)) later
    so_far.translators_are) (omega arith)

pub loop-input-preserved : goal.loop-input-preserved
loop-input-preserved c =
    let taken : List Arrival = c.loop-input.yielded in
    let input : Arrival = c.in-Some.input in
    let so_far : FollowedSoFar c.args.config.now taken c.loop-input.got.items c.loop-input.last
    c.loop-input.translators = c.loop-input.invariant.so_far in
    let state = state_of c.args.config.now (followed c.args.config.now taken) in
    let clock : c.input.inside.clock ≡ input.clock = ap (λ (a : Arrival). a.clock) c.input.view_is in
    let now : c.max-last.result ≡ max c.loop-input.last input.clock = c.max-last.ensures
    ∙ ap (max c.loop-input.last) clock in
    let later : last_clock 0 (followed c.args.config.now taken) ≤ c.max-last.result =
    omega (arith, so_far.clock, now) in
    let number : c.len-number.result ≡ length c.loop-input.got.items =
    (let len = c.len-number.ensures in let ok = c.loop-input.got.ok.0 in omega arith) in
    let next = c.follow-next.result in
    record {
      split = append_assoc taken (input ∷ []) (into_iter_items c.next.new.self)
          ∙ ap (λ (l : List Arrival). taken ++ l) (sym c.in-Some.ensures.steps.0) ∙ c.loop-input.invariant.split;
      so_far = subst (λ (gs : List Arrival). FollowedSoFar c.args.config.now (taken ++ input ∷ []) gs
          c.max-last.result c.step.new.translators) (sym c.in_ok-push.ensures.items)
          (followed_next c.args.config.now taken input c.loop-input.got.items c.loop-input.last
          c.loop-input.translators so_far c.len-number.result c.max-last.result number now next
          (c.follow-next.ensures.value state so_far.translators_are later) c.step.new.translators
          c.in_ok-stepped.stepped (c.in_ok-stepped.ensures (state_at_time c.max-last.result state)
          (c.follow-next.ensures.left state later so_far.translators_are) (omega arith)));
    }
