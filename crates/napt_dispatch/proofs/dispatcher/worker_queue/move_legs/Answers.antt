-- move_legs: moving one leg changes neither the legs nor their number nor their order.
use Rattle.std.proofs.{Common.{arith, length, ◌++◌, ◌∷◌, [], ap, ◌∙◌}, lemmas.List.length_push}
use Rattle.napt_dispatch.{specs.declared.dispatcher.pending_leg.PendingLeg.PendingLeg, proofs.QueueStates.turned_on}
use Rattle.napt_dispatch.proofs.dispatcher.worker_queue.move_legs.Goals as goal

pub returns-in_err-reserve-clause-legs : goal.returns-in_err-reserve-clause-legs
returns-in_err-reserve-clause-legs c = λ acts. rw c.reserve.ensures.items (c.loop-held.invariant.legs acts)

pub loop-held-preserved : goal.loop-held-preserved
loop-held-preserved c =
    let leg = c.in-Some-Ready-pop_front.leg in
    let ready = c.loop-held.ready.items in
    let first = c.in-Some-Ready-pop_front.ensures.items
    ∙ ap (λ (h : PendingLeg). h ∷ c.pop_front.new.self.items) c.in-Some-Ready-pop_front.field-0-is in
    let now = c.push_reserved.ensures.items ∙ ap (λ ls. ls ++ leg ∷ []) c.reserve.ensures.items in
    record {
      legs = λ acts. rw now (turned_on acts ready leg c.loop-held.held.items c.pop_front.new.self.items first
          ∙ c.loop-held.invariant.legs acts);
      count = omega (arith, ap length first, ap length now ∙ length_push ready leg, c.loop-held.invariant.count);
      shorter = omega (arith, ap length first, c.loop-held.invariant.shorter);
    }
