-- next_reply: a stored answer or the next reply of the ring is returned, in each case of the reply.
use Rattle.std.{proofs.Common.{refl, ap, ◌∙◌, [], ◌∷◌, ◌++◌, append-nil}, specs.{Prelude.Some, Vec.Iter.into_iter_items}}
use Rattle.rtrb.specs.Ring.{received}
use Rattle.napt_pool.{specs.{Histories.{answers_of, each_reply, replies_handed_out}, declared.message.Reply.TheVariants.{Done, Failed, Many}}, proofs.JoinedWorkers.drained}
use Rattle.napt_pool.proofs.{AnswersAtHand.{next_hand, next_taken, came_heard, taken_grown}, HistoryGrowth.answers_of-append}
use Rattle.napt_pool.proofs.answers.next_reply.Goals as goal

pub returns-in-Some-clause-hand : goal.returns-in-Some-clause-hand
returns-in-Some-clause-hand g c =
    next_hand (each_reply (received c.args.answers.now)) _ (into_iter_items c.args.at_hand.now)
    (into_iter_items c.next.new.self) c.requires.hand refl (Some c.in-Some.answer) c.in-Some.ensures.items

pub returns-in-Some-clause-some : goal.returns-in-Some-clause-some
returns-in-Some-clause-some g c =
    next_taken (each_reply (received c.args.answers.now)) _ (into_iter_items c.args.at_hand.now)
    (into_iter_items c.next.new.self) c.requires.hand refl (Some c.in-Some.answer) c.in-Some.ensures.items

pub returns-in-Ok-Done-clause-heard : goal.returns-in-Ok-Done-clause-heard
returns-in-Ok-Done-clause-heard g c =
    let popped = rw c.in-Ok-Done.field-0-is at c.in-Ok-Done.ensures.ok in
    let left = drained c.next.new.self c.in_default.ensures.cases.1 in
    came_heard (received c.args.answers.now) (received c.pop.new.self) (into_iter_items c.args.at_hand.now)
    (into_iter_items c.next.new.self) (Done c.in-Ok-Done.answer) c.requires.hand (c.in_default.ensures.items ∙ left)
    popped.0 left

pub returns-in-Ok-Many-clause-heard : goal.returns-in-Ok-Many-clause-heard
returns-in-Ok-Many-clause-heard g c =
    let popped = rw c.in-Ok-Many.field-0-is at c.in-Ok-Many.ensures.ok in
    let left = drained c.next.new.self c.in_default.ensures.cases.1 in
    came_heard (received c.args.answers.now) (received c.pop.new.self) (into_iter_items c.args.at_hand.now)
    (into_iter_items c.next.new.self) (Many c.in-Ok-Many.answered) c.requires.hand (c.in_default.ensures.items ∙ left)
    popped.0 left ∙ ap (λ r. replies_handed_out c.args.answers.now (into_iter_items c.args.at_hand.now) ++ r)
    (append-nil _)

pub returns-in-Ok-Failed-clause-stopped : goal.returns-in-Ok-Failed-clause-stopped
returns-in-Ok-Failed-clause-stopped g c =
    let popped = rw c.in-Ok-Failed.field-0-is at c.in-Ok-Failed.ensures.ok in
    let left = drained c.next.new.self c.in_default.ensures.cases.1 in
    came_heard (received c.args.answers.now) (received c.pop.new.self) (into_iter_items c.args.at_hand.now)
    (into_iter_items c.next.new.self) (Failed c.in-Ok-Failed.stop) c.requires.hand
    (c.in_default.ensures.items ∙ left) popped.0 left

pub returns-in-Ok-Done-clause-some : goal.returns-in-Ok-Done-clause-some
returns-in-Ok-Done-clause-some g c = taken_grown _ _ (c.in-Ok-Done.answer ∷ []) (returns-in-Ok-Done-clause-heard g c)

pub returns-in-Ok-Many-clause-some : goal.returns-in-Ok-Many-clause-some
returns-in-Ok-Many-clause-some g c =
    taken_grown _ _ c.in-Ok-Many.answered.answers.items (returns-in-Ok-Many-clause-heard g c)

pub returns-in-Ok-Failed-clause-err : goal.returns-in-Ok-Failed-clause-err
returns-in-Ok-Failed-clause-err g c =
    let heard = replies_handed_out c.args.answers.now (into_iter_items c.args.at_hand.now) in
    ap answers_of (returns-in-Ok-Failed-clause-stopped g c)
    ∙ answers_of-append heard (Failed c.in-Ok-Failed.stop ∷ []) ∙ append-nil (answers_of heard)
