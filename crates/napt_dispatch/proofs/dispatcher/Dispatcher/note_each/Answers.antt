-- note_each: one more answer is recorded, and one leg fewer is owed.
use Rattle.std.proofs.{Common.{◌≡◌, ◌+◌, ◌<◌, ◌++◌, [], ◌∷◌, length, ◌∙◌, arith, refl}, lemmas.List.length_push}
use Rattle.napt_pool.proofs.JoinedWorkers.{split-step}
use Rattle.napt_dispatch.proofs.WorkerOffers.{notes_none, notes_more, noted_less}
use Rattle.napt_dispatch.proofs.dispatcher.Dispatcher.note_each.Goals as goal

pub loop-answer-init : goal.loop-answer-init
loop-answer-init g c = record {
  split = refl;
  many = refl;
  noted = notes_none c.args.w c.args.self.now;
  fewer = omega arith;
}

pub loop-answer-preserved : goal.loop-answer-preserved
loop-answer-preserved g c =
    let was = c.loop-answer.invariant in
    let noted = c.in_ok-note.ensures.noted in
    let inside : c.args.w < length c.loop-answer.self.queues = rw was.many c.requires in
    let less = noted_less c.args.w c.in-Some.answer c.loop-answer.self c.note.new.self inside noted in
    let more : length (c.loop-answer.yielded ++ c.in-Some.answer ∷ []) ≡ length c.loop-answer.yielded + 1 =
    length_push c.loop-answer.yielded c.in-Some.answer in
    record {
      split = split-step _ _ _ _ _ was.split c.in-Some.ensures.steps.0;
      many = c.in_ok-note.ensures.many ∙ was.many;
      noted = notes_more c.args.w c.in-Some.answer c.loop-answer.self c.note.new.self inside noted
          c.loop-answer.yielded c.args.self.now was.noted;
      fewer = omega (arith, less, more, was.fewer);
    }
