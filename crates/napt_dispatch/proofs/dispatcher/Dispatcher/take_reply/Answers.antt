-- take_reply: the dispatcher continues with no answer, with one, or with a batch of them.
use Rattle.std.proofs.{Common.{◌<◌, [], ◌∷◌, length, rules, refl}, lemmas.Result.err_from_is_err_and}
use Rattle.napt_dispatch.{specs.DispatcherInvariants.NoteAnswersPost, proofs.{Lanes.grows_taken, WorkerOffers.{notes_none, notes_more, over_pool, answered_keeps}}}
use Rattle.napt_dispatch.proofs.dispatcher.Dispatcher.take_reply.Goals as goal

pub returns-in_ok-note-in-Some-One-clause-state : goal.returns-in_ok-note-in-Some-One-clause-state
returns-in_ok-note-in-Some-One-clause-state g c =
    let inside : c.args.w < length c.args.self.now.queues = rw c.requires.sized c.requires.place in
    let notes : NoteAnswersPost g.P.LegTrace.tells c.args.w (c.in-Some-One.answer ∷ []) c.args.self.now c.note.new.self
    =
    notes_more c.args.w c.in-Some-One.answer c.args.self.now c.note.new.self inside
    c.in_ok-note-in-Some-One.ensures.noted [] c.args.self.now (notes_none c.args.w c.args.self.now) in
    record {
      grows = grows_taken c.args.w c.args.pool.now c.take_all.new.self c.requires.place c.in_ok-take_all.ensures.starts
          (c.in-Some-One.answer ∷ []) c.in_ok-take_all.ensures.accepts
          (rw (c.in-Some-One.is, c.in-Some-One.field-0-is) at c.in_ok-take_all.ensures.some);
      sized = search rules;
      journal_stays = notes.journal_stays;
      keeps = over_pool (answered_keeps c.args.w (c.in-Some-One.answer ∷ []) c.args.pool.now c.args.self.now
          c.take_all.new.self c.note.new.self c.requires.place c.in_ok-take_all.ensures.accepts
          (rw (c.in-Some-One.is, c.in-Some-One.field-0-is) at c.in_ok-take_all.ensures.some) notes);
    }

pub returns-in_ok-note_all-in-Some-All-clause-state : goal.returns-in_ok-note_all-in-Some-All-clause-state
returns-in_ok-note_all-in-Some-All-clause-state g c = record {
  grows = grows_taken c.args.w c.args.pool.now c.take_all.new.self c.requires.place c.in_ok-take_all.ensures.starts
      c.in-Some-All.answered.answers.items c.in_ok-take_all.ensures.accepts
      (rw (c.in-Some-All.is, c.in-Some-All.field-0-is) at c.in_ok-take_all.ensures.some);
  sized = search rules;
  journal_stays = c.in_ok-note_all-in-Some-All.ensures.noted.journal_stays;
  keeps = over_pool (answered_keeps c.args.w c.in-Some-All.answered.answers.items c.args.pool.now c.args.self.now
      c.take_all.new.self c.note_all.new.self c.requires.place c.in_ok-take_all.ensures.accepts
      (rw (c.in-Some-All.is, c.in-Some-All.field-0-is) at c.in_ok-take_all.ensures.some)
      c.in_ok-note_all-in-Some-All.ensures.noted);
}

pub returns-in_err-note-in-Some-One-clause-state : goal.returns-in_err-note-in-Some-One-clause-state
returns-in_err-note-in-Some-One-clause-state g c =
    let p = err_from_is_err_and c.from_residual-in_err-note-in-Some-One.result
    c.from_residual-in_err-note-in-Some-One.ensures.1 in
    rw (p.1, p.2)
    (record {
      grows = grows_taken c.args.w c.args.pool.now c.take_all.new.self c.requires.place c.in_ok-take_all.ensures.starts
          (c.in-Some-One.answer ∷ []) c.in_ok-take_all.ensures.accepts
          (rw (c.in-Some-One.is, c.in-Some-One.field-0-is) at c.in_ok-take_all.ensures.some);
      fault_is = (tt, λ is. refl);
    })

pub returns-in_err-note_all-in-Some-All-clause-state : goal.returns-in_err-note_all-in-Some-All-clause-state
returns-in_err-note_all-in-Some-All-clause-state g c =
    let p = err_from_is_err_and c.from_residual-in_err-note_all-in-Some-All.result
    c.from_residual-in_err-note_all-in-Some-All.ensures.1 in
    rw (p.1, p.2)
    (record {
      grows = grows_taken c.args.w c.args.pool.now c.take_all.new.self c.requires.place c.in_ok-take_all.ensures.starts
          c.in-Some-All.answered.answers.items c.in_ok-take_all.ensures.accepts
          (rw (c.in-Some-All.is, c.in-Some-All.field-0-is) at c.in_ok-take_all.ensures.some);
      fault_is = (tt, λ is. refl);
    })
