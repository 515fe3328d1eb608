-- ready_all: the moves so far and the next one make one move, up to `most` legs or a placeholder that waits.
use Rattle.std.proofs.Common.{refl, ◌∙◌}
use Rattle.napt_dispatch.{specs.declared.dispatcher.Dispatcher.Dispatcher, proofs.WorkerOffers.{readies_moved, readies_both}}
use Rattle.napt_dispatch.proofs.dispatcher.Dispatcher.ready_all.Goals as goal

pub loop-self-init : goal.loop-self-init
loop-self-init g c =
    let later : Dispatcher g.row.P.Denot = record c.args.self.now { queues = c.ready_legs.new.self } in record {
      many = c.in_ok-ready_legs.ensures.many;
      readies = readies_moved c.args.w c.args.self.now later c.requires refl c.in_ok-ready_legs.ensures.moves;
    }

pub loop-self-preserved : goal.loop-self-preserved
loop-self-preserved g c =
    let mid = c.ready_next.new.self in
    let later : Dispatcher g.row.P.Denot = record mid { queues = c.ready_legs-in-loop-self.new.self } in
    let many = c.in_ok-ready_next.ensures.many ∙ c.loop-self.invariant.many in record {
      many = c.in_ok-ready_legs-2.ensures.many ∙ many;
      readies = readies_both (readies_both c.loop-self.invariant.readies c.in_ok-ready_next.ensures.readies)
          (readies_moved c.args.w mid later (rw many c.requires) refl c.in_ok-ready_legs-2.ensures.moves);
    }

pub returns-then-not-branch-clause-readies : goal.returns-then-not-branch-clause-readies
returns-then-not-branch-clause-readies g c =
    readies_both c.loop-self.invariant.readies c.in_ok-ready_next.ensures.readies
