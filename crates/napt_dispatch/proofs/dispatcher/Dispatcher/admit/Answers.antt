-- admit: the invariant is preserved with one more input, which has a first leg or is dropped without one.
use Rattle.std.proofs.{Common.{◌≡◌, Ok, Some, slice_get}, lemmas.Result.IfOk-at_ok}
use Rattle.napt_config.specs.Rules.{Rules}
use Rattle.napt_rules.specs.Prelude.{way_from, served_at, Arrival, admission}
use Rattle.napt_dispatch.proofs.InvariantSteps.{admitted_admits, refused_admits}
use Rattle.napt_dispatch.proofs.dispatcher.Dispatcher.admit.Goals as goal

pub returns-in_ok-hold_first-in-Ok-clause-admits : goal.returns-in_ok-hold_first-in-Ok-clause-admits
returns-in_ok-hold_first-in-Ok-clause-admits g c =
    let config : Rules = c.args.config.now in
    let copy : Arrival = record {
      side = c.input.inside.side;
      time = c.input.inside.time;
      clock = c.input.inside.clock;
      bytes = c.input.inside.bytes.items;
    } in
    let routed : (admission config copy ≡ Ok c.in-Ok.packet)
    × (slice_get config.pool c.in-Ok.place ≡ Some (served_at config (way_from copy.side) c.in-Ok.packet)) =
    IfOk-at_ok _ c.in-Ok.is c.read_and_route.ensures.admitted in
    rw (← c.input.view_is)
    (admitted_admits config c.args.number c.args.now copy c.args.self.now c.hold_first.new.self c.in-Ok.packet
    c.in-Ok.place c.requires.keeps.pool.distinct c.right_answers.ensures.foretold c.second_place-to.ensures.reads
    routed.0 routed.1 c.in_ok-hold_first-in-Ok.ensures.progress
    c.second_place-to.result c.second_place-to.ensures.some c.second_place-to.ensures.none
    c.hold_first.ensures.many (rw c.way_from.ensures at c.in_ok-hold_first-in-Ok.ensures.placed))

pub returns-in_ok-note_dropped-in-Err-clause-admits : goal.returns-in_ok-note_dropped-in-Err-clause-admits
returns-in_ok-note_dropped-in-Err-clause-admits g c =
    rw (← c.input.view_is)
    (refused_admits c.args.config.now c.args.number c.args.now _ c.args.self.now c.note_dropped.new.self c.in-Err.cause
    c.requires.keeps.pool.distinct c.in-Err.ensures.refused c.note_dropped.ensures.same
    c.in_ok-note_dropped-in-Err.ensures.noted.progress_is)
