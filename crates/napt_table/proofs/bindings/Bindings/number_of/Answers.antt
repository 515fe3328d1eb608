-- `number_of`: a look-up of an inside endpoint finds the number of its live binding.
use Rattle.std.{proofs.Common.{sym, ap, ◌∙◌}, specs.Option.option_copied}
use Rattle.napt_table.{specs.HeldLists.seen_binding, proofs.{SeenBindings.seen_dead, LiveNumbers.{live_none, live_dead, live_found}}}
use Rattle.napt_table.proofs.bindings.Bindings.number_of.Goals as goal

pub returns-in_err-number : goal.returns-in_err-number
returns-in_err-number c = rw (← c.self.view_is, c.from_residual.ensures) (live_none
    (record {
      timers = c.self.inside.timers;
      at = c.self.inside.at;
      held = c.self.inside.held;
      due = c.self.inside.due;
    })
    c.args.now c.args.protocol c.args.inside c.number_of.result c.number_of.ensures c.in_err-number.was)

pub returns-in-Some : goal.returns-in-Some
returns-in-Some c = rw (← c.self.view_is) (live_found
    (record {
      timers = c.self.inside.timers;
      at = c.self.inside.at;
      held = c.self.inside.held;
      due = c.self.inside.due;
    })
    c.args.now c.args.protocol c.args.inside c.number_of.result c.in_ok-number.number c.in-Some.binding.now
    c.number_of.ensures c.in_ok-number.was (sym c.in-Some.ensures) (sym c.is_live.ensures ∙ c.if-is_live.true))

pub returns-in_default : goal.returns-in_default
returns-in_default c = rw (← c.self.view_is) (live_dead
    (record {
      timers = c.self.inside.timers;
      at = c.self.inside.at;
      held = c.self.inside.held;
      due = c.self.inside.due;
    })
    c.args.now c.args.protocol c.args.inside c.number_of.result c.in_ok-number.number
    c.number_of.ensures c.in_ok-number.was
    (ap (seen_binding c.self.inside.timers c.args.now) (sym c.in-Some.ensures)
    ∙ seen_dead c.self.inside.timers c.args.now c.in-Some.binding.now (sym c.is_live.ensures ∙ c.if-is_live.false)))

pub returns-in_default-2 : goal.returns-in_default-2
returns-in_default-2 c = rw (← c.self.view_is) (live_dead
    (record {
      timers = c.self.inside.timers;
      at = c.self.inside.at;
      held = c.self.inside.held;
      due = c.self.inside.due;
    })
    c.args.now c.args.protocol c.args.inside c.number_of.result c.in_ok-number.number
    c.number_of.ensures c.in_ok-number.was
    (ap (seen_binding c.self.inside.timers c.args.now) (sym c.get.ensures ∙ ap option_copied c.in_default.is)))
