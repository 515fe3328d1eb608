-- place_of: the input of a number that is not open has left, or was not read.
use Rattle.std.proofs.Common.{inl, inr, arith}
use Rattle.napt_dispatch.proofs.KnownInputs.{left_unknown, unread_unknown}
use Rattle.napt_dispatch.proofs.dispatcher.run_progress.RunProgress.place_of.Goals as goal

pub returns-then-number-self : goal.returns-then-number-self
returns-then-number-self g c =
    rw (← c.self.view_is) (
      left_unknown c.self.inside.past.items _ c.args.number (omega (arith, c.self.invariant.0, c.if-number-self.true)),
      inl (omega (arith, c.self.invariant.0, c.if-number-self.true)),
    )

pub returns-else-place-len : goal.returns-else-place-len
returns-else-place-len g c =
    rw (← c.self.view_is) (
      unread_unknown c.self.inside.past.items c.self.inside.under_way.items c.args.number
          (omega (
            arith,
            c.self.invariant.0,
            c.self.inside.under_way.ok.0,
            c.len.ensures,
            c.if-place-len.false,
            c.if-number-self.false,
          )),
      inr (omega (
        arith,
        c.self.invariant.0,
        c.self.inside.under_way.ok.0,
        c.len.ensures,
        c.if-place-len.false,
        c.if-number-self.false,
      )),
    )
