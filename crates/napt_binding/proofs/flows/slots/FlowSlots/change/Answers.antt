-- change: emptying a slot and filling it again replaces its flow.
use Rattle.std.proofs.Common.{None, Some}
use Rattle.napt_binding.proofs.{Slots.set_twice, LastUses.used_cleared}
use Rattle.napt_binding.proofs.flows.slots.FlowSlots.change.Goals as goal

pub fill-requires-clause-rising : goal.fill-requires-clause-rising
fill-requires-clause-rising c = rw c.clear.ensures.slots
    (used_cleared c.args.self.now.slots c.args.place c.args.flow.last c.requires.rising)

pub returns-clause-slots : goal.returns-clause-slots
returns-clause-slots c = rw (c.fill.ensures.slots, c.clear.ensures.slots)
    (set_twice c.args.self.now.slots c.args.place None (Some c.args.flow))
