-- last_clock: `clock` is the last clock of the inputs so far.
use Rattle.std.proofs.Common.{◌≡◌, take}
use Rattle.napt_rules.specs.Prelude.{last_clock}
use Rattle.napt_dispatch.proofs.inputs.last_clock.Given as goal

abbrev pub invariant-loop-input : goal.invariant-loop-input
invariant-loop-input l = l.clock ≡ last_clock 0 (take l.input-index l.inputs)
