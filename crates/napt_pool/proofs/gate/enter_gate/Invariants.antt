-- enter_gate: a gate that is always open is not asked a second time.
use Rattle.std.proofs.Common.{◌≡◌, true}
use Rattle.napt_pool.proofs.gate.enter_gate.Given as goal

abbrev pub invariant-loop : goal.invariant-loop
invariant-loop g l = g.G.Gate.is_open ≡ true → l.counter ≡ 0
