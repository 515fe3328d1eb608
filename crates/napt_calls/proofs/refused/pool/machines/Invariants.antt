-- machines: there are as many machines as the loop has counted.
use Rattle.std.proofs.Common.{◌≡◌, vec_len}
use Rattle.napt_calls.proofs.refused.pool.machines.Given as goal

abbrev pub invariant-loop : goal.invariant-loop
invariant-loop l = vec_len l.all ≡ l.counter
