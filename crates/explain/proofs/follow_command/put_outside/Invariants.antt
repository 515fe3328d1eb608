-- put_outside: while records are written, no write to the device has failed.
use Rattle.std.proofs.Common.{◌≡◌}
use Rattle.explain.proofs.follow_command.put_outside.Given as goal

abbrev pub invariant-loop-input : goal.invariant-loop-input
invariant-loop-input g l = g.W.Sink.failed l.sink ≡ g.W.Sink.failed l.fn.sink
