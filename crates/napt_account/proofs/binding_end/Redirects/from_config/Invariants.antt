-- from_config: the keys so far are those of the first redirects.
use Rattle.std.proofs.Common.{take}
use Rattle.napt_account.proofs.Redirects.{AreKeys}
use Rattle.napt_account.proofs.binding_end.Redirects.from_config.Given as goal

abbrev pub invariant-loop-timed : goal.invariant-loop-timed
invariant-loop-timed l = AreKeys (take l.timed-index l.timed-items) l.keys
