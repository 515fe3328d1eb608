-- take_due: if nothing is returned, no endpoint in the queue is due.
use Rattle.std.proofs.{lemmas.{Grind.common_steps, Bool.Decides.nat_tests}, Common.arith}
use Rattle.napt_account.proofs.{EndOrder.none_due, EndQueue.{not_empty, first_least}}
use Rattle.napt_account.proofs.open_entries.OpenEntries.take_due.Goals as goal

pub returns-in_default-clause-none : goal.returns-in_default-clause-none
returns-in_default-clause-none c = grind (arith, common_steps, nat_tests, none_due, not_empty)

pub returns-then-now-first-clause-none : goal.returns-then-now-first-clause-none
returns-then-now-first-clause-none c = grind (arith, common_steps, nat_tests, none_due, first_least)
