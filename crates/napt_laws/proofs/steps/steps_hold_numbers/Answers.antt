-- `steps_hold_numbers`: each step preserves the account of who had a number, and for how long it was held.
use Rattle.napt_laws.proofs.HoldTimes.{accounts_begin, out_keeps_accounts, in_keeps_accounts, held_times_are_far}
use Rattle.napt_laws.proofs.steps.steps_hold_numbers.Goals as goal

pub returns-clause-begin : goal.returns-clause-begin
returns-clause-begin c = accounts_begin

pub returns-clause-outbound : goal.returns-clause-outbound
returns-clause-outbound c = out_keeps_accounts

pub returns-clause-inbound : goal.returns-clause-inbound
returns-clause-inbound c = in_keeps_accounts

pub returns-clause-far : goal.returns-clause-far
returns-clause-far c = held_times_are_far
