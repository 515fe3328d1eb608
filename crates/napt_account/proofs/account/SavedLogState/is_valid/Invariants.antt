-- is_valid: the sets have the numbers and endpoints of the accounts so far, all of which are valid.
use Rattle.std.proofs.Common.{take}
use Rattle.napt_account.specs.LogStarts.{accounted}
use Rattle.napt_account.proofs.Accounts.{HasEndpoints, HasNumbers, IsChecked}
use Rattle.napt_account.proofs.account.SavedLogState.is_valid.Given as goal

abbrev pub invariant-loop-place : goal.invariant-loop-place
invariant-loop-place l = record {
  numbers : HasNumbers (accounted (take l.place l.state.list) l.self.accounts) l.numbers;
  endpoints : HasEndpoints (accounted (take l.place l.state.list) l.self.accounts) l.endpoints;
  checked : IsChecked l.self.made l.state.clock l.state.list l.self.accounts l.place;
}
