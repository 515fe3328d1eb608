-- has_accounts: the bindings so far were checked, and the sets have the numbers and endpoints of their accounts.
use Rattle.std.proofs.Common.{◌≡◌, ◌≤◌, ◌^◌}
use Rattle.napt_account.proofs.Accounts.{HasNumbers}
use Rattle.napt_state.specs.Saved.{made_so_far}
use Rattle.napt_state.proofs.SavedAccounts.{HasKeys, IsLooked, seen}
use Rattle.napt_state.proofs.saved_bindings.has_accounts.Given as goal

abbrev pub invariant-loop-binding : goal.invariant-loop-binding
invariant-loop-binding l = record {
  numbers : HasNumbers (seen l.made l.contents.clock l.contents.bindings l.binding-index) l.numbers;
  endpoints : HasKeys (seen l.made l.contents.clock l.contents.bindings l.binding-index) l.endpoints;
  looked : IsLooked l.made l.contents.clock l.contents.bindings l.binding-index;
}
