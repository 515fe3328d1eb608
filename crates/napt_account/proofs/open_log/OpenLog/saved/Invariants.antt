-- saved: the map has the entries so far, and the bindings so far have got their accounts.
use Rattle.std.proofs.Common.{◌≡◌, map, take}
use Rattle.std.specs.HashMap as hash
use Rattle.napt_account.specs.OpenEntries.{entry_key, external_eq}
use Rattle.napt_account.proofs.OpenLogs.{IsMap}
use Rattle.napt_account.proofs.open_log.OpenLog.saved.Given as goal

abbrev pub invariant-loop-numbered : goal.invariant-loop-numbered
invariant-loop-numbered l = IsMap (take l.numbered-index l.self.entries) l.by_key

abbrev pub invariant-loop-binding : goal.invariant-loop-binding
invariant-loop-binding l = l.accounts.items
    ≡ map (λ b. hash.get external_eq l.by_key (entry_key b.row)) (take l.binding-index l.state.list)
