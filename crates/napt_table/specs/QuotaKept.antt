-- No inside host gets more bindings than its quota (RFC 6888, REQ-4).
use Rattle.std.specs.Prelude.{◌≡◌, ℕ, ◌≤◌, max, List, Some}
use Rattle.napt_config.specs.declared.settings.Timers.{Timers}
use Rattle.napt_rules.specs.{declared.{AssignmentRules.AssignmentRules, InboundRules.InboundRules}, Prelude.{Binding, count_for}}
use Rattle.napt_table.specs.{declared.table_event.TableEvent.TableEvent, Events.list_after_events}

-- After any events, the number of a host's bindings is at most the greater of the quota and its number at the start.
abbrev pub PlayedKeepsQuota : Type 0
PlayedKeepsQuota = (timers : Timers) (assignment : AssignmentRules) (quota : ℕ) → assignment.quota ≡ Some quota →
    (inbound : InboundRules) (address : ℕ) (events : List (ℕ × TableEvent)) (begun : List Binding) (at host : ℕ) →
    count_for at host (list_after_events timers assignment inbound address events begun)
    ≤ max quota (count_for at host begun)
