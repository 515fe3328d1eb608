-- The events of a table, and the list of bindings after them.
use Rattle.std.specs.Prelude.{ℕ, List, [], ◌∷◌}
use Rattle.napt_rules.specs.{declared.{AssignmentRules.AssignmentRules, InboundRules.InboundRules}, Prelude.{Binding, live_and_held, step_out, step_in}}
use Rattle.napt_config.specs.declared.settings.Timers.{Timers}
use Rattle.napt_table.specs.{declared.table_event.TableEvent.{TableEvent, TheVariants.{Sent, Received, Purged}}}

abbrev pub list_after_event : Timers → AssignmentRules → InboundRules → ℕ → TableEvent → List Binding → List Binding
list_after_event timers assignment inbound address (Sent packet) list =
    (step_out timers assignment address packet list).list
list_after_event timers assignment inbound address (Received packet) list =
    (step_in timers inbound address packet list).list
list_after_event timers assignment inbound address (Purged now) list = live_and_held timers now list

-- Returns the list after all events, in order. The time in ns that comes with each event is not read.
abbrev pub list_after_events : Timers → AssignmentRules → InboundRules → ℕ → List (ℕ × TableEvent) → List Binding →
    List Binding
list_after_events timers assignment inbound address [] list = list
list_after_events timers assignment inbound address (event ∷ events) list =
    list_after_events timers assignment inbound address events
    (list_after_event timers assignment inbound address event.1 list)
