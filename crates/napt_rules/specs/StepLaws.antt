-- LAWS of steps, at one external address.
use Rattle.std.specs.Prelude.{ℕ, List, ◌≡◌, AllPairs, IfSome, ◌≢◌, ◌≤◌, Some}
use Rattle.napt_config.specs.{Rules.{Rules, RulesInvariant, IsPortBlock, pair_of, AreTimers}, declared.settings.Timers.Timers}
use Rattle.napt_rules.specs.{Bindings.{Binding, bindings_at}, Endpoints.{IsSound, AreApart, IsNumber}, Opening.opening, declared.{AssignmentRules.AssignmentRules, InboundRules.InboundRules}}
use Rattle.napt_rules.specs.{declared.{OutboundPacket.OutboundPacket, InboundPacket.InboundPacket}, Life.{purge, live_and_held}, Steps.{step_out, step_in, out_taken, in_taken}, Quota.count_for}

-- SOUND: a step keeps bindings apart that were apart before it (RFC 4787, REQ-1 and REQ-3)

-- Law: the opening list of a configuration that satisfies its invariant is sound.
abbrev pub OpeningIsSound : Type 0
OpeningIsSound = (rules : Rules) → RulesInvariant rules → IsSound (pair_of rules) (opening rules)

abbrev pub PurgeStaysSound : Type 0
PurgeStaysSound = (pair : ℕ → ℕ) (timers : Timers) (now : ℕ) (list : List Binding) → IsSound pair list →
    IsSound pair (purge timers now list)

-- Law: at its host's paired address, an outgoing packet with a valid number and block keeps the list sound.
abbrev pub OutboundStaysSound : Type 0
OutboundStaysSound = (pair : ℕ → ℕ) (timers : Timers) (assignment : AssignmentRules) (address : ℕ)
    (packet : OutboundPacket)
    (list : List Binding) → IsSound pair list → address ≡ pair packet.inside.address →
    IsNumber packet.protocol packet.inside.number → IfSome packet.block IsPortBlock →
    IsSound pair (step_out timers assignment address packet list).list

abbrev pub InboundStaysSound : Type 0
InboundStaysSound = (pair : ℕ → ℕ) (timers : Timers) (inbound : InboundRules) (address : ℕ) (packet : InboundPacket)
    (list : List Binding) → IsSound pair list → IsSound pair (step_in timers inbound address packet list).list

abbrev pub SoundListsAreApart : Type 0
SoundListsAreApart = (pair : ℕ → ℕ) (list : List Binding) → IsSound pair list → AllPairs AreApart list

-- TAKEN: after a step, every binding of the list is live or held

abbrev pub OutboundLeavesTaken : Type 0
OutboundLeavesTaken = (timers : Timers) → AreTimers timers →
    (assignment : AssignmentRules) (address : ℕ) (packet : OutboundPacket)
    (list : List Binding) → live_and_held timers packet.now (step_out timers assignment address packet list).list
    ≡ (step_out timers assignment address packet list).list

abbrev pub InboundLeavesTaken : Type 0
InboundLeavesTaken = (timers : Timers) → AreTimers timers →
    (inbound : InboundRules) (address : ℕ) (packet : InboundPacket)
    (list : List Binding) → live_and_held timers packet.now (step_in timers inbound address packet list).list
    ≡ (step_in timers inbound address packet list).list

-- LOCAL: a step at one address depends on that address's bindings alone, and changes those of no other address

-- Law: a purge and the selection of one address's bindings give the same in either order.
abbrev pub PurgeIsLocal : Type 0
PurgeIsLocal = (timers : Timers) (now address : ℕ) (list : List Binding) → bindings_at address (purge timers now list)
    ≡ purge timers now (bindings_at address list)

-- Law: an earlier purge does not change the result of a later one.
abbrev pub LaterPurgeCounts : Type 0
LaterPurgeCounts = (timers : Timers) (earlier later : ℕ) → earlier ≤ later → (list : List Binding) →
    purge timers later (purge timers earlier list) ≡ purge timers later list

abbrev pub OutboundIsLocal : Type 0
OutboundIsLocal = (timers : Timers) (assignment : AssignmentRules) (address : ℕ) (packet : OutboundPacket)
    (list : List Binding) →
    out_taken timers assignment address packet (bindings_at address list) ≡ record {
      number = (out_taken timers assignment address packet list).number;
      through = (out_taken timers assignment address packet list).through;
      list = bindings_at address (out_taken timers assignment address packet list).list;
    }

abbrev pub OutboundLeavesOthers : Type 0
OutboundLeavesOthers = (timers : Timers) (assignment : AssignmentRules) (address : ℕ) (packet : OutboundPacket)
    (other : ℕ) → other ≢ address →
    (list : List Binding) → bindings_at other (out_taken timers assignment address packet list).list
    ≡ bindings_at other list

abbrev pub InboundIsLocal : Type 0
InboundIsLocal = (timers : Timers) (inbound : InboundRules) (address : ℕ) (packet : InboundPacket)
    (list : List Binding) →
    in_taken timers inbound address packet (bindings_at address list) ≡ record {
      inside = (in_taken timers inbound address packet list).inside;
      through = (in_taken timers inbound address packet list).through;
      list = bindings_at address (in_taken timers inbound address packet list).list;
    }

abbrev pub InboundLeavesOthers : Type 0
InboundLeavesOthers = (timers : Timers) (inbound : InboundRules) (address : ℕ) (packet : InboundPacket) (other : ℕ) →
    other ≢ address → (list : List Binding) →
    bindings_at other (in_taken timers inbound address packet list).list ≡ bindings_at other list

-- QUOTA: no step takes an inside host over its quota (RFC 6888, REQ-4). This holds of every host at every external
-- address, wherever the step is.

abbrev pub PurgeKeepsQuota : Type 0
PurgeKeepsQuota = (timers : Timers) (now at host quota : ℕ) (list : List Binding) →
    count_for at host list ≤ quota → count_for at host (purge timers now list) ≤ quota

abbrev pub OutboundKeepsQuota : Type 0
OutboundKeepsQuota = (timers : Timers) (assignment : AssignmentRules) (quota : ℕ) → assignment.quota ≡ Some quota →
    (address : ℕ)
    (packet : OutboundPacket) (list : List Binding) (at host : ℕ) → count_for at host list ≤ quota →
    count_for at host (step_out timers assignment address packet list).list ≤ quota

abbrev pub InboundKeepsQuota : Type 0
InboundKeepsQuota = (timers : Timers) (inbound : InboundRules) (address : ℕ) (packet : InboundPacket)
    (list : List Binding)
    (at host quota : ℕ) → count_for at host list ≤ quota →
    count_for at host (step_in timers inbound address packet list).list ≤ quota
