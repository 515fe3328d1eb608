-- The stored bindings of one external address, as contracts see them.
use Rattle.std.specs.{Prelude.{◌≡◌, ◌≢◌, ℕ, ◌+◌, ◌<◌, ◌≤◌, ◌^◌, ◌↔◌, List, Option, Some, None}, Map.lookup}
use Rattle.napt_wire.specs.declared.{Protocol.{Protocol, TheVariants.{Icmp, Tcp, Udp}}, Endpoint.Endpoint}
use Rattle.napt_config.specs.declared.settings.Timers.{Timers}
use Rattle.napt_rules.specs.{declared.{AssignmentRules.AssignmentRules, OutboundPacket.OutboundPacket}, Prelude.{Binding, binding_after_out}}
use Rattle.napt_binding.specs.Slots.{NoneUsedAfter}
use Rattle.napt_table.specs.{declared.bindings.keys.ExternalNumberKey.ExternalNumberKey, Keys.{key_eq, external_key}, HeldLists.seen_binding, Hosts.count_held}

pub record BindingIndexModel : Type 0 where
  pub address : ℕ
  pub assignment : AssignmentRules
  -- The bindings by the keys of their numbers, in no order.
  pub entries : List (ExternalNumberKey × Binding)
  -- The number of further bindings that fit without an allocation.
  pub room : ℕ

-- Returns the stored binding with this key, if there is one.
abbrev pub held_binding : BindingIndexModel → ExternalNumberKey → Option Binding
held_binding all key = lookup (key_eq key) all.entries

abbrev pub held_at : BindingIndexModel → Protocol → ℕ → Option Binding
held_at all protocol number = held_binding all (external_key protocol number)

-- Returns the number of stored bindings of the host, over all protocols.
abbrev pub count_all : BindingIndexModel → ℕ → ℕ
count_all all host =
    (count_held (held_at all Icmp) host + count_held (held_at all Tcp) host) + count_held (held_at all Udp) host

-- Each binding has the external address, and the protocol and number of its key; the number has 16 bits.
pub record IsNamed (all : BindingIndexModel) : Type 0 where
  pub protocol_is : (key : ExternalNumberKey) (b : Binding) → held_binding all key ≡ Some b →
      b.row.protocol ≡ key.protocol
  pub external_is : (key : ExternalNumberKey) (b : Binding) → held_binding all key ≡ Some b → b.row.external ≡ record {
    address = all.address;
    number = key.number;
  }
  pub small : (key : ExternalNumberKey) (b : Binding) → held_binding all key ≡ Some b → key.number < 2 ^ 16

-- Neither the binding nor any of its flows was last used after the time, in ns.
abbrev pub IsUsedBy : ℕ → Binding → Type 0
IsUsedBy at b = NoneUsedAfter b.flows at × (b.last ≤ at)

abbrev pub AreUsedUpTo : ℕ → BindingIndexModel → Type 0
AreUsedUpTo at all = (key : ExternalNumberKey) (b : Binding) → held_binding all key ≡ Some b → IsUsedBy at b

-- The binding with the number is that of the inside endpoint.
abbrev pub HasInside : BindingIndexModel → Protocol → Endpoint → ℕ → Type 0
HasInside all protocol inside number = (b : Binding) × (held_at all protocol number ≡ Some b) × (b.row.inside ≡ inside)

-- A look-up of the inside endpoint finds a number if and only if the binding with it is that endpoint's.
abbrev pub IsNumberOf : BindingIndexModel → Protocol → Endpoint → Option ℕ → Type 0
IsNumberOf all protocol inside found = (number : ℕ) → (found ≡ Some number) ↔ HasInside all protocol inside number

-- No stored binding is that of the inside endpoint.
abbrev pub HasNoInside : BindingIndexModel → Protocol → Endpoint → Type 0
HasNoInside all protocol inside = (number : ℕ) (b : Binding) → held_at all protocol number ≡ Some b →
    b.row.inside ≢ inside

-- STEPS, from the old index to the new

pub record IsSamePlace (old new : BindingIndexModel) : Type 0 where
  pub address_is : new.address ≡ old.address
  pub assignment_is : new.assignment ≡ old.assignment

-- The stored bindings are the same; there may be more room.
pub record HoldsSame (old new : BindingIndexModel) : Type 0 where
  pub place : IsSamePlace old new
  pub held_same : (key : ExternalNumberKey) → held_binding new key ≡ held_binding old key

-- No stored binding has changed except the one with the key.
pub record ChangesOne (key : ExternalNumberKey) (old new : BindingIndexModel) : Type 0 where
  pub place : IsSamePlace old new
  pub others : (other : ExternalNumberKey) → other ≢ key → held_binding new other ≡ held_binding old other

-- The visible parts of the stored bindings at the time are the same.
pub record KeepsSeen (timers : Timers) (at : ℕ) (old new : BindingIndexModel) : Type 0 where
  pub place : IsSamePlace old new
  pub seen_same : (key : ExternalNumberKey) → seen_binding timers at (held_binding new key)
      ≡ seen_binding timers at (held_binding old key)

-- A packet went out through its inside endpoint's live binding, which has the number; no other binding changed.
pub record WentThrough (timers : Timers) (packet : OutboundPacket) (old new : BindingIndexModel) (number : ℕ) : Type 0
  where
    pub binding : Binding
    pub found : seen_binding timers packet.now (held_at old packet.protocol number) ≡ Some binding
    pub inside_is : binding.row.inside ≡ packet.inside
    pub one : ChangesOne (external_key packet.protocol number) old new
    pub left : seen_binding timers packet.now (held_at new packet.protocol number)
        ≡ Some (binding_after_out packet binding)

-- No live binding is that of the packet's inside endpoint, and no stored binding changed.
pub record HasNoLiveBinding (timers : Timers) (packet : OutboundPacket) (old new : BindingIndexModel) : Type 0 where
  pub same : HoldsSame old new
  pub none : (number : ℕ) (b : Binding) → seen_binding timers packet.now (held_at old packet.protocol number) ≡ Some b →
      b.row.inside ≢ packet.inside

-- A packet went out through the live binding of its inside endpoint, if there is one, and the answer is its number.
abbrev pub SendKnownPost : Timers → OutboundPacket → BindingIndexModel → BindingIndexModel → Option ℕ → Type 0
SendKnownPost timers packet old new (Some number) = WentThrough timers packet old new number
SendKnownPost timers packet old new None = HasNoLiveBinding timers packet old new
