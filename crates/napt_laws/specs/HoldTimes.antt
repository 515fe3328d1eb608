-- WHO HAD A NUMBER, and how long before the next holder (RFC 6888, REQ-8): a number is assigned to another inside
-- endpoint only if its last binding ended at least the hold before.
use Rattle.std.specs.Prelude.{◌≡◌, ◌≢◌, ℕ, ◌+◌, ◌*◌, ◌<◌, ◌≤◌, Bool, true, false, ◌&&◌, cond, List, [], ◌∷◌, ◌++◌, map, ◌⊎◌, Option, Some, None, IfSome}
use Rattle.napt_rules.specs.declared.{AssignmentRules.AssignmentRules, InboundRules.InboundRules, OutboundPacket.OutboundPacket, InboundPacket.InboundPacket, Row.Row}
use Rattle.napt_rules.specs.Prelude.{Each, Binding, same_protocol, same_endpoint, ns_per_second, is_live, hold_ago, BindingUse, step_out, step_in, row, IsSound, IsNumber, IsPortBlock, AreTimers, Timers}

-- A binding that was made: the time at which it was made, in ns, and the binding after its last packet so far.
pub record Holder : Type 0 where
  pub made : ℕ
  pub binding : Binding

-- Two rows have the same protocol, external endpoint and inside endpoint.
pub record HaveSameEnds (a b : Row) : Type 0 where
  pub protocol : a.protocol ≡ b.protocol
  pub external : a.external ≡ b.external
  pub inside : a.inside ≡ b.inside

abbrev pub have_same_ends : Row → Row → Bool
have_same_ends a b = same_protocol a.protocol b.protocol
    && (same_endpoint a.external b.external && same_endpoint a.inside b.inside)

-- Returns a holder after a packet, updated if it is live and the packet used the binding with its endpoints.
abbrev pub holder_after : Timers → ℕ → Binding → Holder → Holder
holder_after timers now went holder =
    cond (is_live timers now holder.binding && have_same_ends (row went) (row holder.binding))
    (record holder { binding = went }) holder

-- Returns all holders after a packet: a new binding is appended, and one that was found is updated.
abbrev pub holders_after : Timers → ℕ → Option BindingUse → List Holder → List Holder
holders_after timers now None holders = holders
holders_after timers now (Some went) holders =
    cond went.made (holders ++ record { made = now; binding = went.binding } ∷ [])
    (map (holder_after timers now went.binding) holders)

-- If both holders had one external endpoint for different inside endpoints, the later one was made at least `hold`
-- seconds after the earlier one ended.
abbrev pub AreHoldersApart : Timers → Holder → Holder → Type 0
AreHoldersApart timers earlier later = (row earlier.binding).protocol ≡ (row later.binding).protocol →
    (row earlier.binding).external ≡ (row later.binding).external →
    (row earlier.binding).inside ≢ (row later.binding).inside →
    is_live timers (hold_ago timers later.made) earlier.binding ≡ false

-- Any two holders, in the order in which they were made, are apart in this way.
abbrev pub HoldersStayApart : Timers → List Holder → Type 0
HoldersStayApart timers [] = Unit {0}
HoldersStayApart timers (first ∷ rest) = Each (AreHoldersApart timers first) rest × HoldersStayApart timers rest

-- The property holds of at least one binding of the list.
abbrev pub HasOne : (Binding → Type 0) → List Binding → Type 0
HasOne P [] = ⊥
HasOne P (b ∷ list) = P b ⊎ HasOne P list

-- The binding has the endpoints of the holder's binding, and is live at least as long.
pub record HolderCoversBinding (timers : Timers) (holder : Holder) (binding : Binding) : Type 0 where
  pub ends : HaveSameEnds (row binding) (row holder.binding)
  pub lives : (t : ℕ) → is_live timers t holder.binding ≡ true → is_live timers t binding ≡ true

-- The holder's binding ended before `ago`, in ns, or the list has a binding that covers it.
abbrev pub IsAccounted : Timers → ℕ → List Binding → Holder → Type 0
IsAccounted timers ago list holder = (is_live timers ago holder.binding ≡ false) ⊎
    HasOne (HolderCoversBinding timers holder) list

pub record AreBindingsAccounted (timers : Timers) (now : ℕ) (list : List Binding) (holders : List Holder) : Type 0 where
  pub apart : HoldersStayApart timers holders
  pub past : Each (λ h. h.made ≤ now) holders
  pub each : Each (IsAccounted timers (hold_ago timers now) list) holders

-- Each step of an outgoing packet preserves the invariant, so that `apart` holds of all bindings that a run makes.
abbrev pub OutKeepsAccounts : Type 0
OutKeepsAccounts = (pair : ℕ → ℕ) (timers : Timers) → AreTimers timers → (assignment : AssignmentRules) (address : ℕ)
    (packet : OutboundPacket) (list : List Binding) → IsSound pair list → address ≡ pair packet.inside.address →
    IsNumber packet.protocol packet.inside.number → IfSome packet.block IsPortBlock → (now : ℕ) → now ≤ packet.now →
    (holders : List Holder) → AreBindingsAccounted timers now list holders →
    AreBindingsAccounted timers packet.now (step_out timers assignment address packet list).list
    (holders_after timers packet.now (step_out timers assignment address packet list).through holders)

abbrev pub InKeepsAccounts : Type 0
InKeepsAccounts = (timers : Timers) → AreTimers timers → (inbound : InboundRules) (address : ℕ) (packet : InboundPacket)
    (list : List Binding) (now : ℕ) → now ≤ packet.now → (holders : List Holder) →
    AreBindingsAccounted timers now list holders →
    AreBindingsAccounted timers packet.now (step_in timers inbound address packet list).list
    (holders_after timers packet.now (step_in timers inbound address packet list).through holders)

-- The invariant holds of each sound list, such as that of a configuration's redirects.
abbrev pub AccountsBegin : Type 0
AccountsBegin = (pair : ℕ → ℕ) (timers : Timers) (now : ℕ) (list : List Binding) → IsSound pair list →
    AreBindingsAccounted timers now list (map (λ b. record { made = now; binding = b }) list)

-- THE INSIDE ENDPOINT that an external endpoint had at a time

-- Each time at which the earlier binding is live is more than `hold` seconds before each time at or after the making of
-- the later one. At two times at most `hold` apart, an external endpoint in use therefore has one inside endpoint.
abbrev pub HeldTimesAreFar : Type 0
HeldTimesAreFar = (timers : Timers) (earlier later : Holder) → AreHoldersApart timers earlier later →
    (row earlier.binding).protocol ≡ (row later.binding).protocol →
    (row earlier.binding).external ≡ (row later.binding).external →
    (row earlier.binding).inside ≢ (row later.binding).inside → (t u : ℕ) →
    is_live timers t earlier.binding ≡ true → later.made ≤ u → t + timers.hold * ns_per_second < u
