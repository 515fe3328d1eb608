-- Flows in slots, in the order in which they began. The slot of a removed flow is empty.
use Rattle.std.specs.{Prelude.{◌≡◌, ℕ, ◌==◌, ◌≤◌, Bool, false, cond, List, [], ◌∷◌, All, Contains, slice_get, sum_by, Option, Some, None}, List.list_any}
use Rattle.std.specs.List.Sorted.{IsNonDecreasingBy}
use Rattle.napt_rules.specs.{declared.Flow.Flow, Prelude.{is_established, is_recent, is_flow_of}}

-- Returns the contents of the slots that are not empty, in order.
abbrev pub standing_flows : {X : Type 0} → List (Option X) → List X
standing_flows [] = []
standing_flows (None ∷ slots) = standing_flows slots
standing_flows (Some x ∷ slots) = x ∷ standing_flows slots

-- No two flows are of one remote.
abbrev pub AreDistinct : List Flow → Type 0
AreDistinct [] = Unit {0}
AreDistinct (flow ∷ flows) = (list_any (is_flow_of flow.remote) flows ≡ false) × AreDistinct flows

-- No flow was last used after the time, in ns.
abbrev pub NoneUsedAfter : List Flow → ℕ → Type 0
NoneUsedAfter flows now = All (λ flow. flow.last ≤ now) flows

-- The entries are the flows with their places, in ascending order of their last use.
pub record AreByLastUse (flows : List Flow) (entries : List (ℕ × Flow)) : Type 0 where
  pub rising : IsNonDecreasingBy (λ entry. entry.1.last) entries
  pub each : (place : ℕ) (flow : Flow) → slice_get flows place ≡ Some flow → Contains entries (place, flow)
  pub known : All (λ entry. slice_get flows entry.0 ≡ Some entry.1) entries

-- The slot at the place contains `x`.
abbrev pub IsInSlot : {X : Type 0} → List (Option X) → ℕ → X → Type 0
IsInSlot slots place x = slice_get slots place ≡ Some (Some x)

-- Returns the row of a flow: 0 if the flow is established, else 1.
abbrev pub row_of : Flow → ℕ
row_of flow = cond (is_established flow.marks) 0 1

-- Each flow of the row has the property.
abbrev pub EachOfRow : ℕ → List (Option Flow) → (Flow → Type 0) → Type 0
EachOfRow row slots P = (place : ℕ) (flow : Flow) → IsInSlot slots place flow → row_of flow ≡ row → P flow

-- The flow is at the place, and no flow of its row was last used before it; or the row has no flow.
abbrev pub IsFirstUsed : ℕ → List (Option Flow) → Option (ℕ × Flow) → Type 0
IsFirstUsed row slots None = EachOfRow row slots (λ _. ⊥)
IsFirstUsed row slots (Some e) =
    IsInSlot slots e.0 e.1 × (row_of e.1 ≡ row) × EachOfRow row slots (λ flow. e.1.last ≤ flow.last)

-- The time is the latest use of a flow of the row, or the row has no flow.
abbrev pub IsLatest : ℕ → List (Option Flow) → Option ℕ → Type 0
IsLatest row slots None = EachOfRow row slots (λ _. ⊥)
IsLatest row slots (Some time) = ((place : ℕ) × (flow : Flow) × IsInSlot slots place flow × (row_of flow ≡ row)
    × (flow.last ≡ time)) × EachOfRow row slots (λ flow. flow.last ≤ time)

-- Returns whether there is a time, in ns, that is less than `seconds` seconds before `now`, in ns.
abbrev pub is_recent_time : ℕ → ℕ → Option ℕ → Bool
is_recent_time now seconds None = false
is_recent_time now seconds (Some time) = is_recent now time seconds

-- Returns the number of flows of the remote address in a slot, 0 or 1.
abbrev pub of_address : ℕ → Option Flow → ℕ
of_address address None = 0
of_address address (Some flow) = cond (flow.remote.address == address) 1 0

-- Returns the number of flows of the remote address in all slots.
abbrev pub count_of : List (Option Flow) → ℕ → ℕ
count_of slots address = sum_by (of_address address) slots
