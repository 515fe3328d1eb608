-- The store of many flows of one binding: slots, with a map from a remote endpoint to its slot.
use Rattle.std.specs.{Prelude.{◌≡◌, ℕ, ◌+◌, ◌*◌, ◌/◌, ◌<◌, nat_lt, max, Bool, ◌&&◌, List, length, Option, Some}, HashMap.{get, hash_map_len, spare}}
use Rattle.napt_wire.specs.declared.Endpoint.{Endpoint}
use Rattle.napt_rules.specs.declared.Flow.{Flow}
use Rattle.napt_binding.specs.{Lists.pair_eq, Counts.{count_at, room_of}, Slots.{standing_flows, IsInSlot, count_of}, declared.flows.flow_maps.FlowMaps.FlowMaps}

-- Returns the place of the remote's flow, if there is one.
abbrev pub place_of_remote : FlowMaps → Endpoint → Option ℕ
place_of_remote many remote = get pair_eq many.places (remote.address, remote.number)

-- Each flow is found by its remote, and is counted at its address; no other remote has a place.
pub record FlowMapsInvariant (many : FlowMaps) : Type 0 where
  pub stands : (remote : Endpoint) (i : ℕ) → place_of_remote many remote ≡ Some i → (flow : Flow)
      × IsInSlot many.slots.slots i flow × (flow.remote ≡ remote)
  pub found : (i : ℕ) (flow : Flow) → IsInSlot many.slots.slots i flow → place_of_remote many flow.remote ≡ Some i
  pub counted : (address : ℕ) → count_at many.addresses address ≡ count_of many.slots.slots address
  pub as_many : hash_map_len many.places ≡ length (standing_flows many.slots.slots)

-- There is room for one more flow.
pub record FlowMapsHaveRoom (many : FlowMaps) : Type 0 where
  pub slots : 0 < many.slots.room
  pub places : 0 < spare many.places
  pub addresses : 0 < room_of many.addresses

-- THE NUMBER OF SLOTS

-- The largest number of slots with which empty ones are not removed.
abbrev pub most_sparse : ℕ
most_sparse = 64

-- Returns whether there are more slots than that, and fewer than half of them have a flow.
abbrev pub is_sparse : List (Option Flow) → Bool
is_sparse slots = nat_lt most_sparse (length slots) && nat_lt (length (standing_flows slots)) (length slots / 2)

-- Returns the maximum number of slots after a new flow, given the number of flows before it.
abbrev pub most_slots : ℕ → ℕ
most_slots flows = max most_sparse (2 * flows + 1) + 1
