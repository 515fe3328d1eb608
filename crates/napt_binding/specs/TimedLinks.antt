-- The store of the slots, whose flows are linked in rows by last use.
use Rattle.std.specs.Prelude.{◌≡◌, ℕ, ◌+◌, ◌-◌, ◌<◌, ◌≤◌, nat_lt, Bool, ◌||◌, min, List, length, slice_index_or, Option, Some, None, is_some}
use Rattle.std.specs.Vec.{vec_len, vec_capacity}
use Rattle.napt_collections.specs.{declared.links.Links.Links, Links.{next, prev, IsRow}}
use Rattle.napt_rules.specs.declared.Flow.{Flow}
use Rattle.napt_binding.specs.{Slots.row_of, SlotsModels.FlowSlotsModel, declared.flows.slots.FlowSlots.TheInside.Inside}

-- The maximum number of links, whose indices have 32 bits.
abbrev pub most_links : ℕ
most_links = 4294967295

abbrev pub shown_flow : Inside → FlowSlotsModel
shown_flow it = record {
  slots = it.flows.items;
  room = min (most_links - vec_len it.links)
      (min (vec_capacity it.flows - vec_len it.flows) (vec_capacity it.links - vec_len it.links));
}

-- Returns the flow in the slot, or none if the slot is empty or past the end.
abbrev pub flow_in : List (Option Flow) → ℕ → Option Flow
flow_in flows place = slice_index_or flows place None

-- Returns whether a node is an end of a row, or belongs to a slot with a flow.
abbrev pub is_linked : List (Option Flow) → ℕ → Bool
is_linked flows node = nat_lt node 3 || is_some (flow_in flows (node - 3))

-- Both rows are linked as one: row r goes from node r to node r + 1, in ascending order of last use.
pub record AreLinksTimed (flows : List (Option Flow)) (links : List Links) : Type 0 where
  pub lengths : length links ≡ length flows + 3
  pub fits : length links ≤ most_links
  pub rank : ℕ → ℕ
  pub row : IsRow 0 2 (is_linked flows) (next links) (prev links) rank
  pub ends : (row : ℕ) → row < 2 → rank row < rank (row + 1)
  pub within : (i : ℕ) (f : Flow) → flow_in flows i ≡ Some f →
      (rank (row_of f) < rank (i + 3)) × (rank (i + 3) < rank (row_of f + 1))
  pub rising : (i j : ℕ) (f g : Flow) → flow_in flows i ≡ Some f → flow_in flows j ≡ Some g → row_of f ≡ row_of g →
      rank (i + 3) ≤ rank (j + 3) → f.last ≤ g.last
