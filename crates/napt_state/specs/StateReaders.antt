-- Relations between the bindings of a state and the sets that are used to check it.
use Rattle.std.specs.{Prelude.{◌≡◌, ◌==◌, ℕ, Bool, ◌&&◌, ◌||◌, List}, List.list_any, HashSet.HashSet}
use Rattle.std.specs.HashSet as hash
use denote.Enum.Bare.{sameb}
use Rattle.napt_wire.specs.{contracts.Protocol.the_type, declared.Endpoint.Endpoint}
use Rattle.napt_rules.specs.{Bindings.Binding, FlowUpdates.is_flow_of, Misfits.clashes_with_any, declared.{Flow.Flow, Row.Row}}
use Rattle.napt_binding.specs.Lists.{pair_eq}
use Rattle.napt_state.specs.declared.endpoints.{EndpointKey.EndpointKey, Endpoints.Endpoints}

abbrev pub state_external_key : Row → EndpointKey
state_external_key row = record {
  address = row.external.address;
  number = row.external.number;
  protocol = row.protocol;
}

abbrev pub state_inside_key : Row → EndpointKey
state_inside_key row = record { address = row.inside.address; number = row.inside.number; protocol = row.protocol }

-- Returns whether two keys of a set are equal.
abbrev pub state_key_eq : EndpointKey → EndpointKey → Bool
state_key_eq a b = (a.address == b.address) && ((a.number == b.number) && sameb the_type a.protocol b.protocol)

-- Returns whether an endpoint of a row is in the set.
abbrev pub clash : Endpoints → Row → Bool
clash all row = hash.contains state_key_eq all.external (state_external_key row)
    || hash.contains state_key_eq all.inside (state_inside_key row)

-- The endpoints are those of the bindings.
abbrev pub AreEndpointsOf : List Binding → Endpoints → Type 0
AreEndpointsOf list all = (row : Row) → clash all row ≡ clashes_with_any row list

-- The remotes in a set are those of the flows.
abbrev pub AreRemotes : {S : Type 0} → List Flow → HashSet (ℕ × ℕ) S → Type 0
AreRemotes flows all = (remote : Endpoint) →
    hash.contains pair_eq all (remote.address, remote.number) ≡ list_any (is_flow_of remote) flows
