-- The external endpoints that requests ask about.
use Rattle.std.specs.{Prelude.{◌≡◌, ◌==◌, ◌&&◌, ◌||◌, nat_eq, ℕ, Bool, List, Option, Some, None}, BTreeSet.contains, List.list_any, Option.{option_cmp, option_eq}, Ordering.{nat_cmp, ordering_then}}
use Rattle.std.specs.declared.cmp.Ordering.{Ordering}
use Rattle.napt_wire.specs.declared.Endpoint.{Endpoint}
use Rattle.napt_account.specs.{Parties.is_meant, declared.party.Party.Party}
use Rattle.napt_attribution.specs.declared.{requests.HolderRequest.HolderRequest, wanted_endpoints.WantedEndpoints.WantedEndpoints}

-- Returns whether one of the requests asks about an endpoint, or about each endpoint of its address.
abbrev pub is_asked_about : List HolderRequest → Endpoint → Bool
is_asked_about asked external = list_any (λ one. is_meant one.request.party external) asked

abbrev pub party_cmp : ℕ × Option ℕ → ℕ × Option ℕ → Ordering
party_cmp a b = ordering_then (nat_cmp a.0 b.0) (option_cmp nat_cmp a.1 b.1)

-- Returns whether a party has this address, and this number or none.
abbrev pub is_party : ℕ → Option ℕ → Party → Bool
is_party address number party = (address == party.address) && option_eq nat_eq party.number number

-- Returns whether the endpoint, or each endpoint of its address, is wanted.
abbrev pub is_wanted : WantedEndpoints → Endpoint → Bool
is_wanted wanted external = contains party_cmp wanted.parties (external.address, None)
    || contains party_cmp wanted.parties (external.address, Some external.number)

-- The wanted endpoints are those that the requests ask about.
abbrev pub AreEndpointsAskedAbout : List HolderRequest → WantedEndpoints → Type 0
AreEndpointsAskedAbout asked wanted = (external : Endpoint) → is_wanted wanted external ≡ is_asked_about asked external
