-- from_requests: the set contains the addresses and the endpoints that the requests before this one name.
use Rattle.std.proofs.Common.{◌≡◌, ℕ, Option, take}
use Rattle.std.specs.{BTreeSet.contains, List.list_any}
use Rattle.napt_attribution.specs.RequestParties.{is_party, party_cmp}
use Rattle.napt_attribution.proofs.wanted_endpoints.WantedEndpoints.from_requests.Given as goal

abbrev pub invariant-loop-one : goal.invariant-loop-one
invariant-loop-one l = (address : ℕ) (number : Option ℕ) → contains party_cmp l.parties (address, number)
    ≡ list_any (λ one. is_party address number one.request.party) (take l.one-index l.asked)
