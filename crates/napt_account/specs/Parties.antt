-- The subject of a request for log entries, an address or an endpoint (RFC 6888, section 4; RFC 6269, section 12).
use Rattle.std.specs.Prelude.{ℕ, ◌==◌, Bool, true, ◌&&◌, Option, Some, None}
use Rattle.napt_wire.specs.declared.Endpoint.{Endpoint}
use Rattle.napt_account.specs.declared.party.Party.{Party}

-- Returns whether a number is the requested one, or no number is requested.
abbrev pub is_party_number : Option ℕ → ℕ → Bool
is_party_number None number = true
is_party_number (Some wanted) number = wanted == number

-- Returns whether an endpoint is the requested one, or has the requested address.
abbrev pub is_meant : Party → Endpoint → Bool
is_meant party endpoint = (endpoint.address == party.address) && is_party_number party.number endpoint.number
