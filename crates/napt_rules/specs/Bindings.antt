-- The bindings of a translator, as one list in the order in which they were made.
--
-- RFC 3022, section 2.2: a binding maps the tuple of local address and port to the registered address and port that
-- replaces it. RFC 4787, REQ-1: the mapping is the same for every remote endpoint. REQ-2: all sessions of a host have
-- the same external address, the one with which the host is paired.
use Rattle.std.specs.Prelude.{ℕ, ◌==◌, Bool, true, false, ◌&&◌, List, filter}
use Rattle.napt_wire.specs.declared.{Protocol.{Protocol, TheVariants.{Icmp, Tcp, Udp}}, Endpoint.Endpoint}
use Rattle.napt_rules.specs.declared.{Flow.Flow, Row.Row, StoredBinding.StoredBinding as BindingOf}

-- A binding whose flows are a list, in the order in which they began.
abbrev pub Binding : Type 0
Binding = BindingOf Row (List Flow)

abbrev pub same_protocol : Protocol → Protocol → Bool
same_protocol Icmp Icmp = true
same_protocol Tcp Tcp = true
same_protocol Udp Udp = true
same_protocol _ _ = false

abbrev pub is_tcp : Protocol → Bool
is_tcp protocol = same_protocol protocol Tcp

abbrev pub is_udp : Protocol → Bool
is_udp protocol = same_protocol protocol Udp

abbrev pub same_endpoint : Endpoint → Endpoint → Bool
same_endpoint a b = (a.address == b.address) && (a.number == b.number)

-- WHICH BINDING, by its row

abbrev pub is_at : ℕ → Row → Bool
is_at address row = row.external.address == address

-- Returns the bindings at one external address, in their order.
abbrev pub bindings_at : ℕ → List Binding → List Binding
bindings_at address list = filter (λ b. is_at address b.row) list

-- Returns whether a row is at this address and has this protocol and this inside endpoint.
abbrev pub is_of_inside : ℕ → Protocol → Endpoint → Row → Bool
is_of_inside address protocol inside row =
    is_at address row && (same_protocol protocol row.protocol && same_endpoint inside row.inside)

-- Returns whether a row is at this address and has this protocol and this external number.
abbrev pub has_number : ℕ → Protocol → ℕ → Row → Bool
has_number address protocol number row =
    is_at address row && (same_protocol protocol row.protocol && (row.external.number == number))
