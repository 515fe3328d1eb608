-- What one packet does to one binding and its flows.
--
-- RFC 4787, REQ-6, and RFC 5382, REQ-5: outbound packets refresh the bindings of UDP and echoes, inbound packets those
-- of UDP if the configuration says so, and segments in both directions refresh a TCP flow.
use Rattle.std.specs.{Prelude.{ℕ, Bool, false, not, ◌&&◌, cond, List, [], ◌∷◌, ◌++◌}, List.list_any}
use Rattle.napt_wire.specs.declared.{Protocol.Protocol, Way.{Way, TheVariants.{Outgoing, Incoming}}, Endpoint.Endpoint, Flags.Flags}
use Rattle.napt_config.specs.declared.settings.MappingRefresh.{MappingRefresh, TheVariants.{Outbound, Both}}
use Rattle.napt_rules.specs.{declared.{InboundRules.InboundRules, Flow.Flow, Row.Row}, Bindings.{Binding, is_tcp, is_udp, same_endpoint}, Lists.change_first}
use Rattle.napt_rules.specs.Marks.{no_marks, marked}

-- FLOWS

abbrev pub is_flow_of : Endpoint → Flow → Bool
is_flow_of remote flow = same_endpoint flow.remote remote

-- The flow after a packet: it was last used now and, if it is of TCP, has the marks of the segment.
abbrev pub flow_after : Protocol → Way → Flags → ℕ → Flow → Flow
flow_after protocol way flags now flow = record {
  remote = flow.remote;
  marks = cond (is_tcp protocol) (marked flow.marks way flags) flow.marks;
  last = now;
}

-- Returns the flows; if none of them is of the remote endpoint, one without marks is appended.
abbrev pub with_flow : Endpoint → ℕ → List Flow → List Flow
with_flow remote now flows = cond (list_any (is_flow_of remote) flows) flows (flows ++ record {
  remote = remote;
  marks = no_marks;
  last = now;
} ∷ [])

-- BINDINGS

-- The binding after a packet went out through it. A redirect does not change.
abbrev pub sent_through : Endpoint → Flags → ℕ → Binding → Binding
sent_through remote flags now binding =
    let row : Row = binding.row in
    record binding {
      last = cond row.fixed binding.last now;
      flows = cond row.fixed binding.flows
          (change_first (is_flow_of remote) (flow_after row.protocol Outgoing flags now)
          (with_flow remote now binding.flows));
    }

-- Returns whether inbound packets refresh the binding (RFC 4787, REQ-6): under `Both`, one of UDP that is no redirect.
abbrev pub refreshes : MappingRefresh → Row → Bool
refreshes Outbound row = false
refreshes Both row = is_udp row.protocol && not row.fixed

-- The binding after a packet came in through it. An existing TCP flow of the remote is marked and refreshed.
abbrev pub received_through : InboundRules → Endpoint → Flags → ℕ → Binding → Binding
received_through inbound remote flags now binding =
    let row : Row = binding.row in
    record binding {
      last = cond (refreshes inbound.refresh row) now binding.last;
      flows = cond (is_tcp row.protocol)
          (change_first (is_flow_of remote) (flow_after row.protocol Incoming flags now) binding.flows) binding.flows;
    }
