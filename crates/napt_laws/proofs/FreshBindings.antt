-- Bindings that are live and have no dead flows, and the bindings after packets.
use Rattle.std.{proofs.Common.{◌≡◌, ℕ, ◌<◌, ◌≤◌, Bool, true, false, cond, List, [], ◌∷◌, ◌++◌, length, map, refl, ◌∙◌, ap, arith, filter}, specs.List.list_any}
use Rattle.napt_rules.specs.declared.{Flow.Flow, InboundRules.InboundRules}
use Rattle.napt_rules.specs.Prelude.{Binding, change_first, Each, no_marks, idle, is_live_flow, is_live, with_live_flows, purge, is_flow_of, flow_after, with_flow, sent_through, received_through, Protocol, Icmp, Tcp, Udp, Way, Outgoing, Incoming, Endpoint, Flags, AreTimers, Filter, MappingRefresh, Outbound, Both, Timers}
use Rattle.napt_rules.proofs.{Lists.each_filter, Life.{lived, lived_flow, live_same, FlowsLive, flows_kept, flows_all, now_live, idle_ticks, used_live}}
use Rattle.napt_laws.proofs.Lists.{each_changed, each_pushed, each_weaker, any_of, some_any, long_changed, long_pushed}

-- The binding with these fields.
abbrev pub binding_of : Protocol → Endpoint → Endpoint → Bool → ℕ → List Flow → Binding
binding_of protocol inside external fixed last flows = record {
  row = record { protocol = protocol; inside = inside; external = external; fixed = fixed };
  last = last;
  flows = flows;
}

pub record IsFresh (timers : Timers) (now : ℕ) (b : Binding) : Type 0 where
  pub live : is_live timers now b ≡ true
  pub flows : FlowsLive b.row.protocol timers now b.flows

flows_before : (protocol : Protocol) (timers : Timers) (n m : ℕ) → n ≤ m → (flows : List Flow) →
    FlowsLive protocol timers m flows → FlowsLive protocol timers n flows
flows_before Icmp timers n m le flows h = tt
flows_before Udp timers n m le flows h = tt
flows_before Tcp timers n m le flows h = each_weaker (λ f. is_live_flow timers m f ≡ true)
    (λ f. is_live_flow timers n f ≡ true) (lived_flow timers n m le) flows h

-- A binding that is fresh at a time was fresh at each earlier one.
pub fresh_before : (timers : Timers) (n m : ℕ) → n ≤ m → (b : Binding) → IsFresh timers m b → IsFresh timers n b
fresh_before timers n m le b f = record {
  live = lived timers n m le b f.live;
  flows = flows_before b.row.protocol timers n m le b.flows f.flows;
}

fresh_mapped : (timers : Timers) (now : ℕ) (list : List Binding) → Each (λ b. is_live timers now b ≡ true) list →
    Each (IsFresh timers now) (map (with_live_flows timers now) list)
fresh_mapped timers now [] h = tt
fresh_mapped timers now (b ∷ list) h = (
  record {
    live = live_same timers now now (omega arith) b ∙ h.0;
    flows =
        flows_kept b.row.protocol timers now b.flows;
  },
  fresh_mapped timers now list h.1,
)

pub fresh_purged : (timers : Timers) (now : ℕ) (list : List Binding) → Each (IsFresh timers now) (purge timers now list)
fresh_purged timers now list = fresh_mapped timers now (filter (is_live timers now) list)
    (each_filter (is_live timers now) list)

pub purge_fresh : (timers : Timers) (now : ℕ) (list : List Binding) → Each (IsFresh timers now) list →
    purge timers now list ≡ list
purge_fresh timers now [] h = refl
purge_fresh timers now (b ∷ list) h =
    ap (λ v. map (with_live_flows timers now) (cond v (b ∷ filter (is_live timers now) list)
    (filter (is_live timers now) list))) h.0.live
    ∙ (ap (λ (fs : List Flow). record b { flows = fs } ∷ purge timers now list)
    (flows_all b.row.protocol timers now b.flows h.0.flows)
    ∙ ap (λ (l : List Binding). b ∷ l) (purge_fresh timers now list h.1))

with_live : (timers : Timers) → AreTimers timers → (remote : Endpoint) (now : ℕ) (flows : List Flow) →
    Each (λ f. is_live_flow timers now f ≡ true) flows → Each (λ f. is_live_flow timers now f ≡ true)
    (with_flow remote now flows)
with_live timers t remote now flows h = elim (list_any (is_flow_of remote) flows) as (λ v.
    Each (λ f. is_live_flow timers now f ≡ true)
    (cond v flows (flows ++ record { remote = remote; marks = no_marks; last = now } ∷ []))) [
      | true ↦ h
      | false ↦ each_pushed (λ f. is_live_flow timers now f ≡ true) flows (record {
        remote = remote;
        marks = no_marks;
        last = now;
      }) h (now_live now (idle timers no_marks) (idle_ticks timers t no_marks))
    ]

with_some : (remote : Endpoint) (now : ℕ) (flows : List Flow) → 0 < length (with_flow remote now flows)
with_some remote now flows = elim (list_any (is_flow_of remote) flows) as (λ v. list_any (is_flow_of remote) flows ≡ v →
    0 < length (cond v flows (flows ++ record { remote = remote; marks = no_marks; last = now } ∷ []))) [
      | true ↦ λ e. some_any (is_flow_of remote) flows e
      | false ↦ λ e. long_pushed flows _
    ] refl

pub no_flows : (protocol : Protocol) (timers : Timers) (now : ℕ) → FlowsLive protocol timers now []
no_flows Icmp timers now = tt
no_flows Udp timers now = tt
no_flows Tcp timers now = tt

-- THE BINDING AFTER A PACKET

module _ (timers : Timers) (t : AreTimers timers) (remote : Endpoint) (flags : Flags) (now : ℕ) where
  -- The flows of a TCP binding after a packet used one of them.
  abbrev used_flows : Way → List Flow → List Flow
  used_flows way flows = change_first (is_flow_of remote) (flow_after Tcp way flags now) flows

  used_all : (way : Way) (flows : List Flow) → Each (λ f. is_live_flow timers now f ≡ true) flows →
      Each (λ f. is_live_flow timers now f ≡ true) (used_flows way flows)
  used_all way = each_changed (λ f. is_live_flow timers now f ≡ true) (is_flow_of remote) (flow_after Tcp way flags now)
      (λ f e g. used_live timers t Tcp way flags now f)

  used_any : (way : Way) (flows : List Flow) → Each (λ f. is_live_flow timers now f ≡ true) flows → 0 < length flows →
      list_any (is_live_flow timers now) (used_flows way flows) ≡ true
  used_any way flows all some =
      let same = long_changed (is_flow_of remote) (flow_after Tcp way flags now) flows in
      any_of (is_live_flow timers now) (used_flows way flows) (used_all way flows all) (omega (arith, same, some))

  sent_by : (protocol : Protocol) (inside external : Endpoint) (fixed : Bool) (last : ℕ) (flows : List Flow) →
      FlowsLive protocol timers now flows →
      IsFresh timers now (sent_through remote flags now (binding_of protocol inside external fixed last flows))
  sent_by protocol inside external true last flows h = record { live = refl; flows = h }
  sent_by Icmp inside external false last flows h =
      record { live = now_live now timers.icmp (omega (arith, t.icmp.low)); flows = tt }
  sent_by Udp inside external false last flows h =
      record { live = now_live now timers.udp (omega (arith, t.udp.low)); flows = tt }
  sent_by Tcp inside external false last flows h =
      let all = with_live timers t remote now flows h in
      record {
        live = used_any Outgoing (with_flow remote now flows) all (with_some remote now flows);
        flows = used_all Outgoing (with_flow remote now flows) all;
      }

  pub sent_fresh : (b : Binding) → FlowsLive b.row.protocol timers now b.flows → IsFresh timers now
      (sent_through remote flags now b)
  sent_fresh b = sent_by b.row.protocol b.row.inside b.row.external b.row.fixed b.last b.flows

  received_by : (filter : Filter) (refresh : MappingRefresh) (protocol : Protocol) (inside external : Endpoint)
      (fixed : Bool)
      (last : ℕ) (flows : List Flow) → IsFresh timers now (binding_of protocol inside external fixed last flows) →
      IsFresh timers now (received_through (record { filter = filter; refresh = refresh }) remote flags now
      (binding_of protocol inside external fixed last flows))
  received_by filter Outbound Icmp inside external fixed last flows h = record { live = h.live; flows = tt }
  received_by filter Both Icmp inside external fixed last flows h = record { live = h.live; flows = tt }
  received_by filter Outbound Udp inside external fixed last flows h = record { live = h.live; flows = tt }
  received_by filter Both Udp inside external true last flows h = record { live = refl; flows = tt }
  received_by filter Both Udp inside external false last flows h =
      record { live = now_live now timers.udp (omega (arith, t.udp.low)); flows = tt }
  received_by filter refresh Tcp inside external true last flows h =
      record { live = refl; flows = used_all Incoming flows h.flows }
  received_by filter refresh Tcp inside external false last flows h = record {
    live = used_any Incoming flows h.flows (some_any (is_live_flow timers now) flows h.live);
    flows = used_all Incoming flows h.flows;
  }

  pub received_fresh : (inbound : InboundRules) (b : Binding) → IsFresh timers now b →
      IsFresh timers now (received_through inbound remote flags now b)
  received_fresh inbound b = received_by inbound.filter inbound.refresh b.row.protocol b.row.inside b.row.external
      b.row.fixed b.last b.flows
