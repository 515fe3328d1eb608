-- A run keeps what its configuration requires of a state's bindings except redirects: the host is inside, the binding
-- was not used after the clock, and no two of its flows are of one remote.
use Rattle.std.proofs.Common.{◌≡◌, ℕ, ◌≤◌, Bool, true, false, not, ◌||◌, cond, List, [], ◌∷◌, ◌++◌, map, refl, sym, ◌∙◌, ap, subst, arith, filter}
use Rattle.std.{specs.List.list_any, proofs.lemmas.Bool.{or_parts, true≢false}}
use Rattle.napt_wire.specs.declared.Kind.TheVariants as kinds
use Rattle.napt_rules.specs.declared.{Flow.Flow, InboundRules.InboundRules, OutboundPacket.OutboundPacket, InboundPacket.InboundPacket, Leg.Leg}
use Rattle.napt_rules.specs.Prelude.{Binding, no_marks, change_first, same_endpoint, is_tcp, is_live_flow, live_flows, with_live_flows, hold_ago, live_and_held, is_flow_of, flow_after, with_flow, refreshes, inbound_rules, assignment_rules, no_flags, is_of_source, binding_after_out, is_of_live_source, live_binding_after_out, other_bindings, new_binding, binding_after_in, is_of_live_destination, live_binding_after_in, outbound_packet, inbound_packet, act_out, act_in, act_by, Arrival, run_from, last_clock, flows_share, redirect_binding, opening, dynamic_bindings, with_redirects, AreFlowsOwn, IsBindingOwn, AreAllOwn, TakenStatesAreOwn, Protocol, Icmp, Tcp, Udp, Way, Outgoing, Incoming, Flags, Endpoint, Kind, source, kind, Timers, Rules, pair_of, is_inside, Redirect}
use Rattle.napt_laws.proofs.{Endpoints.{end_itself, end_is}, Lists.{each_changed, each_pushed, each_weaker, each_less, each_append}, StepCases.{of_out, of_in}, Purges.each_purged}
use Rattle.napt_laws.proofs.{TakenStates.all, RunInduction.run_keeps_at}

-- FLOWS

pub or_none : (x y : Bool) → x ≡ false → y ≡ false → (x || y) ≡ false
or_none x y e f = ap (λ v. v || y) e ∙ f

end_not : (a b : Endpoint) → same_endpoint a b ≡ false → same_endpoint b a ≡ false
end_not a b h = elim (same_endpoint b a) as (λ v. same_endpoint b a ≡ v → v ≡ false) [
  | true ↦ λ e. absurd (true≢false (sym (ap (same_endpoint a) (end_is b a e) ∙ end_itself a) ∙ h))
  | false ↦ λ e. refl
] refl

any_pushed : {X : Type 0} (t : X → Bool) (xs : List X) (x : X) → list_any t xs ≡ false → t x ≡ false →
    list_any t (xs ++ x ∷ []) ≡ false
any_pushed t [] x h e = or_none _ _ e refl
any_pushed t (y ∷ xs) x h e = let parts = or_parts _ _ h in or_none _ _ parts.0 (any_pushed t xs x parts.1 e)

any_less : {X : Type 0} (t p : X → Bool) (xs : List X) → list_any t xs ≡ false → list_any t (filter p xs) ≡ false
any_less t p [] h = refl
any_less t p (x ∷ xs) h =
    let parts = or_parts _ _ h in
    elim (p x) as (λ v. list_any t (cond v (x ∷ filter p xs) (filter p xs)) ≡ false)
    [ true ↦ or_none _ _ parts.0 (any_less t p xs parts.1) | false ↦ any_less t p xs parts.1 ]

share_less : (p : Flow → Bool) (flows : List Flow) → flows_share flows ≡ false → flows_share (filter p flows) ≡ false
share_less p [] h = refl
share_less p (x ∷ flows) h =
    let parts = or_parts _ _ h in
    elim (p x) as (λ v. flows_share (cond v (x ∷ filter p flows) (filter p flows)) ≡ false) [
      | true ↦ or_none _ _ (any_less (is_flow_of x.remote) p flows parts.0) (share_less p flows parts.1)
      | false ↦ share_less p flows parts.1
    ]

share_pushed : (flows : List Flow) (f : Flow) → list_any (is_flow_of f.remote) flows ≡ false → flows_share flows
    ≡ false → flows_share (flows ++ f ∷ []) ≡ false
share_pushed [] f none h = refl
share_pushed (x ∷ flows) f none h =
    let no = or_parts _ _ none in
    let parts = or_parts _ _ h in
    or_none _ _ (any_pushed (is_flow_of x.remote) flows f parts.0 (end_not x.remote f.remote no.0))
    (share_pushed flows f no.1 parts.1)

module _ (t : Flow → Bool) (f : Flow → Flow) (same : (x : Flow) → (f x).remote ≡ x.remote) where
  any_changed : (remote : Endpoint) (flows : List Flow) → list_any (is_flow_of remote) (change_first t f flows)
      ≡ list_any (is_flow_of remote) flows
  any_changed remote [] = refl
  any_changed remote (x ∷ flows) = grind (arith, same x, any_changed remote flows)

  share_changed : (flows : List Flow) → flows_share (change_first t f flows) ≡ flows_share flows
  share_changed [] = refl
  share_changed (x ∷ flows) = grind (arith, same x, any_changed x.remote flows, share_changed flows)

own_live : (timers : Timers) (now clock : ℕ) (protocol : Protocol) (flows : List Flow) → AreFlowsOwn clock flows →
    AreFlowsOwn clock (live_flows timers now protocol flows)
own_live timers now clock protocol flows h = elim (is_tcp protocol) as (λ v. AreFlowsOwn clock
    (cond v (filter (is_live_flow timers now) flows) flows)) [
      | true ↦ record {
        by = each_less (λ f. f.last ≤ clock) (is_live_flow timers now) flows h.by;
        single = share_less (is_live_flow timers now) flows h.single;
      }
      | false ↦ h
    ]

own_used : (protocol : Protocol) (way : Way) (flags : Flags) (now : ℕ) (t : Flow → Bool) (flows : List Flow) →
    AreFlowsOwn now flows → AreFlowsOwn now (change_first t (flow_after protocol way flags now) flows)
own_used protocol way flags now t flows h = record {
  by = each_changed (λ f. f.last ≤ now) t (flow_after protocol way flags now) (λ f its le. omega arith) flows h.by;
  single = share_changed t (flow_after protocol way flags now) (λ f. refl) flows ∙ h.single;
}

own_with : (remote : Endpoint) (now : ℕ) (flows : List Flow) → AreFlowsOwn now flows →
    AreFlowsOwn now (with_flow remote now flows)
own_with remote now flows h =
    let new : Flow = record { remote = remote; marks = no_marks; last = now } in
    elim (list_any (is_flow_of remote) flows) as (λ v. list_any (is_flow_of remote) flows ≡ v →
    AreFlowsOwn now (cond v flows (flows ++ new ∷ []))) [
      | true ↦ λ e. h
      | false ↦ λ e. record {
        by = each_pushed (λ f. f.last ≤ now) flows new h.by (let le : now ≤ now = omega arith in le);
        single = share_pushed flows new e h.single;
      }
    ] refl

-- BINDINGS

module _ (rules : Rules) where
  abbrev pub IsKept : ℕ → Binding → Type 0
  IsKept clock b = b.row.fixed ≡ false → IsBindingOwn rules clock b

  later : (n m : ℕ) → n ≤ m → (list : List Binding) → AreAllOwn rules n list → AreAllOwn rules m list
  later n m le list h = each_weaker (IsKept n) (IsKept m) (λ b own is. let o = own is in record {
    host = o.host;
    last = omega (arith, le, o.last);
    flows = record {
      by = each_weaker (λ f. f.last ≤ n) (λ f. f.last ≤ m) (λ f by. omega (arith, le, by)) b.flows o.flows.by;
      single = o.flows.single;
    };
  }) list h

  owned_live : (clock now : ℕ) (b : Binding) → IsKept clock b → IsKept clock (with_live_flows rules.timers now b)
  owned_live clock now b own is = let o = own is in record {
    host = o.host;
    last = o.last;
    flows = own_live rules.timers now clock b.row.protocol b.flows o.flows;
  }

  pub owned_taken : (clock now : ℕ) (list : List Binding) → AreAllOwn rules clock list →
      AreAllOwn rules clock (live_and_held rules.timers now list)
  owned_taken clock now list h = each_purged (IsKept clock) rules.timers (hold_ago rules.timers now)
      (owned_live clock (hold_ago rules.timers now)) list h

  owned_sent : (packet : OutboundPacket) (b : Binding) → IsKept packet.now b →
      IsKept packet.now (binding_after_out packet b)
  owned_sent packet b own is =
      let o = own is in
      record {
        host = o.host;
        last = subst (λ v. cond v b.last packet.now ≤ packet.now) (sym is) (omega arith);
        flows = subst (λ v. AreFlowsOwn packet.now (cond v b.flows
            (change_first (is_flow_of packet.remote) (flow_after b.row.protocol Outgoing packet.flags packet.now)
            (with_flow packet.remote packet.now b.flows)))) (sym is)
            (own_used b.row.protocol Outgoing packet.flags packet.now (is_flow_of packet.remote)
            (with_flow packet.remote packet.now b.flows) (own_with packet.remote packet.now b.flows o.flows));
      }

  owned_received : (inbound : InboundRules) (packet : InboundPacket) (b : Binding) → IsKept packet.now b →
      IsKept packet.now (binding_after_in inbound packet b)
  owned_received inbound packet b own is =
      let o = own is in
      record {
        host = o.host;
        last = elim (refreshes inbound.refresh b.row) as (λ v. cond v packet.now b.last ≤ packet.now)
            [ true ↦ omega arith | false ↦ o.last ];
        flows = elim (is_tcp b.row.protocol) as (λ v. AreFlowsOwn packet.now (cond v
            (change_first (is_flow_of packet.remote) (flow_after b.row.protocol Incoming packet.flags packet.now)
            b.flows)
            b.flows)) [
              | true ↦ own_used b.row.protocol Incoming packet.flags packet.now (is_flow_of packet.remote) b.flows
                  o.flows
              | false ↦ o.flows
            ];
      }

  -- ONE LEG

  module _ (address : ℕ) (leg : Leg) (list : List Binding) (h : AreAllOwn rules leg.now list) where
    abbrev all_taken : List Binding
    all_taken = live_and_held rules.timers leg.now list

    kept : AreAllOwn rules leg.now all_taken
    kept = owned_taken leg.now leg.now list h

    owned_out : (protocol : Protocol) (flags : Flags) → is_inside rules (source leg.packet).address ≡ true →
        AreAllOwn rules leg.now (act_out rules address leg list protocol flags).list
    owned_out protocol flags host =
        let packet : OutboundPacket = outbound_packet rules protocol flags leg.now leg.packet in
        of_out (AreAllOwn rules leg.now) rules.timers address all_taken kept (assignment_rules rules) packet
        (each_changed (IsKept leg.now) (is_of_live_source rules.timers address packet)
        (live_binding_after_out rules.timers packet)
        (λ b its own. owned_sent packet (with_live_flows rules.timers leg.now b) (owned_live leg.now leg.now b own))
        all_taken kept)
        (λ n none is. each_pushed (IsKept leg.now) (other_bindings address packet all_taken)
        (binding_after_out packet (new_binding address packet n))
        (each_less (IsKept leg.now) (λ b. not (is_of_source address packet b)) all_taken kept)
        (owned_sent packet (new_binding address packet n) (λ loose. record {
          host = host;
          last = omega arith;
          flows = record { by = tt; single = refl };
        })))

    owned_in : (protocol : Protocol) (flags : Flags) →
        AreAllOwn rules leg.now (act_in rules address leg list protocol flags).list
    owned_in protocol flags =
        let packet : InboundPacket = inbound_packet protocol flags leg.now leg.packet in
        of_in (AreAllOwn rules leg.now) rules.timers address all_taken kept (inbound_rules rules) packet
        (each_changed (IsKept leg.now) (is_of_live_destination rules.timers address packet)
        (live_binding_after_in rules.timers (inbound_rules rules) packet)
        (λ b its own. owned_received (inbound_rules rules) packet (with_live_flows rules.timers leg.now b)
        (owned_live leg.now leg.now b own)) all_taken kept)

    owned_by : (way : Way) (kind : Kind) → (way ≡ Outgoing → is_inside rules (source leg.packet).address ≡ true) →
        AreAllOwn rules leg.now (act_by rules address leg list way kind).list
    owned_by Outgoing kinds.Udp ours = owned_out Udp no_flags (ours refl)
    owned_by Outgoing (kinds.Tcp flags) ours = owned_out Tcp flags (ours refl)
    owned_by Outgoing kinds.Echo ours = owned_out Icmp no_flags (ours refl)
    owned_by Outgoing (kinds.ErrorOf inner) ours = h
    owned_by Incoming kinds.Udp ours = owned_in Udp no_flags
    owned_by Incoming (kinds.Tcp flags) ours = owned_in Tcp flags
    owned_by Incoming kinds.Echo ours = owned_in Icmp no_flags
    owned_by Incoming (kinds.ErrorOf inner) ours = h

  pub owned_run : (number clock : ℕ) (inputs : List Arrival) (list : List Binding) → AreAllOwn rules clock list →
      AreAllOwn rules (last_clock clock inputs) (run_from rules number clock inputs list).list
  owned_run = run_keeps_at rules (AreAllOwn rules) later (λ address leg list served h.
      owned_by address leg list h leg.way (kind leg.packet) served.ours)

all_fixed : (rules : Rules) (clock : ℕ) (pair : ℕ → ℕ) (redirects : List Redirect) →
    AreAllOwn rules clock (map (redirect_binding pair) redirects)
all_fixed rules clock pair [] = tt
all_fixed rules clock pair (r ∷ redirects) = ((λ is. cc), all_fixed rules clock pair redirects)

pub taken_own : TakenStatesAreOwn
taken_own rules keeps state takes inputs =
    owned_run rules 0 state.clock inputs (with_redirects rules state).list
    (each_append (IsKept rules state.clock) (opening rules) (dynamic_bindings rules state)
    (all_fixed rules state.clock (pair_of rules) rules.redirects)
    (each_weaker (IsBindingOwn rules state.clock) (IsKept rules state.clock) (λ b own is. own)
    (dynamic_bindings rules state)
    (all rules keeps state takes).owned))
