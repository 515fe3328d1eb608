-- No flow of a binding was last used after a time, also after packets went through the binding.
use Rattle.std.{proofs.Common.{◌≡◌, ℕ, ◌≤◌, Bool, true, false, cond, List, [], ◌∷◌, ◌++◌, inl, inr, refl, sym, ◌∙◌, arith}, specs.Prelude.filter}
use Rattle.std.{specs.List.list_any, proofs.lemmas.{Bool.{true≢false, cases_lt}, List.Elements.{All-cons, All-head, All-tail, All-push}}}
use Rattle.napt_wire.specs.declared.{Endpoint.Endpoint, Flags.Flags, Protocol.{Protocol, TheVariants.{Icmp, Tcp, Udp}}, Way.TheVariants.{Outgoing, Incoming}}
use Rattle.napt_config.specs.{Rules.AreTimers, declared.settings.Timers.Timers}
use Rattle.napt_rules.specs.declared.{Flow.Flow, InboundRules.InboundRules, InboundPacket.InboundPacket}
use Rattle.napt_rules.specs.Prelude.{Binding, change_first, is_live_flow, is_tcp, live_flows, no_marks, permits, is_flow_of, flow_after, with_flow, sent_through, refreshes, binding_after_in}
use Rattle.napt_rules.proofs.Life.{used_live, lived_flow}
use Rattle.napt_binding.specs.{Inbounds.binding_after_inbound, Slots.NoneUsedAfter}

module _ (now : ℕ) where
  abbrev UpTo : Flow → Type 0
  UpTo flow = flow.last ≤ now

  changed_used : (test : Flow → Bool) (f : Flow → Flow) → ((x : Flow) → UpTo (f x)) → (flows : List Flow) →
      NoneUsedAfter flows now → NoneUsedAfter (change_first test f flows) now
  changed_used test f each [] h = h
  changed_used test f each (x ∷ flows) h = elim (test x) as (λ v.
      NoneUsedAfter (cond v (f x ∷ flows) (x ∷ change_first test f flows)) now) [
        | true ↦ All-cons UpTo (f x) flows (each x) (All-tail UpTo x flows h)
        | false ↦ All-cons UpTo x (change_first test f flows) (All-head UpTo x flows h)
            (changed_used test f each flows (All-tail UpTo x flows h))
      ]

  -- A packet uses one flow now.
  pub out_used : (protocol : Protocol) (remote : Endpoint) (flags : Flags) (flows : List Flow) →
      NoneUsedAfter flows now → NoneUsedAfter (change_first (is_flow_of remote) (flow_after protocol Outgoing flags now)
      (with_flow remote now flows)) now
  out_used protocol remote flags flows h =
      let fresh : Flow = record { remote = remote; marks = no_marks; last = now } in
      changed_used (is_flow_of remote) (flow_after protocol Outgoing flags now) (λ x. omega arith)
      (with_flow remote now flows) (elim (list_any (is_flow_of remote) flows) as (λ v.
      NoneUsedAfter (cond v flows (flows ++ fresh ∷ [])) now)
      [ true ↦ h | false ↦ All-push UpTo flows fresh h (omega arith) ])

  pub sent_used : (remote : Endpoint) (flags : Flags) (b : Binding) → NoneUsedAfter b.flows now →
      NoneUsedAfter (sent_through remote flags now b).flows now
  sent_used remote flags b h = elim b.row.fixed as (λ v. NoneUsedAfter (cond v b.flows (change_first
      (is_flow_of remote) (flow_after b.row.protocol Outgoing flags now) (with_flow remote now b.flows))) now)
      [ true ↦ h | false ↦ out_used b.row.protocol remote flags b.flows h ]

  pub sent_last : (remote : Endpoint) (flags : Flags) (b : Binding) → b.last ≤ now →
      (sent_through remote flags now b).last ≤ now
  sent_last remote flags b h = elim b.row.fixed as (λ v. cond v b.last now ≤ now) [ true ↦ h | false ↦ omega arith ]

  module _ (timers : Timers) where
    -- A dead flow was last used before now.
    dead_used : AreTimers timers → (x : Flow) → is_live_flow timers now x ≡ false → UpTo x
    dead_used good x dead = elim (cases_lt now x.last) [
      | inl lt ↦ absurd (true≢false (sym (lived_flow timers now x.last (omega arith) x
          (used_live timers good Icmp Outgoing
          (record { syn = false; ack = false; fin = false; rst = false }) x.last x)) ∙ dead))
      | inr le ↦ le
    ]

    kept_used : AreTimers timers → (flows : List Flow) → NoneUsedAfter (filter (is_live_flow timers now) flows) now →
        NoneUsedAfter flows now
    kept_used good [] h = h
    kept_used good (x ∷ flows) kept = elim (is_live_flow timers now x) as (λ v. is_live_flow timers now x ≡ v →
        NoneUsedAfter (cond v (x ∷ filter (is_live_flow timers now) flows) (filter (is_live_flow timers now) flows))
        now → NoneUsedAfter (x ∷ flows) now) [
          | true ↦ λ e h. All-cons UpTo x flows (All-head UpTo x (filter (is_live_flow timers now) flows) h)
              (kept_used good flows (All-tail UpTo x (filter (is_live_flow timers now) flows) h))
          | false ↦ λ e h. All-cons UpTo x flows (dead_used good x e) (kept_used good flows h)
        ] refl kept

    pub all_used : AreTimers timers → (protocol : Protocol) (flows : List Flow) →
        NoneUsedAfter (live_flows timers now protocol flows) now → NoneUsedAfter flows now
    all_used good Icmp flows h = h
    all_used good Udp flows h = h
    all_used good Tcp flows h = kept_used good flows h

pub left_last : (inbound : InboundRules) (packet : InboundPacket) (b : Binding) → b.last ≤ packet.now →
    (binding_after_inbound inbound packet b).last ≤ packet.now
left_last inbound packet b h = elim (permits inbound b packet.remote) as (λ v.
    (cond v (binding_after_in inbound packet b) b).last ≤ packet.now) [
      | true ↦ elim (refreshes inbound.refresh b.row) as (λ v. cond v packet.now b.last ≤ packet.now)
          [ true ↦ omega arith | false ↦ h ]
      | false ↦ h
    ]

pub left_used : (inbound : InboundRules) (packet : InboundPacket) (b : Binding) → NoneUsedAfter b.flows packet.now →
    NoneUsedAfter (binding_after_inbound inbound packet b).flows packet.now
left_used inbound packet b h = elim (permits inbound b packet.remote) as (λ v.
    NoneUsedAfter (cond v (binding_after_in inbound packet b) b).flows packet.now) [
      | true ↦ elim (is_tcp b.row.protocol) as (λ v. NoneUsedAfter (cond v (change_first (is_flow_of packet.remote)
          (flow_after b.row.protocol Incoming packet.flags packet.now) b.flows) b.flows) packet.now) [
            | true ↦ changed_used packet.now (is_flow_of packet.remote)
                (flow_after b.row.protocol Incoming packet.flags packet.now) (λ x. omega arith) b.flows h
            | false ↦ h
          ]
      | false ↦ h
    ]
