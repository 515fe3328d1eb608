-- An incoming packet, on the stored bindings and on the list.
use Rattle.std.proofs.Common.{◌≡◌, ◌≢◌, ℕ, ◌+◌, ◌*◌, ◌<◌, ◌≤◌, Bool, true, false, ◌||◌, cond, List, [], ◌∷◌, Option, Some, None, Result, Ok, Err, refl, sym, ◌∙◌, ap, subst, arith, eqb, eqb-true}
use Rattle.std.{specs.{Prelude.find, Option.option_map, List.list_any}, proofs.lemmas.Bool.{eq-eqb, true≢false}}
use Rattle.napt_wire.specs.declared.{Protocol.{Protocol, TheVariants.{Icmp, Tcp, Udp}}, Way.TheVariants.Incoming, Cause.Cause}
use Rattle.napt_wire.specs.declared.{Cause.TheVariants.{NoBinding, Filtered}, Endpoint.Endpoint, Flags.Flags}
use Rattle.napt_config.specs.{Rules.AreTimers, declared.settings.{Filter.Filter, MappingRefresh.{MappingRefresh, TheVariants.{Outbound, Both}}, Timers.Timers}}
use Rattle.napt_rules.specs.declared.InboundRules.{InboundRules}
use Rattle.napt_rules.specs.Prelude.{Binding, change_first, has_number, ns_per_second, is_live_flow, is_live, with_live_flows, permits, is_flow_of, flow_after, received_through, is_of_destination, binding_after_in, InboundEffect, row}
use Rattle.napt_rules.{specs.declared.{InboundPacket.InboundPacket, Flow.Flow, Row.Row}, proofs.Life.{live_same, flows_kept, flows_all}}
use Rattle.napt_table.specs.{declared.bindings.keys.ExternalNumberKey.ExternalNumberKey, Keys.external_key, BindingIndexes.{BindingIndexModel, held_binding, held_at, ChangesOne}}
use Rattle.napt_table.{specs.{Bindings.{AreDue, ListShowsStored, KeepsUnseen}, HeldLists.{seen_binding, ShowsHeld}}, proofs.{SeenBindings.seen_is, Steps.{shown_passed, shown_found, shown_in, in_others, by_protocol, same_everywhere}}}
use Rattle.napt_table.proofs.{Queues.{due_later, same_due, changed_due}, Keys.by_key, LastUses.{left_used, left_last}, OutboundSteps.{recent, used_lives}}
use Rattle.napt_binding.{specs.{Ends.least_timer, Inbounds.{inbound_answer, binding_after_inbound}, Slots.NoneUsedAfter}, proofs.LastUses.live_flows_used}
use Rattle.napt_laws.proofs.{FreshBindings.{binding_of, IsFresh, received_fresh}, Endpoints.{changed_other, changed_here}}

-- A VISIBLE BINDING IS FRESH

seen_fresh : (timers : Timers) (now : ℕ) (o : Option Binding) (b : Binding) → seen_binding timers now o ≡ Some b →
    IsFresh timers now b
seen_fresh timers now o b e =
    let s = seen_is timers now o b e in
    let f : IsFresh timers now (with_live_flows timers now s.0) =
    record {
      live = live_same timers now now (omega arith) s.0 ∙ s.2;
      flows =
          flows_kept s.0.row.protocol timers now s.0.flows;
    } in
    subst (IsFresh timers now) s.3 f

pub fresh_seen : (timers : Timers) (now : ℕ) (b : Binding) → IsFresh timers now b →
    seen_binding timers now (Some b) ≡ Some b
fresh_seen timers now b f =
    ap (λ v. cond v (Some (with_live_flows timers now b)) None) f.live
    ∙ ap (λ (fs : List Flow). let x : Binding = record b { flows = fs } in Some x)
    (flows_all b.row.protocol timers now b.flows f.flows)

left_fresh : (timers : Timers) → AreTimers timers → (inbound : InboundRules) (packet : InboundPacket) (b : Binding) →
    IsFresh timers packet.now b → IsFresh timers packet.now (binding_after_inbound inbound packet b)
left_fresh timers t inbound packet b f = elim (permits inbound b packet.remote) as (λ v.
    IsFresh timers packet.now (cond v (binding_after_in inbound packet b) b))
    [ true ↦ received_fresh timers t packet.remote packet.flags packet.now inbound b f | false ↦ f ]

pub left_row : (inbound : InboundRules) (packet : InboundPacket) (b : Binding) →
    row (binding_after_inbound inbound packet b) ≡ row b
left_row inbound packet b = elim (permits inbound b packet.remote) as (λ v.
    row (cond v (binding_after_in inbound packet b) b) ≡ row b)
    [ true ↦ refl | false ↦ refl ]

-- THE BINDING STAYS QUEUED

any_changed : (p test : Flow → Bool) (f : Flow → Flow) → ((x : Flow) → p (f x) ≡ true) → (xs : List Flow) →
    list_any p xs ≡ true → list_any p (change_first test f xs) ≡ true
any_changed p test f all [] h = h
any_changed p test f all (x ∷ xs) h = elim (test x) as (λ v. list_any p (cond v (f x ∷ xs) (x ∷ change_first test f xs))
    ≡ true) [
      | true ↦ ap (λ v. v || list_any p xs) (all x)
      | false ↦ elim (p x) as (λ v. (v || list_any p xs) ≡ true → (v || list_any p (change_first test f xs)) ≡ true) [
        | true ↦ λ g. refl
        | false ↦ λ g. any_changed p test f all xs g
      ] h
    ]

module _ (timers : Timers) (t : AreTimers timers) (remote : Endpoint) (flags : Flags) (now u : ℕ) (after : now
    ≤ u) where
  received_lives_by : (filter : Filter) (refresh : MappingRefresh) (protocol : Protocol) →
      u < now + least_timer protocol timers * ns_per_second → (inside external : Endpoint) (fixed : Bool) (last : ℕ)
      (flows : List Flow) → is_live timers u (binding_of protocol inside external fixed last flows) ≡ true →
      is_live timers u (received_through (record { filter = filter; refresh = refresh }) remote flags now
      (binding_of protocol inside external fixed last flows)) ≡ true
  received_lives_by filter Outbound Icmp lt inside external fixed last flows h = h
  received_lives_by filter Both Icmp lt inside external fixed last flows h = h
  received_lives_by filter Outbound Udp lt inside external fixed last flows h = h
  received_lives_by filter Both Udp lt inside external true last flows h = refl
  received_lives_by filter Both Udp lt inside external false last flows h =
      recent timers t remote flags now u after timers.udp lt
  received_lives_by filter refresh Tcp lt inside external true last flows h = refl
  received_lives_by filter refresh Tcp lt inside external false last flows h = any_changed (is_live_flow timers u)
      (is_flow_of remote) (flow_after Tcp Incoming flags now) (used_lives timers t remote flags now u after lt Incoming)
      flows h

  received_lives : (inbound : InboundRules) (b : Binding) →
      u < now + least_timer b.row.protocol timers * ns_per_second →
      is_live timers u b ≡ true → is_live timers u (received_through inbound remote flags now b) ≡ true
  received_lives inbound b lt h = received_lives_by inbound.filter inbound.refresh b.row.protocol lt b.row.inside
      b.row.external b.row.fixed b.last b.flows h

left_lives : (timers : Timers) → AreTimers timers → (inbound : InboundRules) (packet : InboundPacket) (u : ℕ) →
    packet.now ≤ u →
    (b : Binding) → u < packet.now + least_timer b.row.protocol timers * ns_per_second → is_live timers u b ≡ true →
    is_live timers u (binding_after_inbound inbound packet b) ≡ true
left_lives timers t inbound packet u after b lt h = elim (permits inbound b packet.remote) as (λ v.
    is_live timers u (cond v (binding_after_in inbound packet b) b) ≡ true)
    [ true ↦ received_lives timers t packet.remote packet.flags packet.now u after inbound b lt h | false ↦ h ]

-- THE QUEUE AFTER A PACKET CAME IN THROUGH A LIVE BINDING

module _ (timers : Timers) (t : AreTimers timers) (inbound : InboundRules) (packet : InboundPacket) (at : ℕ)
    (old new : BindingIndexModel)
    (entries : List (ℕ × ExternalNumberKey)) (due : AreDue timers at old entries) (later : at ≤ packet.now)
    (one : ChangesOne (external_key packet.protocol packet.number) old new) (b : Binding)
    (there : seen_binding timers packet.now (held_at old packet.protocol packet.number) ≡ Some b)
    (left : held_at new packet.protocol packet.number ≡ Some (binding_after_inbound inbound packet b)) where
  was : (d : Binding) × (held_at old packet.protocol packet.number ≡ Some d) × (is_live timers packet.now d ≡ true)
      × (with_live_flows timers packet.now d ≡ b)
  was = seen_is timers packet.now (held_at old packet.protocol packet.number) b there

  b_row : row b ≡ row was.0
  b_row = sym (ap row was.3)

  c_row : row (binding_after_inbound inbound packet b) ≡ row was.0
  c_row = left_row inbound packet b ∙ b_row

  pub received_due : AreDue timers packet.now new entries
  received_due =
      let before : AreDue timers packet.now old entries = due_later timers at packet.now old entries later due in
      let used = before.used (external_key packet.protocol packet.number) was.0 was.1 in
      changed_due timers packet.now old new entries before (external_key packet.protocol packet.number) was.0
      (binding_after_inbound inbound packet b) was.1 left one.others (ap (λ (r : Row). r.fixed) c_row)
      (ap (λ (r : Row). r.protocol) c_row) (
        left_used inbound packet b (subst (λ (x : Binding). NoneUsedAfter x.flows packet.now) was.3
            (live_flows_used timers packet.now was.0.row.protocol was.0.flows used.0)),
        left_last inbound packet b (subst (λ (x : Binding). x.last ≤ packet.now) was.3 used.1),
      )
      (left_fresh timers t inbound packet b
      (seen_fresh timers packet.now (held_at old packet.protocol packet.number) b there)).live
      (λ u after lt lives. left_lives timers t inbound packet u after b
      (subst (λ (p : Protocol). u < packet.now + least_timer p timers * ns_per_second)
      (sym (ap (λ (r : Row). r.protocol) b_row)) lt) (ap (λ (x : Binding). is_live timers u x) (sym was.3) ∙
      (live_same timers packet.now u after was.0 ∙ lives)))

-- THE LIST

module _ (timers : Timers) (t : AreTimers timers) (inbound : InboundRules) (address : ℕ) (packet : InboundPacket)
    (held_ : ℕ → Option Binding) (list : List Binding)
    (shows : ShowsHeld timers packet.now address packet.protocol held_ list) where
  module _ (none : seen_binding timers packet.now (held_ packet.number) ≡ None) where
    absent_is : shown_in inbound address packet list ≡ record { inside = Err NoBinding; through = None; list = list }
    absent_is = ap (shown_found inbound list address packet) (shows packet.number ∙ none)

    pub absent_answer : Err NoBinding ≡ (shown_in inbound address packet list).inside
    absent_answer = sym (ap (λ (r : InboundEffect). r.inside) absent_is)

    pub absent_shows : (new : ℕ → Option Binding) → ((n : ℕ) → new n ≡ held_ n) →
        ShowsHeld timers packet.now address packet.protocol new (shown_in inbound address packet list).list
    absent_shows new same n = ap (λ (r : InboundEffect). find (λ b. has_number address packet.protocol n b.row)
        r.list) absent_is
        ∙ (shows n ∙ ap (seen_binding timers packet.now) (sym (same n)))

  module _ (b : Binding) (some : seen_binding timers packet.now (held_ packet.number) ≡ Some b) where
    there : find (is_of_destination address packet) list ≡ Some b
    there = shows packet.number ∙ some

    found_is : shown_in inbound address packet list ≡ shown_found inbound list address packet (Some b)
    found_is = ap (shown_found inbound list address packet) there

    pub entered_answer : inbound_answer inbound packet b ≡ (shown_in inbound address packet list).inside
    entered_answer = elim (permits inbound b packet.remote) as (λ v.
        cond v (Ok b.row.inside) (Err Filtered) ≡ (shown_passed inbound list address packet b v).inside)
        [ true ↦ refl | false ↦ refl ] ∙ sym (ap (λ (r : InboundEffect). r.inside) found_is)

    pub entered_shows : (new : ℕ → Option Binding) → ((n : ℕ) → n ≢ packet.number → new n ≡ held_ n) →
        new packet.number ≡ Some (binding_after_inbound inbound packet b) →
        ShowsHeld timers packet.now address packet.protocol new (shown_in inbound address packet list).list
    entered_shows new others here n =
        let now : ℕ = packet.now in
        let change : Binding → Binding = binding_after_in inbound packet in
        let fresh : IsFresh timers now b = seen_fresh timers now (held_ packet.number) b some in
        let at : ℕ → Binding → Bool = λ n x. has_number address packet.protocol n x.row in
        ap (λ (r : InboundEffect). find (at n) r.list) found_is
        ∙ (elim (permits inbound b packet.remote) as (λ v. IsFresh timers now (cond v (change b) b) →
        new packet.number ≡ Some (cond v (change b) b) →
        find (at n) (shown_passed inbound list address packet b v).list ≡ seen_binding timers now (new n)) [
          | true ↦ λ f h. elim (eqb n packet.number) as (λ v. eqb n packet.number ≡ v →
              find (at n) (change_first (is_of_destination address packet) change list)
              ≡ seen_binding timers now (new n)) [
                | true ↦ λ e.
                    let q : n ≡ packet.number = eqb-true n packet.number e in
                    subst (λ (m : ℕ). find (at m) (change_first (is_of_destination address packet) change list)
                    ≡ seen_binding timers now (new m)) (sym q)
                    (changed_here address packet.protocol packet.number change (λ b. refl) list
                    ∙ (ap (option_map change) there
                    ∙ sym (ap (seen_binding timers now) h ∙ fresh_seen timers now (change b) f)))
                | false ↦ λ e.
                    let d : n ≢ packet.number = λ q. true≢false (sym (eq-eqb n packet.number q) ∙ e) in
                    changed_other address packet.protocol packet.number change (λ b. refl) list packet.protocol n
                    (λ p. d) ∙ (shows n ∙ ap (seen_binding timers now) (sym (others n d)))
              ] refl
          | false ↦ λ f h. elim (eqb n packet.number) as (λ v. eqb n packet.number ≡ v →
              find (at n) list ≡ seen_binding timers now (new n)) [
                | true ↦ λ e. let q : n ≡ packet.number = eqb-true n packet.number e in
                    ap (λ (m : ℕ). find (at m) list) q
                    ∙ (there ∙ sym (ap (seen_binding timers now) (ap new q ∙ h) ∙ fresh_seen timers now b f))
                | false ↦ λ e. let d : n ≢ packet.number = λ q. true≢false (sym (eq-eqb n packet.number q) ∙ e) in
                    shows n ∙ ap (seen_binding timers now) (sym (others n d))
              ] refl
        ] (left_fresh timers t inbound packet b fresh) here)

-- ALL PROTOCOLS

module _ (timers : Timers) (t : AreTimers timers) (inbound : InboundRules) (address : ℕ) (packet : InboundPacket)
    (old new : BindingIndexModel) (one : ChangesOne (external_key packet.protocol packet.number) old new)
    (result : Result Endpoint Cause)
    (absent : seen_binding timers packet.now (held_at old packet.protocol packet.number) ≡ None →
    (result ≡ Err NoBinding)
    × (held_at new packet.protocol packet.number ≡ held_at old packet.protocol packet.number))
    (found : (b : Binding) → seen_binding timers packet.now (held_at old packet.protocol packet.number) ≡ Some b →
    (result ≡ inbound_answer inbound packet b) × (held_at new packet.protocol packet.number
    ≡ Some (binding_after_inbound inbound packet b)))
  where
    others : (n : ℕ) → n ≢ packet.number → held_at new packet.protocol n ≡ held_at old packet.protocol n
    others n d = one.others (external_key packet.protocol n) (λ e. d (ap (λ (k : ExternalNumberKey). k.number) e))

    others_show : (list : List Binding) → ListShowsStored timers packet.now address old list →
        ShowsHeld timers packet.now address packet.protocol (held_at new packet.protocol)
        (shown_in inbound address packet list).list →
        ListShowsStored timers packet.now address new (shown_in inbound address packet list).list
    others_show list shows here q = by_protocol packet.protocol q
        (λ r. ShowsHeld timers packet.now address r (held_at new r) (shown_in inbound address packet list).list) here
        (λ d n. in_others inbound timers address packet list q d n ∙ (shows q n ∙ ap (seen_binding timers packet.now)
        (sym (one.others (external_key q n) (λ e. d (ap (λ (k : ExternalNumberKey). k.protocol) e))))))

    pub all_received : (list : List Binding) → ListShowsStored timers packet.now address old list →
        (result ≡ (shown_in inbound address packet list).inside)
        × ListShowsStored timers packet.now address new (shown_in inbound address packet list).list
    all_received list shows = elim (seen_binding timers packet.now (held_at old packet.protocol packet.number)) as (λ o.
        seen_binding timers packet.now (held_at old packet.protocol packet.number) ≡ o →
        (result ≡ (shown_in inbound address packet list).inside)
        × ListShowsStored timers packet.now address new (shown_in inbound address packet list).list) [
          | None ↦ λ e. (
            (absent e).0 ∙ absent_answer timers t inbound address packet (held_at old packet.protocol) list
                (shows packet.protocol) e,
            others_show list shows (absent_shows timers t inbound address packet (held_at old packet.protocol) list
                (shows packet.protocol) e (held_at new packet.protocol) (same_everywhere (held_at old packet.protocol)
                (held_at new packet.protocol) packet.number others (absent e).1)),
          )
          | Some b ↦ λ e. (
            (found b e).0 ∙ entered_answer timers t inbound address packet (held_at old packet.protocol) list
                (shows packet.protocol) b e,
            others_show list shows (entered_shows timers t inbound address packet (held_at old packet.protocol) list
                (shows packet.protocol) b e (held_at new packet.protocol) others (found b e).1),
          )
        ] refl

    -- A binding that is not visible is unchanged.
    pub received_unseen : KeepsUnseen timers packet.now old new
    received_unseen k none at from = by_key (external_key packet.protocol packet.number) k (λ n.
        seen_binding timers packet.now (held_binding new n) ≡ None →
        seen_binding timers at (held_binding new n) ≡ seen_binding timers at (held_binding old n))
        (λ h. elim (seen_binding timers packet.now (held_at old packet.protocol packet.number)) as (λ o.
        seen_binding timers packet.now (held_at old packet.protocol packet.number) ≡ o →
        seen_binding timers at (held_at new packet.protocol packet.number)
        ≡ seen_binding timers at (held_at old packet.protocol packet.number)) [
          | None ↦ λ e. ap (seen_binding timers at) (absent e).1
          | Some b ↦ λ e.
              let f : IsFresh timers packet.now (binding_after_inbound inbound packet b) =
              left_fresh timers t inbound packet b
              (seen_fresh timers packet.now (held_at old packet.protocol packet.number) b e) in
              let z : None ≡ Some (binding_after_inbound inbound packet b) = sym h
              ∙ (ap (seen_binding timers packet.now) (found b e).1
              ∙ fresh_seen timers packet.now (binding_after_inbound inbound packet b) f) in cc
        ] refl)
        (λ d h. ap (seen_binding timers at) (one.others k d)) none

    -- The queue stays valid.
    pub all_received_due : (at : ℕ) (entries : List (ℕ × ExternalNumberKey)) → at ≤ packet.now →
        AreDue timers at old entries → AreDue timers packet.now new entries
    all_received_due at entries later due =
        elim (seen_binding timers packet.now (held_at old packet.protocol packet.number)) as (λ o.
        seen_binding timers packet.now (held_at old packet.protocol packet.number) ≡ o →
        AreDue timers packet.now new entries) [
          | None ↦ λ e. due_later timers at packet.now new entries later (same_due timers at old new entries
              (λ k. by_key (external_key packet.protocol packet.number) k
              (λ n. held_binding new n ≡ held_binding old n) (absent e).1
              (one.others k)) due)
          | Some b ↦ λ e. received_due timers t inbound packet at old new entries due later one b e (found b e).1
        ] refl
