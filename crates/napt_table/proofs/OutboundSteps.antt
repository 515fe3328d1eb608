-- An outgoing packet, on the stored bindings and on the list.
use Rattle.std.proofs.Common.{◌≡◌, ◌≢◌, ℕ, ◌+◌, ◌*◌, ◌<◌, ◌≤◌, Bool, true, false, not, ◌&&◌, ◌||◌, cond, List, [], ◌∷◌, ◌++◌, map, Option, Some, None, refl, sym, ◌∙◌, ap, subst, arith, eqb, eqb-true, ◌-◌, min}
use Rattle.std.{specs.{Prelude.find, Option.{option_map, is_some}, List.list_any}, proofs.lemmas.{List.Elements.All-nil, Bool.{eq-eqb, lt-ltb, or_parts, true≢false}}}
use Rattle.napt_wire.specs.declared.{Protocol.{Protocol, TheVariants.{Icmp, Tcp, Udp}}, Way.TheVariants.Outgoing, Endpoint.Endpoint, Flags.Flags}
use Rattle.napt_wire.specs.declared.Way.{Way}
use Rattle.napt_config.specs.{Rules.AreTimers, declared.settings.{Timers.Timers}}
use Rattle.napt_rules.specs.Prelude.{NumberAssignment, Binding, change_first, has_number, no_marks, is_closing, ns_per_second, is_recent, is_live_flow, is_live, live_flows, with_live_flows, is_flow_of, flow_after, with_flow, sent_through, candidates, is_free, choice, is_of_source, binding_after_out, new_binding, row, AreBindingsApart}
use Rattle.napt_rules.{specs.declared.{OutboundPacket.OutboundPacket, Flow.Flow, SessionMarks.SessionMarks, Row.Row}, proofs.Life.live_same}
use Rattle.napt_table.specs.{declared.bindings.keys.ExternalNumberKey.ExternalNumberKey, Keys.{key_eq, external_key}, HeldLists.{seen_binding, ShowsHeld}, BindingIndexes.{BindingIndexModel, held_binding, held_at, IsNamed, ChangesOne, WentThrough}}
use Rattle.napt_table.{specs.Bindings.AreDue, proofs.{Keys.{by_key, at_key, past_key}, Queues.{due_later, changed_due}, SeenBindings.{seen_is, seen_live}, LastUses.{out_used, sent_used, sent_last, all_used}}}
use Rattle.napt_binding.{specs.{Ends.least_timer, Slots.NoneUsedAfter}, proofs.{Lists.any_pushed, LastUses.live_flows_used}}
use Rattle.napt_laws.proofs.{FreshBindings.{binding_of, sent_fresh, no_flows}, UniqueSearches.{passes, find_same, change_same, find_pushed, find_passed_over}}
use Rattle.napt_laws.proofs.Endpoints.{end_itself, number_of_it, once_number, once_inside, has_it, inside_it, inside_parts, changed_other, changed_here}

-- A PACKET REFRESHES A BINDING FOR THE LEAST TIMER

module _ (timers : Timers) (t : AreTimers timers) (remote : Endpoint) (flags : Flags) (now : ℕ) where
  -- A live binding through which a packet is sent stays live.
  any_used : (p test : Flow → Bool) (f : Flow → Flow) → ((x : Flow) → p (f x) ≡ true) → (xs : List Flow) →
      list_any test xs ≡ true → list_any p (change_first test f xs) ≡ true
  any_used p test f all [] h = cc
  any_used p test f all (x ∷ xs) h = elim (test x) as (λ v. (v || list_any test xs) ≡ true →
      list_any p (cond v (f x ∷ xs) (x ∷ change_first test f xs)) ≡ true) [
        | true ↦ λ g. ap (λ v. v || list_any p xs) (all x)
        | false ↦ λ g. let rest : list_any p (change_first test f xs) ≡ true = any_used p test f all xs g in
            grind (arith, rest)
      ] h

  has_flow : (flows : List Flow) → list_any (is_flow_of remote) (with_flow remote now flows) ≡ true
  has_flow flows = elim (list_any (is_flow_of remote) flows) as (λ v. list_any (is_flow_of remote) flows ≡ v →
      list_any (is_flow_of remote) (cond v flows (flows ++ record { remote = remote; marks = no_marks; last = now }
      ∷ [])) ≡ true) [
        | true ↦ λ e. e
        | false ↦ λ e. any_pushed (is_flow_of remote) flows (record { remote = remote; marks = no_marks; last = now })
            (end_itself remote)
      ] refl

  module _ (u : ℕ) (from : now ≤ u) where
    pub recent : (seconds : ℕ) → u < now + seconds * ns_per_second → is_recent u now seconds ≡ true
    recent seconds lt = lt-ltb (u - now) (seconds * ns_per_second) (omega arith)

    pub used_lives : u < now + min timers.established timers.transitory * ns_per_second → (way : Way) (flow : Flow) →
        is_live_flow timers u (flow_after Tcp way flags now flow) ≡ true
    used_lives lt way flow =
        let marks : SessionMarks = (flow_after Tcp way flags now flow).marks in
        elim ((marks.syn_out && marks.syn_in) && not (is_closing marks)) as (λ v.
        is_recent u now (cond v timers.established timers.transitory) ≡ true) [
          | true ↦ recent timers.established (omega arith)
          | false ↦ recent timers.transitory (omega arith)
        ]

    -- A binding through which a packet went out is live for the least timer.
    sent_lives_by : (protocol : Protocol) → u < now + least_timer protocol timers * ns_per_second →
        (inside external : Endpoint) (fixed : Bool) (last : ℕ) (flows : List Flow) →
        is_live timers u (sent_through remote flags now (binding_of protocol inside external fixed last flows)) ≡ true
    sent_lives_by protocol lt inside external true last flows = refl
    sent_lives_by Icmp lt inside external false last flows = recent timers.icmp lt
    sent_lives_by Udp lt inside external false last flows = recent timers.udp lt
    sent_lives_by Tcp lt inside external false last flows = any_used (is_live_flow timers u) (is_flow_of remote)
        (flow_after Tcp Outgoing flags now) (used_lives lt Outgoing) (with_flow remote now flows) (has_flow flows)

    pub sent_lives : (b : Binding) → u < now + least_timer b.row.protocol timers * ns_per_second →
        is_live timers u (sent_through remote flags now b) ≡ true
    sent_lives b lt = sent_lives_by b.row.protocol lt b.row.inside b.row.external b.row.fixed b.last b.flows

-- THE QUEUE AFTER A PACKET WENT OUT

module _ (timers : Timers) (t : AreTimers timers) (packet : OutboundPacket) (at : ℕ) (old new : BindingIndexModel)
    (entries : List (ℕ × ExternalNumberKey)) (due : AreDue timers at old entries) (later : at ≤ packet.now) (number : ℕ)
    (went : WentThrough timers packet old new number) where
  was : (d : Binding) × (held_at old packet.protocol number ≡ Some d) × (is_live timers packet.now d ≡ true)
      × (with_live_flows timers packet.now d ≡ went.binding)
  was = seen_is timers packet.now (held_at old packet.protocol number) went.binding went.found

  now_is : (d : Binding) × (held_at new packet.protocol number ≡ Some d) × (is_live timers packet.now d ≡ true)
      × (with_live_flows timers packet.now d ≡ binding_after_out packet went.binding)
  now_is = seen_is timers packet.now (held_at new packet.protocol number) (binding_after_out packet went.binding)
      went.left

  now_row : row now_is.0 ≡ row was.0
  now_row = ap row now_is.3 ∙ (refl ∙ sym (ap row was.3))

  later_due : AreDue timers packet.now old entries
  later_due = due_later timers at packet.now old entries later due

  flows_used : NoneUsedAfter now_is.0.flows packet.now
  flows_used = all_used packet.now timers t now_is.0.row.protocol now_is.0.flows
      (subst (λ (x : Binding). NoneUsedAfter x.flows packet.now) (sym now_is.3)
      (sent_used packet.now packet.remote packet.flags went.binding
      (subst (λ (x : Binding). NoneUsedAfter x.flows packet.now) was.3
      (live_flows_used timers packet.now was.0.row.protocol was.0.flows
      (later_due.used (external_key packet.protocol number) was.0 was.1).0))))

  last_used : now_is.0.last ≤ packet.now
  last_used = subst (λ (x : Binding). x.last ≤ packet.now) (sym now_is.3)
      (sent_last packet.now packet.remote packet.flags went.binding
      (subst (λ (x : Binding). x.last ≤ packet.now) was.3
      (later_due.used (external_key packet.protocol number) was.0 was.1).1))

  pub sent_due : AreDue timers packet.now new entries
  sent_due = changed_due timers packet.now old new entries later_due (external_key packet.protocol number)
      was.0 now_is.0 was.1 now_is.1 went.one.others (ap (λ (r : Row). r.fixed) now_row)
      (ap (λ (r : Row). r.protocol) now_row) (flows_used, last_used) now_is.2
      (λ u after lt l. sym (live_same timers packet.now u after now_is.0)
      ∙ (ap (λ (x : Binding). is_live timers u x) now_is.3
      ∙ sent_lives timers t packet.remote packet.flags packet.now u after went.binding
      (subst (λ (p : Protocol). u < packet.now + least_timer p timers * ns_per_second)
      (ap (λ (x : Binding). x.row.protocol) was.3) lt)))

-- THE LIST

is_some_any : {X : Type 0} (t : X → Bool) (xs : List X) → list_any t xs ≡ is_some (find t xs)
is_some_any t [] = refl
is_some_any t (x ∷ xs) = elim (t x) as (λ v. (v || list_any t xs) ≡ is_some (cond v (Some x) (find t xs)))
    [ true ↦ refl | false ↦ is_some_any t xs ]

some_row : (o : Option Binding) → is_some o ≡ is_some (option_map row o)
some_row None = refl
some_row (Some b) = refl

find_agree : (p q : ℕ → Bool) → ((n : ℕ) → p n ≡ q n) → (xs : List ℕ) → find p xs ≡ find q xs
find_agree p q same [] = refl
find_agree p q same (x ∷ xs) =
    ap (λ v. cond v (Some x) (find p xs)) (same x)
    ∙ ap (λ (o : Option ℕ). cond (q x) (Some x) o) (find_agree p q same xs)

module _ (timers : Timers) (address : ℕ) (packet : OutboundPacket) (held_ : ℕ → Option Binding)
    (list : List Binding) (apart : AreBindingsApart (map row list))
    (shows : ShowsHeld timers packet.now address packet.protocol held_ list)
    (protocols : (n : ℕ) (b : Binding) → held_ n ≡ Some b → b.row.protocol ≡ packet.protocol)
    (externals : (n : ℕ) (b : Binding) → held_ n ≡ Some b → b.row.external ≡ record { address = address; number = n })
  where
    -- THE PACKET'S SOURCE HAS A LIVE BINDING
    module _ (number : ℕ) (b : Binding) (is : seen_binding timers packet.now (held_ number) ≡ Some b)
        (inside : b.row.inside ≡ packet.inside) where
      there : find (λ b. has_number address packet.protocol number b.row) list ≡ Some b
      there = shows number ∙ is

      pub parts : (packet.protocol ≡ b.row.protocol) × (b.row.external ≡ record { address = address; number = number })
      parts =
          let s = seen_is timers packet.now (held_ number) b is in (
            sym (protocols number s.0 s.1) ∙ ap (λ (x : Binding). x.row.protocol) s.3,
            sym (ap (λ (x : Binding). x.row.external) s.3) ∙ externals number s.0 s.1,
          )

      by_inside : is_of_source address packet b ≡ true
      by_inside = inside_it address packet.protocol packet.inside b.row parts.0
          (ap (λ (x : Endpoint). x.address) parts.1) (sym inside)

      pub found : find (is_of_source address packet) list ≡ Some b
      found = find_same (λ b. has_number address packet.protocol number b.row) (is_of_source address packet) list b
          there
          by_inside
          (once_inside address packet.protocol packet.inside list apart)

      pub known_shows : (new : ℕ → Option Binding) → ((n : ℕ) → n ≢ number → new n ≡ held_ n) →
          seen_binding timers packet.now (new number) ≡ Some (binding_after_out packet b) →
          ShowsHeld timers packet.now address packet.protocol new
          (change_first (is_of_source address packet) (binding_after_out packet) list)
      known_shows new others here n =
          let changed : change_first (is_of_source address packet) (binding_after_out packet) list
          ≡ change_first (λ b. has_number address packet.protocol number b.row) (binding_after_out packet) list =
          change_same (is_of_source address packet)
          (λ b. has_number address packet.protocol number b.row) (binding_after_out packet) list b found
          (passes (λ b. has_number address packet.protocol number b.row) list b there)
          (once_number address packet.protocol number list apart) in
          ap (find (λ b. has_number address packet.protocol n b.row)) changed
          ∙ elim (eqb n number) as (λ v. eqb n number ≡ v → find (λ b. has_number address packet.protocol n b.row)
          (change_first (λ b. has_number address packet.protocol number b.row) (binding_after_out packet) list)
          ≡ seen_binding timers packet.now
          (new n)) [
            | true ↦ λ t.
                let q : n ≡ number = eqb-true n number t in
                subst (λ (m : ℕ). find (λ b. has_number address packet.protocol m b.row)
                (change_first (λ b. has_number address packet.protocol number b.row)
                (binding_after_out packet) list) ≡ seen_binding timers packet.now (new m)) (sym q)
                (changed_here address packet.protocol number (binding_after_out packet)
                (λ b. refl) list
                ∙ (ap (option_map (binding_after_out packet)) there ∙ sym here))
            | false ↦ λ t.
                let d : n ≢ number = λ q. true≢false (sym (eq-eqb n number q) ∙ t) in
                changed_other address packet.protocol number (binding_after_out packet)
                (λ b. refl) list
                packet.protocol n (λ p. d) ∙ (shows n ∙ ap (seen_binding timers packet.now) (sym (others n d)))
          ] refl

    -- THE PACKET'S SOURCE HAS NONE
    pub not_found : ((n : ℕ) (b : Binding) → seen_binding timers packet.now (held_ n) ≡ Some b →
        b.row.inside ≢ packet.inside) →
        find (is_of_source address packet) list ≡ None
    not_found none = elim (find (is_of_source address packet) list) as (λ o.
        find (is_of_source address packet) list ≡ o → o ≡ None) [
          | None ↦ λ e. refl
          | Some b ↦ λ e.
              let p = inside_parts address packet.protocol packet.inside b.row
              (passes (is_of_source address packet) list b e) in
              let at : find (λ z. has_number address packet.protocol b.row.external.number z.row) list ≡ Some b =
              find_same (is_of_source address packet)
              (λ z. has_number address packet.protocol b.row.external.number z.row)
              list b e
              (has_it address packet.protocol b.row.external.number b.row p.protocol_is p.address_is refl)
              (once_number address packet.protocol b.row.external.number list apart) in
              absurd (none b.row.external.number b (sym (shows b.row.external.number) ∙ at) (sym p.inside_is))
        ] refl

-- THE CHOICE OF A NUMBER

-- Where the list has the rows of the stored bindings, the same numbers are free.
pub choice_is : (address : ℕ) (packet : OutboundPacket) (held_ : ℕ → Option Binding) (list : List Binding) →
    ((n : ℕ) → option_map row (find (λ b. has_number address packet.protocol n b.row) list) ≡ option_map row
    (held_ n)) →
    (choosing : NumberAssignment) → choice choosing packet.block list packet.protocol address packet.inside
    ≡ find (λ n. not (is_some (held_ n))) (candidates choosing packet.block packet.protocol packet.inside)
choice_is address packet held_ list rows choosing =
    find_agree (is_free list address packet.protocol) (λ n. not (is_some (held_ n)))
    (λ n. ap not (is_some_any (λ b. has_number address packet.protocol n b.row) list
    ∙ (some_row (find (λ b. has_number address packet.protocol n b.row) list)
    ∙ (ap is_some (rows n) ∙ sym (some_row (held_ n))))))
    (candidates choosing packet.block packet.protocol packet.inside)

module _ (timers : Timers) (address : ℕ) (packet : OutboundPacket) (held_ : ℕ → Option Binding) (list : List Binding)
    (shows : ShowsHeld timers packet.now address packet.protocol held_ list) where
  pub made_shows : (number : ℕ) (binding : Binding) (last : ℕ → Option Binding) →
      ((n : ℕ) → last n ≡ cond (eqb number n) (Some binding) (held_ n)) →
      seen_binding timers packet.now (held_ number) ≡ None →
      seen_binding timers packet.now (Some binding)
      ≡ Some (binding_after_out packet (new_binding address packet number)) →
      ShowsHeld timers packet.now address packet.protocol last
      (list ++ binding_after_out packet (new_binding address packet number) ∷ [])
  made_shows number binding last holds free is n =
      let y : Binding = binding_after_out packet (new_binding address packet number) in
      elim (eqb number n) as (λ v. eqb number n ≡ v →
      find (λ b. has_number address packet.protocol n b.row) (list ++ y ∷ [])
      ≡ seen_binding timers packet.now (last n)) [
        | true ↦ λ t.
            let q : number ≡ n = eqb-true number n t in
            let nothing : find (λ b. has_number address packet.protocol n b.row) list ≡ None =
            shows n ∙ (ap (λ m. seen_binding timers packet.now (held_ m)) (sym q) ∙ free) in
            let has : has_number address packet.protocol n y.row ≡ true =
            has_it address packet.protocol n y.row refl refl q in
            find_pushed (λ b. has_number address packet.protocol n b.row) list y nothing
            ∙ (ap (λ v. cond v (Some y) None) has
            ∙ sym (ap (seen_binding timers packet.now) (holds n ∙ ap (λ v. cond v (Some binding) (held_ n)) t) ∙ is))
        | false ↦ λ t.
            let not_it : has_number address packet.protocol n y.row ≡ false = elim
            (has_number address packet.protocol n y.row) as
            (λ v. has_number address packet.protocol n y.row ≡ v → v ≡ false) [
              | true ↦ λ h. absurd (true≢false (sym (eq-eqb number n (number_of_it address packet.protocol n y.row h))
                  ∙ t))
              | false ↦ λ h. refl
            ] refl in
            find_passed_over (λ b. has_number address packet.protocol n b.row) list y not_it
            ∙ (shows n ∙ ap (seen_binding timers packet.now)
            (sym (holds n ∙ ap (λ v. cond v (Some binding) (held_ n)) t)))
      ] refl

-- THE NEW BINDING

module _ (timers : Timers) (t : AreTimers timers) (address : ℕ) (packet : OutboundPacket) (number : ℕ)
    (flows : List Flow)
    (begun : live_flows timers packet.now packet.protocol flows ≡ change_first (is_flow_of packet.remote)
    (flow_after packet.protocol Outgoing packet.flags packet.now) (with_flow packet.remote packet.now [])) where
  abbrev made : Binding
  made = record (new_binding address packet number) { flows = flows }

  pub made_is : with_live_flows timers packet.now made ≡ binding_after_out packet (new_binding address packet number)
  made_is = ap (λ (fs : List Flow). let b : Binding = record (new_binding address packet number) { flows = fs } in b)
      begun

  pub made_live : is_live timers packet.now made ≡ true
  made_live =
      sym (live_same timers packet.now packet.now (omega arith) made)
      ∙ (ap (λ (b : Binding). is_live timers packet.now b) made_is
      ∙ (sent_fresh timers t packet.remote packet.flags packet.now (new_binding address packet number)
      (no_flows packet.protocol timers packet.now)).live)

  pub made_used : NoneUsedAfter flows packet.now
  made_used = all_used packet.now timers t packet.protocol flows
      (subst (λ (fs : List Flow). NoneUsedAfter fs packet.now) (sym begun)
      (out_used packet.now packet.protocol packet.remote packet.flags [] (All-nil (λ (f : Flow). f.last ≤ packet.now))))

  pub made_seen : seen_binding timers packet.now (Some made)
      ≡ Some (binding_after_out packet (new_binding address packet number))
  made_seen = seen_live timers packet.now made (binding_after_out packet (new_binding address packet number))
      made_live made_is

  -- A stored binding with the row of the new one is renewed.
  module _ (old new : BindingIndexModel) (b : Binding) (row_is : b.row ≡ (new_binding address packet number).row)
      (here : held_at old packet.protocol number ≡ Some b)
      (one : ChangesOne (external_key packet.protocol number) old new)
      (left : held_at new packet.protocol number ≡ Some (record b { last = packet.now; flows = flows })) where
    abbrev pub again : Binding
    again = record b { last = packet.now; flows = flows }

    again_is : again ≡ made
    again_is = λ i. record { row = row_is i; last = packet.now; flows = flows }

    pub again_seen : seen_binding timers packet.now (Some again)
        ≡ Some (binding_after_out packet (new_binding address packet number))
    again_seen = ap (λ (x : Binding). seen_binding timers packet.now (Some x)) again_is ∙ made_seen

    pub again_holds : (k : ExternalNumberKey) → held_binding new k
        ≡ cond (key_eq (external_key packet.protocol number) k)
        (Some again)
        (held_binding old k)
    again_holds k =
        let key : ExternalNumberKey = external_key packet.protocol number in
        by_key key k (λ n. held_binding new n ≡ cond (key_eq key n) (Some again) (held_binding old n))
        (left ∙ sym (at_key key (Some again) (held_binding old key)))
        (λ d. one.others k d ∙ sym (past_key key (Some again) (held_binding old k) k d))

    pub again_due : (entries : List (ℕ × ExternalNumberKey)) → AreDue timers packet.now old entries →
        AreDue timers packet.now new entries
    again_due entries due =
        changed_due timers packet.now old new entries due (external_key packet.protocol number) b again here left
        one.others refl refl (made_used, omega arith)
        (ap (λ (x : Binding). is_live timers packet.now x) again_is ∙ made_live)
        (λ u after lt l. ap (λ (x : Binding). is_live timers u x) again_is
        ∙ (sym (live_same timers packet.now u after made) ∙ (ap (λ (x : Binding). is_live timers u x) made_is
        ∙ sent_lives timers t packet.remote packet.flags packet.now u after (new_binding address packet number)
        (subst (λ (r : Row). u < packet.now + least_timer r.protocol timers * ns_per_second) row_is lt))))

-- The row of a stored binding of the packet's source is that of the new binding.
pub row_again : (timers : Timers) (all : BindingIndexModel) → IsNamed all →
    (packet : OutboundPacket) (number : ℕ) (b : Binding) →
    held_at all packet.protocol number ≡ Some b → b.row.inside ≡ packet.inside →
    seen_binding timers packet.now (Some b) ≡ None → b.row ≡ (new_binding all.address packet number).row
row_again timers all named packet number b here inside unseen =
    let protocol = named.protocol_is (external_key packet.protocol number) b here in
    let external = named.external_is (external_key packet.protocol number) b here in
    let dead : is_live timers packet.now b ≡ false = elim (is_live timers packet.now b) as (λ v.
    cond v (Some (with_live_flows timers packet.now b)) None ≡ None → v ≡ false)
    [ true ↦ λ e. cc | false ↦ λ e. refl ] unseen in
    let fixed : b.row.fixed ≡ false = (or_parts b.row.fixed _ dead).0 in
    λ i. record { protocol = protocol i; inside = inside i; external = external i; fixed = fixed i }

pub none_from : {X : Type 0} (o : Option X) → is_some o ≡ false → o ≡ None
none_from None h = refl
none_from (Some x) h = cc
