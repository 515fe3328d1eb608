-- A packet has the same answer on lists that are alike, and the lists after it are alike.
use Rattle.std.proofs.Common.{◌≡◌, ℕ, Bool, true, false, not, ◌&&◌, cond, List, [], ◌∷◌, ◌++◌, map, length, filter, find, Option, Some, None, Result, Ok, Err, refl, sym, ◌∙◌, ap, subst, arith, ok_or}
use Rattle.std.{specs.{List.{Sorted.IsPermutation}, Option.option_map}, proofs.lemmas.{List.{length-map, Sorted.{IsPermutation-refl, length_permutation, list_any-IsPermutation}}, Option.same_Some, Bool.and_parts}}
use Rattle.napt_wire.specs.declared.Protocol.TheVariants as protocols
use Rattle.napt_wire.specs.declared.Kind.TheVariants.{Udp, Tcp, Echo, ErrorOf}
use Rattle.napt_rules.specs.Prelude.{Binding, change_first, has_number, is_of_inside, is_live, with_live_flows, purge, hold_ago, live_and_held, permits, row, counts_for, count_for, reaches_quota, choice, is_free, candidates, assignment_rules, inbound_rules, is_of_source, binding_after_out, OutboundEffect, out_made, held_or_new_number, out_found, step_out, is_of_destination, binding_after_in, is_of_live_destination, live_binding_after_in, InboundEffect, in_found, step_in, no_flags, LegEffect, end_out, end_in, error_out, error_in, outbound_packet, inbound_packet, act_out, act_in, act_by, act, AreBindingsApart, IsSound, AreAlike, Protocol, Way, Outgoing, Incoming, Flags, Kind, kind, Rules, Cause, OverQuota, NoPort, Filtered}
use Rattle.napt_rules.specs.Quota.{assigned_number}
use Rattle.napt_rules.specs.declared.{AssignmentRules.AssignmentRules, InboundRules.InboundRules, OutboundPacket.OutboundPacket, InboundPacket.InboundPacket, Leg.Leg, Row.Row}
use Rattle.napt_config.specs.declared.settings.Timers.{Timers}
use Rattle.napt_laws.proofs.{Lists.find_agree, UniqueSearches.{Once, passes}, SeenElements.{find_seen, purge_taken}, Endpoints.{once_inside, once_number}, StepsSound.purge_stays_sound}
use Rattle.napt_laws.proofs.{Permutations.{filter_moved, find_once}, AlikeLists.{filter_of, any_of_all, find_of, once_of, changed_last, alike_taken, alike_put}}

-- THE ROWS OF A LIST, in any order, determine whether a number is assigned and which

module _ (a b : List Binding) (rows : IsPermutation (map row a) (map row b)) where
  free_same : (address : ℕ) (protocol : Protocol) (n : ℕ) → is_free a address protocol n ≡ is_free b address protocol n
  free_same address protocol n =
      let q : Row → Bool = has_number address protocol n in
      ap not (any_of_all row q a ∙ (list_any-IsPermutation q _ _ rows ∙ sym (any_of_all row q b)))

  count_same : (address host : ℕ) → count_for address host a ≡ count_for address host b
  count_same address host =
      let q : Row → Bool = counts_for address host in
      let long = λ (l : List Binding). sym (length-map (filter (λ b. q b.row) l) row) ∙ ap length (filter_of row q l) in
      long a ∙ (sym (length_permutation _ _ (filter_moved q _ _ rows)) ∙ sym (long b))

  granted_same : (assignment : AssignmentRules) (address : ℕ) (packet : OutboundPacket) →
      assigned_number assignment a address packet
      ≡ assigned_number assignment b address packet
  granted_same assignment address packet =
      ap (λ n. cond (reaches_quota assignment.quota n) (Err OverQuota)
      (ok_or (choice assignment.choosing packet.block a packet.protocol address packet.inside) NoPort))
      (count_same address packet.inside.address)
      ∙ ap (λ (o : Option ℕ). cond (reaches_quota assignment.quota (count_for address packet.inside.address b))
      (Err OverQuota) (ok_or o NoPort))
      (find_agree (is_free a address packet.protocol) (is_free b address packet.protocol)
      (candidates assignment.choosing packet.block packet.protocol packet.inside)
      (free_same address packet.protocol))

  again_by : (assignment : AssignmentRules) (address : ℕ) (packet : OutboundPacket) (x y : Option Binding) →
      option_map row x ≡ option_map row y →
      held_or_new_number assignment a address packet x ≡ held_or_new_number assignment b address packet y
  again_by assignment address packet (Some x) (Some y) e =
      ap (λ (r : Row). let n : Result ℕ Cause = Ok r.external.number in n) (same_Some _ _ e)
  again_by assignment address packet (Some x) None e = cc
  again_by assignment address packet None (Some y) e = cc
  again_by assignment address packet None None e = granted_same assignment address packet

  again_same : AreBindingsApart (map row a) → (assignment : AssignmentRules) (address : ℕ) (packet : OutboundPacket) →
      held_or_new_number assignment a address packet (find (is_of_source address packet) a)
      ≡ held_or_new_number assignment b address packet (find (is_of_source address packet) b)
  again_same apart assignment address packet =
      let q : Row → Bool = is_of_inside address packet.protocol packet.inside in
      again_by assignment address packet (find (is_of_source address packet) a) (find (is_of_source address packet) b)
      (find_of row q a ∙ (find_once q _ _ rows (once_of row q a
      (once_inside address packet.protocol packet.inside a apart)) ∙ sym (find_of row q b)))

-- A STEP

pub record AreOutAlike (timers : Timers) (now : ℕ) (x y : OutboundEffect) : Type 0 where
  pub number : x.number ≡ y.number
  pub through : x.through ≡ y.through
  pub list : AreAlike timers now x.list y.list

pub record AreInAlike (timers : Timers) (now : ℕ) (x y : InboundEffect) : Type 0 where
  pub inside : x.inside ≡ y.inside
  pub through : x.through ≡ y.through
  pub list : AreAlike timers now x.list y.list

-- A visible binding is changed: it is removed, and the changed one is added.
module _ (timers : Timers) (now : ℕ) (q : Row → Bool) (g : Binding → Binding) (binding : Binding) where
  abbrev changed : List Binding → List Binding
  changed = change_first (λ b. q b.row && is_live timers now b) (λ b. g (with_live_flows timers now b))

  last_by : (list : List Binding) → Once (λ b. q b.row) list → (o : Option Binding) →
      find (λ b. q b.row && is_live timers now b) list ≡ o →
      option_map (with_live_flows timers now) o ≡ Some binding →
      IsPermutation (changed list) (filter (λ b. not (q b.row)) list ++ g binding ∷ [])
  last_by list once None is e = cc
  last_by list once (Some x) is e =
      let test : Binding → Bool = λ b. q b.row && is_live timers now b in
      let both = and_parts (q x.row) (is_live timers now x) (passes test list x is) in
      subst (λ (y : Binding). IsPermutation (changed list) (filter (λ b. not (q b.row)) list ++ g y ∷ []))
      (same_Some (with_live_flows timers now x) binding e)
      (changed_last test (λ b. q b.row) (λ b. g (with_live_flows timers now b)) list x is both.0 once)

  seen_last : (list : List Binding) → Once (λ b. q b.row) list →
      find (λ b. q b.row) (purge timers now list) ≡ Some binding →
      IsPermutation (changed list) (filter (λ b. not (q b.row)) list ++ g binding ∷ [])
  seen_last list once e =
      last_by list once _ refl (sym (find_seen (is_live timers now) (λ b. q b.row) (with_live_flows timers now) (λ b.
      refl) list) ∙ e)

  changed_alike : (a b : List Binding) → Once (λ b. q b.row) a → Once (λ b. q b.row) b → AreAlike timers now a b →
      find (λ b. q b.row) (purge timers now a) ≡ Some binding →
      find (λ b. q b.row) (purge timers now b) ≡ Some binding → AreAlike timers now (changed a) (changed b)
  changed_alike a b once_a once_b alike in_a in_b =
      alike_put timers now (λ r. not (q r)) a b alike (g binding) _ _ (seen_last a once_a in_a)
      (seen_last b once_b in_b)

-- A step on the live and held bindings.
module _ (timers : Timers) (a b : List Binding) (one : AreBindingsApart (map row a))
    (other : AreBindingsApart (map row b))
    (rows : IsPermutation (map row a) (map row b)) where
  module _ (assignment : AssignmentRules) (address : ℕ) (packet : OutboundPacket)
      (alike : AreAlike timers packet.now a b) where
    abbrev source : Row → Bool
    source = is_of_inside address packet.protocol packet.inside

    made_alike : (number : Result ℕ Cause) →
        AreOutAlike timers packet.now (out_made a address packet number) (out_made b address packet number)
    made_alike (Err cause) = record { number = refl; through = refl; list = alike }
    made_alike (Ok number) = record {
      number = refl;
      through = refl;
      list = alike_put timers packet.now (λ r. not (source r)) a b alike _ _ _ (IsPermutation-refl _)
          (IsPermutation-refl _);
    }

    out_alike : (o : Option Binding) → find (is_of_source address packet) (purge timers packet.now a) ≡ o →
        find (is_of_source address packet) (purge timers packet.now b) ≡ o → AreOutAlike timers packet.now
        (out_found timers assignment a address packet o) (out_found timers assignment b address packet o)
    out_alike None in_a in_b =
        subst (λ (r : Result ℕ Cause). AreOutAlike timers packet.now
        (out_made a address packet (held_or_new_number assignment a address packet
        (find (is_of_source address packet) a)))
        (out_made b address packet r)) (again_same a b rows one assignment address packet)
        (made_alike (held_or_new_number assignment a address packet (find (is_of_source address packet) a)))
    out_alike (Some binding) in_a in_b = record {
      number = refl;
      through = refl;
      list = changed_alike timers packet.now source (binding_after_out packet) binding a b
          (once_inside address packet.protocol packet.inside a one)
          (once_inside address packet.protocol packet.inside b other) alike in_a in_b;
    }

  module _ (inbound : InboundRules) (address : ℕ) (packet : InboundPacket) (alike : AreAlike timers packet.now a b)
    where
      in_alike : (o : Option Binding) → find (is_of_destination address packet) (purge timers packet.now a) ≡ o →
          find (is_of_destination address packet) (purge timers packet.now b) ≡ o → AreInAlike timers packet.now
          (in_found timers inbound a address packet o) (in_found timers inbound b address packet o)
      in_alike None in_a in_b = record { inside = refl; through = refl; list = alike }
      in_alike (Some binding) in_a in_b =
          let by : Bool → List Binding → InboundEffect = λ v list. cond v
          (record {
            inside = Ok binding.row.inside;
            through = Some (record { binding = binding_after_in inbound packet binding; made = false });
            list = change_first (is_of_live_destination timers address packet)
                (live_binding_after_in timers inbound packet) list;
          })
          (record { inside = Err Filtered; through = None; list = list }) in
          elim (permits inbound binding packet.remote) as (λ v. AreInAlike timers packet.now (by v a) (by v b)) [
            | true ↦ record {
              inside = refl;
              through = refl;
              list = changed_alike timers packet.now (has_number address packet.protocol packet.number)
                  (binding_after_in inbound packet) binding a b
                  (once_number address packet.protocol packet.number a one)
                  (once_number address packet.protocol packet.number b other) alike in_a in_b;
            }
            | false ↦ record { inside = refl; through = refl; list = alike }
          ]

-- A LEG

pub record AreActsAlike (rules : Rules) (now : ℕ) (x y : LegEffect) : Type 0 where
  pub end : x.end ≡ y.end
  pub through : x.through ≡ y.through
  pub list : AreAlike rules.timers now x.list y.list

module _ (rules : Rules) (pair : ℕ → ℕ) (address : ℕ) (leg : Leg) (a b : List Binding) (one : IsSound pair a)
    (other : IsSound pair b) (alike : AreAlike rules.timers leg.now a b) where
  abbrev held_of : List Binding → List Binding
  held_of = live_and_held rules.timers leg.now

  apart_held : (list : List Binding) → IsSound pair list → AreBindingsApart (map row (held_of list))
  apart_held list sound = (purge_stays_sound pair rules.timers (hold_ago rules.timers leg.now) list sound).apart

  -- A live binding is found in both lists.
  seen : (q : Row → Bool) → ((list : List Binding) → AreBindingsApart (map row list) → Once (λ b. q b.row) list) →
      find (λ x. q x.row) (purge rules.timers leg.now a) ≡ find (λ x. q x.row) (purge rules.timers leg.now b)
  seen q once = find_once (λ x. q x.row) _ _ alike.live
      (once _ (purge_stays_sound pair rules.timers leg.now a one).apart)

  seen_held : (q : Row → Bool) → ((list : List Binding) → AreBindingsApart (map row list) → Once (λ b. q b.row) list) →
      find (λ x. q x.row) (purge rules.timers leg.now (held_of b))
      ≡ find (λ x. q x.row) (purge rules.timers leg.now (held_of a))
  seen_held q once =
      ap (find (λ x. q x.row)) (purge_taken rules.timers leg.now b)
      ∙ (sym (seen q once) ∙ ap (find (λ x. q x.row)) (sym (purge_taken rules.timers leg.now a)))

  sent_alike : (protocol : Protocol) (flags : Flags) → AreActsAlike rules leg.now
      (act_out rules address leg a protocol flags) (act_out rules address leg b protocol flags)
  sent_alike protocol flags =
      let packet : OutboundPacket = outbound_packet rules protocol flags leg.now leg.packet in
      let found : Option Binding = find (is_of_source address packet) (purge rules.timers leg.now (held_of a)) in
      let same : find (is_of_source address packet) (purge rules.timers leg.now (held_of b)) ≡ found =
      seen_held (is_of_inside address protocol packet.inside) (once_inside address protocol packet.inside) in
      let out : AreOutAlike rules.timers leg.now
      (step_out rules.timers (assignment_rules rules) address packet a)
      (step_out rules.timers (assignment_rules rules) address packet b) =
      subst (λ (o : Option Binding). AreOutAlike rules.timers leg.now
      (out_found rules.timers (assignment_rules rules) (held_of a) address packet found)
      (out_found rules.timers (assignment_rules rules) (held_of b) address packet o)) (sym same)
      (out_alike rules.timers (held_of a) (held_of b) (apart_held a one) (apart_held b other)
      (alike.held (hold_ago rules.timers leg.now) (omega arith)) (assignment_rules rules) address packet
      (alike_taken rules.timers leg.now a b alike) found refl same) in
      record { end = ap (end_out rules address leg.packet) out.number; through = out.through; list = out.list }

  came_alike : (protocol : Protocol) (flags : Flags) → AreActsAlike rules leg.now
      (act_in rules address leg a protocol flags) (act_in rules address leg b protocol flags)
  came_alike protocol flags =
      let packet : InboundPacket = inbound_packet protocol flags leg.now leg.packet in
      let found : Option Binding = find (is_of_destination address packet) (purge rules.timers leg.now (held_of a)) in
      let same : find (is_of_destination address packet) (purge rules.timers leg.now (held_of b)) ≡ found =
      seen_held (has_number address protocol packet.number) (once_number address protocol packet.number) in
      let came : AreInAlike rules.timers leg.now
      (step_in rules.timers (inbound_rules rules) address packet a)
      (step_in rules.timers (inbound_rules rules) address packet b) =
      subst (λ (o : Option Binding). AreInAlike rules.timers leg.now
      (in_found rules.timers (inbound_rules rules) (held_of a) address packet found)
      (in_found rules.timers (inbound_rules rules) (held_of b) address packet o)) (sym same)
      (in_alike rules.timers (held_of a) (held_of b) (apart_held a one) (apart_held b other)
      (alike.held (hold_ago rules.timers leg.now) (omega arith)) (inbound_rules rules) address packet
      (alike_taken rules.timers leg.now a b alike) found refl same) in
      record { end = ap (end_in leg.packet) came.inside; through = came.through; list = came.list }

  acts_alike_by : (way : Way) (kind : Kind) → AreActsAlike rules leg.now (act_by rules address leg a way kind)
      (act_by rules address leg b way kind)
  acts_alike_by Outgoing Udp = sent_alike protocols.Udp no_flags
  acts_alike_by Outgoing (Tcp flags) = sent_alike protocols.Tcp flags
  acts_alike_by Outgoing Echo = sent_alike protocols.Icmp no_flags
  acts_alike_by Outgoing (ErrorOf inner) = record {
    end = ap (error_out rules leg.packet) (seen (is_of_inside address inner.protocol inner.destination)
        (once_inside address inner.protocol inner.destination));
    through = refl;
    list = alike;
  }
  acts_alike_by Incoming Udp = came_alike protocols.Udp no_flags
  acts_alike_by Incoming (Tcp flags) = came_alike protocols.Tcp flags
  acts_alike_by Incoming Echo = came_alike protocols.Icmp no_flags
  acts_alike_by Incoming (ErrorOf inner) = record {
    end = ap (error_in leg.packet) (seen (has_number address inner.protocol inner.source.number)
        (once_number address inner.protocol inner.source.number));
    through = refl;
    list = alike;
  }

  pub acts_alike : AreActsAlike rules leg.now (act rules address leg a) (act rules address leg b)
  acts_alike = acts_alike_by leg.way (kind leg.packet)
