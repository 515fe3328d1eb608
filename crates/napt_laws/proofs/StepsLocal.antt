-- A step at one address, on all bindings and on the bindings of that address alone.
use Rattle.std.proofs.Common.{◌≡◌, ◌≢◌, ℕ, Bool, true, false, not, ◌&&◌, cond, List, [], ◌∷◌, ◌++◌, Option, Some, None, Result, Ok, Err, refl, sym, ◌∙◌, ap, eqb, eq-eqb, append-nil, find}
use Rattle.std.proofs.lemmas.{Bool.{ne_eqb, eqb-true, and_parts, true≢false}, List.Elements.filter-append}
use Rattle.napt_rules.specs.declared.{AssignmentRules.AssignmentRules, InboundRules.InboundRules}
use Rattle.napt_rules.specs.Prelude.{Binding, same_protocol, same_endpoint, is_at, bindings_at, is_live, purge, permits, is_of_source, is_of_live_source, binding_after_out, live_binding_after_out, other_bindings, new_binding, out_made, held_or_new_number, out_found, out_taken, is_of_destination, is_of_live_destination, live_binding_after_in, in_found, in_taken, Cause, Timers}
use Rattle.napt_rules.specs.declared.{Row.Row, OutboundPacket.OutboundPacket, InboundPacket.InboundPacket}
use Rattle.napt_laws.proofs.{Lists.{find_filter, filter_swap, filter_narrow, filter_change, filter_change_other}, Purges.of_purge, StepCases.{in_passed, of_out, of_in}, Quotas.granted_local}

of_push : (address : ℕ) (list : List Binding) (b : Binding) → is_at address b.row ≡ true →
    bindings_at address (list ++ b ∷ [])
    ≡ bindings_at address list ++ b ∷ []
of_push address list b h = filter-append (λ b. is_at address b.row) list (b ∷ [])
    ∙ ap (λ v. bindings_at address list ++ cond v (b ∷ []) []) h

of_push_other : (address : ℕ) (list : List Binding) (b : Binding) → is_at address b.row ≡ false →
    bindings_at address (list ++ b ∷ []) ≡ bindings_at address list
of_push_other address list b h = filter-append (λ b. is_at address b.row) list (b ∷ [])
    ∙ (ap (λ v. bindings_at address list ++ cond v (b ∷ []) []) h ∙ append-nil (bindings_at address list))

-- A search at the address finds the same among its own live bindings.
seen_local : (timers : Timers) (now address : ℕ) (q : Binding → Bool) (list : List Binding) →
    find (λ b. is_at address b.row && q b) (purge timers now (bindings_at address list))
    ≡ find (λ b. is_at address b.row && q b) (purge timers now list)
seen_local timers now address q list =
    ap (find (λ b. is_at address b.row && q b)) (sym (of_purge timers now address list))
    ∙ find_filter (λ b. is_at address b.row) q (purge timers now list)

-- OUTGOING PACKETS

module _ (timers : Timers) (assignment : AssignmentRules) (address : ℕ) (packet : OutboundPacket) where
  abbrev is_its : Binding → Bool
  is_its b = same_protocol packet.protocol b.row.protocol && same_endpoint packet.inside b.row.inside

  is_there : (b : Binding) → is_of_live_source timers address packet b ≡ true → is_at address b.row ≡ true
  is_there b h = (and_parts (is_at address b.row) (is_its b)
      (and_parts (is_of_source address packet b) (is_live timers packet.now b) h).0).0

  others_local : (list : List Binding) → other_bindings address packet (bindings_at address list)
      ≡ bindings_at address (other_bindings address packet list)
  others_local = filter_swap (λ b. not (is_of_source address packet b)) (λ b. is_at address b.row)

  out_made_local : (list : List Binding) (granted : Result ℕ Cause) →
      out_made (bindings_at address list) address packet granted
      ≡ record {
        number = (out_made list address packet granted).number;
        through = (out_made list address packet granted).through;
        list = bindings_at address (out_made list address packet granted).list;
      }
  out_made_local list (Err cause) = refl
  out_made_local list (Ok n) =
      let new : Binding = binding_after_out packet (new_binding address packet n) in
      ap (λ (l : List Binding). record (out_made list address packet (Ok n)) { list = l })
      (ap (λ (l : List Binding). l ++ new ∷ []) (others_local list)
      ∙ sym (of_push address (other_bindings address packet list) new (eq-eqb address address refl)))

  again_local : (list : List Binding) (held : Option Binding) →
      held_or_new_number assignment (bindings_at address list) address packet held
      ≡ held_or_new_number assignment list address packet held
  again_local list (Some held) = refl
  again_local list None = granted_local assignment list address packet

  out_found_local : (list : List Binding) (found : Option Binding) →
      out_found timers assignment (bindings_at address list) address packet found ≡ record {
        number = (out_found timers assignment list address packet found).number;
        through = (out_found timers assignment list address packet found).through;
        list = bindings_at address (out_found timers assignment list address packet found).list;
      }
  out_found_local list (Some b) =
      ap (λ (l : List Binding). record (out_found timers assignment list address packet (Some b)) { list = l })
      (sym (filter_change (λ b. is_at address b.row) (is_of_live_source timers address packet)
      (live_binding_after_out timers packet)
      list is_there (λ b. refl)))
  out_found_local list None =
      ap (λ (held : Option Binding). out_made (bindings_at address list) address packet
      (held_or_new_number assignment (bindings_at address list) address packet held))
      (find_filter (λ b. is_at address b.row) is_its list)
      ∙ (ap (out_made (bindings_at address list) address packet)
      (again_local list (find (is_of_source address packet) list))
      ∙ out_made_local list (held_or_new_number assignment list address packet
      (find (is_of_source address packet) list)))

  -- An outgoing packet depends on the bindings of its address alone.
  pub out_local : (list : List Binding) → out_taken timers assignment address packet (bindings_at address list)
      ≡ record {
        number = (out_taken timers assignment address packet list).number;
        through = (out_taken timers assignment address packet list).through;
        list = bindings_at address (out_taken timers assignment address packet list).list;
      }
  out_local list =
      ap (out_found timers assignment (bindings_at address list) address packet)
      (seen_local timers packet.now address is_its list)
      ∙ out_found_local list (find (is_of_source address packet) (purge timers packet.now list))

  module _ (other : ℕ) (differ : other ≢ address) where
    not_at : (b : Row) → is_at address b ≡ true → is_at other b ≡ false
    not_at b h = ne_eqb b.external.address other (λ e. differ (sym e ∙ eqb-true b.external.address address h))

    not_its : (b : Binding) → is_at other b.row ≡ true → not (is_of_source address packet b) ≡ true
    not_its b h = elim (is_at address b.row) as (λ v. is_at address b.row ≡ v → not (v && is_its b) ≡ true) [
      | true ↦ λ e. absurd (true≢false (sym h ∙ not_at b.row e))
      | false ↦ λ e. refl
    ] refl

    -- An outgoing packet changes no other address's bindings.
    pub out_other : (list : List Binding) →
        bindings_at other (out_taken timers assignment address packet list).list ≡ bindings_at other list
    out_other list =
        of_out (λ (l : List Binding). bindings_at other l ≡ bindings_at other list) timers address list refl assignment
        packet
        (filter_change_other (λ b. is_at other b.row) (is_of_live_source timers address packet)
        (live_binding_after_out timers packet)
        list (λ b h. not_at b.row (is_there b h)) (λ b. refl))
        (λ n none is. of_push_other other (other_bindings address packet list)
        (binding_after_out packet (new_binding address packet n))
        (ne_eqb address other (λ e. differ (sym e)))
        ∙ filter_narrow (λ b. not (is_of_source address packet b)) (λ b. is_at other b.row) list not_its)

-- INCOMING PACKETS

module _ (timers : Timers) (inbound : InboundRules) (address : ℕ) (packet : InboundPacket) where
  abbrev goes_to : Binding → Bool
  goes_to b = same_protocol packet.protocol b.row.protocol && eqb b.row.external.number packet.number

  is_here : (b : Binding) → is_of_live_destination timers address packet b ≡ true → is_at address b.row ≡ true
  is_here b h = (and_parts (is_at address b.row) (goes_to b)
      (and_parts (is_of_destination address packet b) (is_live timers packet.now b) h).0).0

  in_passed_local : (list : List Binding) (b : Binding) (passes : Bool) →
      in_passed timers inbound (bindings_at address list) address packet b passes ≡ record {
        inside = (in_passed timers inbound list address packet b passes).inside;
        through = (in_passed timers inbound list address packet b passes).through;
        list = bindings_at address (in_passed timers inbound list address packet b passes).list;
      }
  in_passed_local list b true =
      ap (λ (l : List Binding). record (in_passed timers inbound list address packet b true) { list = l })
      (sym (filter_change (λ b. is_at address b.row) (is_of_live_destination timers address packet)
      (live_binding_after_in timers inbound packet) list is_here (λ b. refl)))
  in_passed_local list b false = refl

  in_found_local : (list : List Binding) (found : Option Binding) →
      in_found timers inbound (bindings_at address list) address packet found ≡ record {
        inside = (in_found timers inbound list address packet found).inside;
        through = (in_found timers inbound list address packet found).through;
        list = bindings_at address (in_found timers inbound list address packet found).list;
      }
  in_found_local list None = refl
  in_found_local list (Some b) = in_passed_local list b (permits inbound b packet.remote)

  -- An incoming packet depends on the bindings of its address alone.
  pub in_local : (list : List Binding) → in_taken timers inbound address packet (bindings_at address list) ≡ record {
    inside = (in_taken timers inbound address packet list).inside;
    through = (in_taken timers inbound address packet list).through;
    list = bindings_at address (in_taken timers inbound address packet list).list;
  }
  in_local list =
      ap (in_found timers inbound (bindings_at address list) address packet)
      (seen_local timers packet.now address goes_to list)
      ∙ in_found_local list (find (is_of_destination address packet) (purge timers packet.now list))

  -- An incoming packet changes no other address's bindings.
  pub in_other : (other : ℕ) → other ≢ address → (list : List Binding) →
      bindings_at other (in_taken timers inbound address packet list).list ≡ bindings_at other list
  in_other other differ list =
      of_in (λ (l : List Binding). bindings_at other l ≡ bindings_at other list) timers address list refl inbound packet
      (filter_change_other (λ b. is_at other b.row) (is_of_live_destination timers address packet)
      (live_binding_after_in timers inbound packet) list
      (λ b h. ne_eqb b.row.external.address other (λ e.
      differ (sym e ∙ eqb-true b.row.external.address address (is_here b h)))) (λ b. refl))
