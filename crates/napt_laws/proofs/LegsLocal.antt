-- A leg at one address, on all bindings and on the bindings of that address alone.
use Rattle.std.proofs.Common.{◌≡◌, ◌≢◌, ℕ, ◌≤◌, ◌&&◌, List, refl, sym, ◌∙◌, ap, eqb, find}
use Rattle.napt_wire.specs.declared.Protocol.TheVariants as protocols
use Rattle.napt_wire.specs.declared.Kind.TheVariants.{Udp, Tcp, Echo, ErrorOf}
use Rattle.napt_rules.specs.Prelude.{Binding, same_protocol, same_endpoint, is_at, bindings_at, is_of_inside, has_number, purge, hold_ago, live_and_held, inbound_rules, OutboundEffect, out_taken, step_out, InboundEffect, in_taken, step_in, no_flags, LegEffect, end_out, end_in, error_out, error_in, outbound_packet, inbound_packet, act_out, act_in, act_by, act, Protocol, Way, Outgoing, Incoming, Flags, Kind, kind, Rules, assignment_rules}
use Rattle.napt_rules.specs.declared.{OutboundPacket.OutboundPacket, InboundPacket.InboundPacket, Leg.Leg}
use Rattle.napt_laws.{proofs.{Lists.find_filter, Purges.of_purge, SeenElements.{taken_later, taken_twice, purge_taken}, StepsLocal.{out_local, out_other, in_local, in_other}}, specs.LocalAgreement.LocalListAgrees}
use Rattle.napt_laws.proofs.LegCases.{of_act}

-- The effects of a leg on the two lists agree.
pub record ActsAlike (rules : Rules) (address now : ℕ) (own whole : LegEffect) : Type 0 where
  pub end : own.end ≡ whole.end
  pub through : own.through ≡ whole.through
  pub list : LocalListAgrees rules address now own.list whole.list

-- Lists that have the same live and held bindings agree.
pub agree : (rules : Rules) (address now : ℕ) (own list : List Binding) →
    live_and_held rules.timers now own ≡ live_and_held rules.timers now (bindings_at address list) →
    LocalListAgrees rules address now own list
agree rules address now own list same = record {
  same = sym (purge_taken rules.timers now own) ∙ (ap (purge rules.timers now) same
      ∙ purge_taken rules.timers now (bindings_at address list));
  taken = same;
}

module _ (rules : Rules) (address : ℕ) (leg : Leg) (own list : List Binding)
    (agrees : LocalListAgrees rules address leg.now own list) where
  abbrev ago : ℕ
  ago = hold_ago rules.timers leg.now

  held : live_and_held rules.timers leg.now own ≡ bindings_at address (live_and_held rules.timers leg.now list)
  held = agrees.taken ∙ sym (of_purge rules.timers ago address list)

  same : purge rules.timers leg.now own ≡ bindings_at address (purge rules.timers leg.now list)
  same = agrees.same ∙ sym (of_purge rules.timers leg.now address list)

  alike_out : (protocol : Protocol) (flags : Flags) → ActsAlike rules address leg.now
      (act_out rules address leg own protocol flags) (act_out rules address leg list protocol flags)
  alike_out protocol flags =
      let packet : OutboundPacket = outbound_packet rules protocol flags leg.now leg.packet in
      let whole : OutboundEffect = step_out rules.timers (assignment_rules rules) address packet list in
      let e : step_out rules.timers (assignment_rules rules) address packet own
      ≡ record { number = whole.number; through = whole.through; list = bindings_at address whole.list } =
      ap (out_taken rules.timers (assignment_rules rules) address packet) held
      ∙ out_local rules.timers (assignment_rules rules) address packet (live_and_held rules.timers leg.now list) in
      record {
        end = ap (λ (o : OutboundEffect). end_out rules address leg.packet o.number) e;
        through = ap (λ (o : OutboundEffect). o.through) e;
        list = agree rules address leg.now _ _ (ap (λ (o : OutboundEffect). live_and_held rules.timers leg.now o.list)
            e);
      }

  alike_in : (protocol : Protocol) (flags : Flags) → ActsAlike rules address leg.now
      (act_in rules address leg own protocol flags) (act_in rules address leg list protocol flags)
  alike_in protocol flags =
      let packet : InboundPacket = inbound_packet protocol flags leg.now leg.packet in
      let whole : InboundEffect = step_in rules.timers (inbound_rules rules) address packet list in
      let e : step_in rules.timers (inbound_rules rules) address packet own
      ≡ record { inside = whole.inside; through = whole.through; list = bindings_at address whole.list } =
      ap (in_taken rules.timers (inbound_rules rules) address packet) held
      ∙ in_local rules.timers (inbound_rules rules) address packet (live_and_held rules.timers leg.now list) in
      record {
        end = ap (λ (o : InboundEffect). end_in leg.packet o.inside) e;
        through = ap (λ (o : InboundEffect). o.through) e;
        list = agree rules address leg.now _ _ (ap (λ (o : InboundEffect). live_and_held rules.timers leg.now o.list)
            e);
      }

  alike_by : (way : Way) (kind : Kind) → ActsAlike rules address leg.now (act_by rules address leg own way kind)
      (act_by rules address leg list way kind)
  alike_by Outgoing Udp = alike_out protocols.Udp no_flags
  alike_by Outgoing (Tcp flags) = alike_out protocols.Tcp flags
  alike_by Outgoing Echo = alike_out protocols.Icmp no_flags
  alike_by Incoming Udp = alike_in protocols.Udp no_flags
  alike_by Incoming (Tcp flags) = alike_in protocols.Tcp flags
  alike_by Incoming Echo = alike_in protocols.Icmp no_flags
  alike_by Outgoing (ErrorOf inner) = record {
    end = ap (error_out rules leg.packet)
        (ap (find (λ b. is_of_inside address inner.protocol inner.destination b.row)) same
        ∙ find_filter (λ b. is_at address b.row) (λ b.
        same_protocol inner.protocol b.row.protocol && same_endpoint inner.destination b.row.inside)
        (purge rules.timers leg.now list));
    through = refl;
    list = agrees;
  }
  alike_by Incoming (ErrorOf inner) = record {
    end = ap (error_in leg.packet)
        (ap (find (λ b. has_number address inner.protocol inner.source.number b.row)) same
        ∙ find_filter (λ b. is_at address b.row) (λ b.
        same_protocol inner.protocol b.row.protocol && eqb b.row.external.number inner.source.number)
        (purge rules.timers leg.now list));
    through = refl;
    list = agrees;
  }

-- Lists that agree at a time agree at each later one.
pub agrees_later : (rules : Rules) (address n m : ℕ) → n ≤ m → (own list : List Binding) →
    LocalListAgrees rules address n own list → LocalListAgrees rules address m own list
agrees_later rules address n m le own list agrees =
    let later = taken_later rules.timers n m le in
    agree rules address m own list
    (sym (later own) ∙ (ap (live_and_held rules.timers m) agrees.taken ∙ later (bindings_at address list)))

-- A leg at the address.
pub alike : (rules : Rules) (address n : ℕ) (own list : List Binding) → LocalListAgrees rules address n own list →
    (leg : Leg) →
    n ≤ leg.now → ActsAlike rules address leg.now (act rules address leg own) (act rules address leg list)
alike rules address n own list agrees leg le =
    alike_by rules address leg own list (agrees_later rules address n leg.now le own list agrees) leg.way
    (kind leg.packet)

-- A leg at another address.
module _ (rules : Rules) (address : ℕ) (leg : Leg) (list : List Binding) (other : ℕ) (differ : other ≢ address) where
  abbrev IsKept : LegEffect → Type 0
  IsKept acted = live_and_held rules.timers leg.now (bindings_at other acted.list)
      ≡ live_and_held rules.timers leg.now (bindings_at other list)

  kept_from : (new : List Binding) → bindings_at other new
      ≡ bindings_at other (live_and_held rules.timers leg.now list) →
      live_and_held rules.timers leg.now (bindings_at other new)
      ≡ live_and_held rules.timers leg.now (bindings_at other list)
  kept_from new e =
      ap (live_and_held rules.timers leg.now) (e ∙ of_purge rules.timers (hold_ago rules.timers leg.now) other list)
      ∙ taken_twice rules.timers leg.now (bindings_at other list)

  kept_out : (protocol : Protocol) (flags : Flags) → IsKept (act_out rules address leg list protocol flags)
  kept_out protocol flags = kept_from _ (out_other rules.timers (assignment_rules rules) address
      (outbound_packet rules protocol flags leg.now leg.packet) other differ (live_and_held rules.timers leg.now list))

  kept_in : (protocol : Protocol) (flags : Flags) → IsKept (act_in rules address leg list protocol flags)
  kept_in protocol flags = kept_from _ (in_other rules.timers (inbound_rules rules) address
      (inbound_packet protocol flags leg.now leg.packet) other differ (live_and_held rules.timers leg.now list))

pub kept : (rules : Rules) (address n : ℕ) (own list : List Binding) → LocalListAgrees rules address n own list →
    (at : ℕ) →
    address ≢ at → (leg : Leg) → n ≤ leg.now → LocalListAgrees rules address leg.now own (act rules at leg list).list
kept rules address n own list agrees at differ leg le =
    agree rules address leg.now own (act rules at leg list).list
    ((agrees_later rules address n leg.now le own list agrees).taken
    ∙ sym (of_act rules at leg list (IsKept rules at leg list address differ)
    (kept_out rules at leg list address differ) (kept_in rules at leg list address differ) (λ end. refl) leg.way
    (kind leg.packet)))
