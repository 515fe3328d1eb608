-- An outgoing packet ends onward at its destination's place in the pool, and only if it has one.
use Rattle.std.proofs.Common.{◌≡◌, ℕ, true, max, List, Option, Some, None, Result, Ok, Err, refl, sym, ap, subst}
use Rattle.napt_wire.specs.declared.Kind.TheVariants.{Udp, Tcp, Echo, ErrorOf}
use Rattle.napt_rules.specs.Prelude.{Binding, onward_end, outbound_end, end_out, error_out, act_by, IsForeseen, RulesForeseeEnd, Way, Outgoing, Cause, Endpoint, Kind, destination, kind, is_error, with_source, reverted, IsPacket, SourcesLeaveDestinations, ErrorsLeaveDestinations, Rules, pool_place}
use Rattle.napt_rules.specs.declared.{Leg.Leg, End.TheVariants.Dropped}

by_place : (packet : List ℕ) (found : Option ℕ) → IsForeseen found (onward_end found packet)
by_place packet None = tt
by_place packet (Some place) = refl

dropped_is : (found : Option ℕ) (cause : Cause) → IsForeseen found (Dropped cause)
dropped_is None cause = tt
dropped_is (Some place) cause = tt

module _ (rules : Rules) (leg : Leg) (sources : (end : Endpoint) → (destination (with_source end leg.packet)).address
    ≡ (destination leg.packet).address) (errors : is_error (kind leg.packet) ≡ true → (end : Endpoint) →
    (destination (reverted Outgoing end leg.packet)).address ≡ (destination leg.packet).address) where
  gone : (q : List ℕ) → (destination q).address ≡ (destination leg.packet).address →
      IsForeseen (pool_place rules (destination leg.packet).address) (outbound_end rules q)
  gone q same = subst (λ (a : ℕ). IsForeseen (pool_place rules a) (outbound_end rules q)) same
      (by_place q (pool_place rules (destination q).address))

  sent : (address : ℕ) (number : Result ℕ Cause) → IsForeseen (pool_place rules (destination leg.packet).address)
      (end_out rules address leg.packet number)
  sent address (Ok number) = let end : Endpoint = record { address = address; number = number } in
      gone (with_source end leg.packet) (sources end)
  sent address (Err cause) = dropped_is (pool_place rules (destination leg.packet).address) cause

  error_sent : is_error (kind leg.packet) ≡ true → (found : Option Binding) →
      IsForeseen (pool_place rules (destination leg.packet).address) (error_out rules leg.packet found)
  error_sent is (Some binding) = gone (reverted Outgoing binding.row.external leg.packet)
      (errors is binding.row.external)
  error_sent is None = dropped_is (pool_place rules (destination leg.packet).address) _

  leg_sent : (address : ℕ) (list : List Binding) (k : Kind) → kind leg.packet ≡ k →
      IsForeseen (pool_place rules (destination leg.packet).address) (act_by rules address leg list Outgoing k).end
  leg_sent address list Udp is = sent address _
  leg_sent address list (Tcp flags) is = sent address _
  leg_sent address list Echo is = sent address _
  leg_sent address list (ErrorOf inner) is = error_sent (ap is_error is) _

pub foresees : SourcesLeaveDestinations → ErrorsLeaveDestinations → (rules : Rules) (packet : List ℕ) →
    IsPacket packet → RulesForeseeEnd rules packet (pool_place rules (destination packet).address)
foresees packets errors rules packet is address leg kept way same =
    let found : Option ℕ = pool_place rules (destination packet).address in
    let of : List ℕ → Leg = λ q. record leg { now = max leg.now kept.at; packet = q } in
    subst (λ (q : List ℕ). IsForeseen found (act_by rules address (of q) kept.list leg.way (kind q)).end) (sym same)
    (subst (λ (w : Way). IsForeseen found (act_by rules address (of packet) kept.list w (kind packet)).end) (sym way)
    (leg_sent rules (of packet) (packets is.0 packet is.1) (errors is.0 packet is.1) address kept.list (kind packet)
    refl))
