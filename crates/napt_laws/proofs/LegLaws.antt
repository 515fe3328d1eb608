-- The laws of each leg.
use Rattle.std.proofs.Common.{◌≡◌, ℕ, true, max, List, Option, Some, None, Result, Ok, Err, refl, ◌∙◌, ap}
use Rattle.napt_wire.specs.declared.Kind.TheVariants.{Udp, Tcp, Echo, ErrorOf}
use Rattle.napt_rules.specs.Prelude.{Binding, onward_end, outbound_end, end_out, end_in, error_out, error_in, act_by, LocalState, time_after, ErrorsChangeNothing, IsToItsSide, LegsEndAtTheirSide, is_in_or_dropped, InboundStaysInside, Way, Outgoing, Incoming, Cause, Endpoint, Kind, destination, kind, is_error, Rules, pool_place}
use Rattle.napt_rules.specs.declared.Leg.{Leg}

-- ERRORS

module _ (rules : Rules) (address : ℕ) (leg : Leg) (list : List Binding) (at : ℕ) where
  error_keeps : (way : Way) (k : Kind) → is_error k ≡ true →
      (let kept : LocalState = record {
        list = (act_by rules address leg list way k).list;
        at = time_after k at leg.now;
      } in kept ≡ record { list = list; at = at })
  error_keeps Outgoing (ErrorOf inner) h = refl
  error_keeps Incoming (ErrorOf inner) h = refl
  error_keeps way Udp h = cc
  error_keeps way (Tcp flags) h = cc
  error_keeps way Echo h = cc

pub errors_change_nothing : ErrorsChangeNothing
errors_change_nothing rules address leg kept h =
    error_keeps rules address (record leg { now = max leg.now kept.at }) kept.list kept.at leg.way (kind leg.packet) h

-- SIDES

module _ (rules : Rules) where
  onward_side : (packet : List ℕ) (place : Option ℕ) → pool_place rules (destination packet).address ≡ place →
      IsToItsSide rules (onward_end place packet)
  onward_side packet None h = h
  onward_side packet (Some place) h = h

  out_side : (packet : List ℕ) → IsToItsSide rules (outbound_end rules packet)
  out_side packet = onward_side packet (pool_place rules (destination packet).address) refl

  sent_side : (address : ℕ) (packet : List ℕ) (number : Result ℕ Cause) →
      IsToItsSide rules (end_out rules address packet number)
  sent_side address packet (Ok number) = out_side _
  sent_side address packet (Err cause) = tt

  error_side : (packet : List ℕ) (found : Option Binding) → IsToItsSide rules (error_out rules packet found)
  error_side packet (Some binding) = out_side _
  error_side packet None = tt

  came_side : (packet : List ℕ) (inside : Result Endpoint Cause) → IsToItsSide rules (end_in packet inside)
  came_side packet (Ok inside) = tt
  came_side packet (Err cause) = tt

  error_came_side : (packet : List ℕ) (found : Option Binding) → IsToItsSide rules (error_in packet found)
  error_came_side packet (Some binding) = tt
  error_came_side packet None = tt

  leg_side : (address : ℕ) (leg : Leg) (list : List Binding) (way : Way) (k : Kind) →
      IsToItsSide rules (act_by rules address leg list way k).end
  leg_side address leg list Outgoing Udp = sent_side _ _ _
  leg_side address leg list Outgoing (Tcp flags) = sent_side _ _ _
  leg_side address leg list Outgoing Echo = sent_side _ _ _
  leg_side address leg list Outgoing (ErrorOf inner) = error_side _ _
  leg_side address leg list Incoming Udp = came_side _ _
  leg_side address leg list Incoming (Tcp flags) = came_side _ _
  leg_side address leg list Incoming Echo = came_side _ _
  leg_side address leg list Incoming (ErrorOf inner) = error_came_side _ _

pub legs_end_at_their_side : LegsEndAtTheirSide
legs_end_at_their_side rules address leg kept =
    leg_side rules address (record leg { now = max leg.now kept.at }) kept.list leg.way (kind leg.packet)

-- INCOMING LEGS

came_in : (packet : List ℕ) (inside : Result Endpoint Cause) → is_in_or_dropped (end_in packet inside) ≡ true
came_in packet (Ok inside) = refl
came_in packet (Err cause) = refl

error_came_in : (packet : List ℕ) (found : Option Binding) → is_in_or_dropped (error_in packet found) ≡ true
error_came_in packet (Some binding) = refl
error_came_in packet None = refl

leg_in : (rules : Rules) (address : ℕ) (leg : Leg) (list : List Binding) (k : Kind) →
    is_in_or_dropped (act_by rules address leg list Incoming k).end ≡ true
leg_in rules address leg list Udp = came_in _ _
leg_in rules address leg list (Tcp flags) = came_in _ _
leg_in rules address leg list Echo = came_in _ _
leg_in rules address leg list (ErrorOf inner) = error_came_in _ _

pub in_stays_in : InboundStaysInside
in_stays_in rules address leg kept way =
    let then : Leg = record leg { now = max leg.now kept.at } in
    ap (λ (w : Way). is_in_or_dropped (act_by rules address then kept.list w (kind leg.packet)).end) way
    ∙ leg_in rules address then kept.list (kind leg.packet)
