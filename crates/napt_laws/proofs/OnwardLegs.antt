-- The packets that end onward, and the places to which they go.
use Rattle.std.proofs.Common.{◌≡◌, ℕ, true, List, Option, Some, None, Result, Ok, Err, refl, sym, ◌∙◌, ap, subst}
use Rattle.napt_wire.specs.declared.Kind.TheVariants.{Udp, Tcp, Echo, ErrorOf}
use Rattle.napt_rules.specs.Prelude.{Binding, onward_end, end_out, end_in, error_out, error_in, act_by, act, Way, Outgoing, Incoming, Cause, Endpoint, Kind, destination, kind, is_error, with_source, reverted, Rules, pool_place}
use Rattle.napt_rules.specs.declared.{Leg.Leg, End.TheVariants.Onward}

-- PACKETS THAT END ONWARD

-- A leg ends onward only if it is outgoing, at the place of the packet's destination; P holds of the packet.
abbrev pub OnwardBy : Rules → (List ℕ → Type 0) → Way → ℕ → List ℕ → Type 0
OnwardBy rules P way place packet = (way ≡ Outgoing) × (pool_place rules (destination packet).address ≡ Some place)
    × P packet

-- The same, where P holds of each translated packet.
module _ (rules : Rules) (leg : Leg) (P : List ℕ → Type 0) (sources : (end : Endpoint) → P (with_source end leg.packet))
    (errors : is_error (kind leg.packet) ≡ true → (end : Endpoint) → P (reverted Outgoing end leg.packet)) where
  onward_from : (gone : List ℕ) → P gone → (found : Option ℕ) → pool_place rules (destination gone).address ≡ found →
      (place : ℕ) (packet : List ℕ) → onward_end found gone ≡ Onward place packet →
      OnwardBy rules P Outgoing place packet
  onward_from gone holds None is place packet h = cc
  onward_from gone holds (Some found) is place packet h =
      let same : gone ≡ packet = cc in
      let which : found ≡ place = cc in (
        refl,
        ap (λ (x : List ℕ). pool_place rules (destination x).address) (sym same) ∙ (is ∙ ap Some which),
        subst P same holds,
      )

  onward_out : (address : ℕ) (number : Result ℕ Cause) (place : ℕ) (packet : List ℕ) →
      end_out rules address leg.packet number ≡ Onward place packet → OnwardBy rules P Outgoing place packet
  onward_out address (Ok number) place packet h =
      let end : Endpoint = record { address = address; number = number } in
      onward_from (with_source end leg.packet) (sources end) (pool_place rules
      (destination (with_source end leg.packet)).address) refl place packet h
  onward_out address (Err cause) place packet h = cc

  onward_in : (inside : Result Endpoint Cause) (place : ℕ) (packet : List ℕ) →
      end_in leg.packet inside ≡ Onward place packet → OnwardBy rules P Incoming place packet
  onward_in (Ok end) place packet h = cc
  onward_in (Err cause) place packet h = cc

  onward_error_out : is_error (kind leg.packet) ≡ true → (found : Option Binding) (place : ℕ) (packet : List ℕ) →
      error_out rules leg.packet found ≡ Onward place packet → OnwardBy rules P Outgoing place packet
  onward_error_out is (Some binding) place packet h =
      onward_from (reverted Outgoing binding.row.external leg.packet) (errors is binding.row.external)
      (pool_place rules (destination (reverted Outgoing binding.row.external leg.packet)).address) refl place packet h
  onward_error_out is None place packet h = cc

  onward_error_in : (found : Option Binding) (place : ℕ) (packet : List ℕ) →
      error_in leg.packet found ≡ Onward place packet → OnwardBy rules P Incoming place packet
  onward_error_in (Some binding) place packet h = cc
  onward_error_in None place packet h = cc

  pub onward : (address : ℕ) (list : List Binding) (way : Way) (k : Kind) → kind leg.packet ≡ k →
      (place : ℕ) (packet : List ℕ) → (act_by rules address leg list way k).end ≡ Onward place packet →
      OnwardBy rules P way place packet
  onward address list Outgoing Udp is place packet h = onward_out address _ place packet h
  onward address list Outgoing (Tcp flags) is place packet h = onward_out address _ place packet h
  onward address list Outgoing Echo is place packet h = onward_out address _ place packet h
  onward address list Outgoing (ErrorOf inner) is place packet h = onward_error_out (ap is_error is) _ place packet h
  onward address list Incoming Udp is place packet h = onward_in _ place packet h
  onward address list Incoming (Tcp flags) is place packet h = onward_in _ place packet h
  onward address list Incoming Echo is place packet h = onward_in _ place packet h
  onward address list Incoming (ErrorOf inner) is place packet h = onward_error_in _ place packet h

pub onward_place : (rules : Rules) (address : ℕ) (leg : Leg) (list : List Binding) (place : ℕ) (packet : List ℕ) →
    (act rules address leg list).end ≡ Onward place packet → pool_place rules (destination packet).address ≡ Some place
onward_place rules address leg list place packet h =
    let onward_to : OnwardBy rules (λ q. Unit {0}) leg.way place packet = onward rules leg (λ q. Unit {0})
    (λ end. tt) (λ is end. tt) address list leg.way (kind leg.packet) refl place packet h in
    onward_to.1
