-- The numbers in the rows of a sound list of bindings are numbers of their protocol.
use Rattle.std.proofs.Common.{◌≡◌, ℕ, Bool, true, false, List, Option, Some, None, Result, Ok, Err, refl, eqb-true, find, IfOk, IfSome}
use Rattle.std.{specs.Option.option_map, proofs.lemmas.Bool.and_parts}
use Rattle.napt_rules.specs.declared.{AssignmentRules.AssignmentRules, InboundRules.InboundRules}
use Rattle.napt_rules.specs.Prelude.{Binding, same_protocol, is_of_inside, has_number, purge, permits, is_of_source, held_or_new_number, out_made, out_found, out_taken, is_of_destination, in_found, in_taken, row, Timers, IsNumber, IsPaired, IsSound, IsPortBlock, Protocol, Icmp, Tcp, Udp, Cause, Endpoint}
use Rattle.napt_rules.specs.declared.{OutboundPacket.OutboundPacket, InboundPacket.InboundPacket}
use Rattle.napt_laws.proofs.{StepCases.in_passed, HeldNumbers.each_rows, Lists.find_passes, StepsSound.{granted_apart, purge_stays_sound}}

number_of : (p q : Protocol) (n : ℕ) → same_protocol p q ≡ true → IsNumber q n → IsNumber p n
number_of Icmp q n e h = tt
number_of Tcp Icmp n e h = cc
number_of Tcp Tcp n e h = h
number_of Tcp Udp n e h = cc
number_of Udp Icmp n e h = cc
number_of Udp Tcp n e h = cc
number_of Udp Udp n e h = h

-- FOUND BINDINGS

module _ (pair : ℕ → ℕ) (address : ℕ) (protocol : Protocol) where
  found_number : (number : ℕ) (list : List Binding) → IsSound pair list → (b : Binding) →
      find (λ b. has_number address protocol number b.row) list ≡ Some b → IsNumber protocol b.row.inside.number
  found_number number list s b e =
      let found = find_passes (λ b. has_number address protocol number b.row) (λ b. IsPaired pair (row b)) list b
      (each_rows (IsPaired pair) list s.each) e in
      let tests = and_parts _ _ (and_parts _ _ found.0).1 in
      number_of protocol b.row.protocol b.row.inside.number tests.0 found.1.inside

  found_inside : (inside : Endpoint) (list : List Binding) → IsSound pair list → (b : Binding) →
      find (λ b. is_of_inside address protocol inside b.row) list ≡ Some b → IsNumber protocol b.row.external.number
      × (b.row.external.address ≡ address)
  found_inside inside list s b e =
      let found = find_passes (λ b. is_of_inside address protocol inside b.row) (λ b. IsPaired pair (row b)) list b
      (each_rows (IsPaired pair) list s.each) e in
      let at = and_parts _ _ found.0 in
      let tests = and_parts _ _ at.1 in
      (number_of protocol b.row.protocol b.row.external.number tests.0 found.1.external, eqb-true _ _ at.0)

  -- LOOK-UPS

  number_named : (number : ℕ) (list : List Binding) → IsSound pair list → (found : Option Binding) →
      find (λ b. has_number address protocol number b.row) list ≡ found →
      IfSome (option_map (λ b. b.row.inside) found) (λ inside. IsNumber protocol inside.number)
  number_named number list s None e = tt
  number_named number list s (Some b) e = found_number number list s b e

  pub by_number_named : (number : ℕ) (list : List Binding) → IsSound pair list →
      IfSome (option_map (λ b. b.row.inside) (find (λ b. has_number address protocol number b.row) list)) (λ inside.
      IsNumber protocol inside.number)
  by_number_named number list s = number_named number list s (find (λ b. has_number address protocol number b.row) list)
      refl

  inside_named : (inside : Endpoint) (list : List Binding) → IsSound pair list → (found : Option Binding) →
      find (λ b. is_of_inside address protocol inside b.row) list ≡ found →
      IfSome (option_map (λ b. b.row.external.number) found) (IsNumber protocol) × IfSome found
      (λ b. b.row.external.address
      ≡ address)
  inside_named inside list s None e = (tt, tt)
  inside_named inside list s (Some b) e = found_inside inside list s b e

  pub by_inside_named : (inside : Endpoint) (list : List Binding) → IsSound pair list →
      IfSome (option_map (λ b. b.row.external.number) (find (λ b. is_of_inside address protocol inside b.row) list))
      (IsNumber protocol) × IfSome (find (λ b. is_of_inside address protocol inside b.row) list)
      (λ b. b.row.external.address
      ≡ address)
  by_inside_named inside list s = inside_named inside list s
      (find (λ b. is_of_inside address protocol inside b.row) list) refl

-- STEPS

module _ (pair : ℕ → ℕ) (address : ℕ) where
  module _ (timers : Timers) (inbound : InboundRules) (packet : InboundPacket) (list : List Binding)
      (s : IsSound pair list) where
    entered_named : (b : Binding) (passes : Bool) → IsNumber packet.protocol b.row.inside.number →
        IfOk (in_passed timers inbound list address packet b passes).inside
        (λ inside. IsNumber packet.protocol inside.number)
    entered_named b true h = h
    entered_named b false h = tt

    found_named : (found : Option Binding) → find (is_of_destination address packet) (purge timers packet.now list)
        ≡ found → IfOk (in_found timers inbound list address packet found).inside
        (λ inside. IsNumber packet.protocol inside.number)
    found_named None e = tt
    found_named (Some b) e = entered_named b (permits inbound b packet.remote)
        (found_number pair address packet.protocol packet.number (purge timers packet.now list)
        (purge_stays_sound pair timers packet.now list s) b e)

    pub in_named : IfOk (in_taken timers inbound address packet list).inside (λ inside.
        IsNumber packet.protocol inside.number)
    in_named = found_named (find (is_of_destination address packet) (purge timers packet.now list)) refl

  module _ (timers : Timers) (assignment : AssignmentRules) (packet : OutboundPacket)
      (keeps : IfSome packet.block IsPortBlock)
      (list : List Binding) (s : IsSound pair list) where
    made_named : (number : Result ℕ Cause) →
        held_or_new_number assignment list address packet (find (is_of_source address packet) list) ≡ number →
        IfOk (out_made list address packet number).number (IsNumber packet.protocol)
    made_named (Err cause) e = tt
    made_named (Ok n) e =
        (granted_apart pair assignment address packet keeps list n s (find (is_of_source address packet) list) refl e).0

    left_named : (found : Option Binding) → find (is_of_source address packet) (purge timers packet.now list) ≡ found →
        IfOk (out_found timers assignment list address packet found).number (IsNumber packet.protocol)
    left_named (Some b) e =
        (found_inside pair address packet.protocol packet.inside (purge timers packet.now list)
        (purge_stays_sound pair timers packet.now list s) b e).0
    left_named None e =
        made_named (held_or_new_number assignment list address packet (find (is_of_source address packet) list)) refl

    pub out_named : IfOk (out_taken timers assignment address packet list).number (IsNumber packet.protocol)
    out_named = left_named (find (is_of_source address packet) (purge timers packet.now list)) refl
