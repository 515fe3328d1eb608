-- A delivered packet, sent again as a reply, is the original packet.
use Rattle.std.proofs.Common.{arith, rules, ◌≡◌, ℕ, Bool, true, cond, List, Some, None, Ok, refl, sym, ◌∙◌, ap, subst, eqb-true, find, unwrap_or}
use Rattle.std.proofs.lemmas.{Grind.common_steps, Bool.{Decides.nat_tests, and_parts}}
use Rattle.napt_rules.specs.Prelude.{Binding, purge, is_of_inside, has_number, by_inside, row, IsNumber, IsPaired, IsSound, PurgeStaysSound, Protocol, Endpoint, Kind, Outside, Incoming, source, kind, local_of, local_end, CanCarry, reading, LastDestinationCounts, LastReversionCounts, DestinationsAreGiven, kind_with_inner_source, SourcesAreGiven, Rules, pair_of, is_inside}
use Rattle.napt_laws.proofs.{Endpoints.{inside_it, has_protocol, number_of_it, once_inside}, UniqueSearches.{passes, find_same}}
use Rattle.napt_follow.specs.{Following.{protocol_by, readdressed, external_of, reply_target, packet_followed}, Laws.DeliveredPacketsFollowBack}
use Rattle.napt_follow.proofs.Replies.{carries, found_has, sent_as, sent_again}

address_of_it : (address : ℕ) (protocol : Protocol) (number : ℕ) (b : Binding) →
    has_number address protocol number b.row
    ≡ true → b.row.external.address ≡ address
address_of_it address protocol number b h = eqb-true _ _ (and_parts _ _ h).0

-- The packet as it is sent, by its kind and the inside endpoint that it names.
abbrev sent_by : Rules → ℕ → List Binding → List ℕ → Kind → Endpoint → List ℕ
sent_by rules now list packet k inside = readdressed k (unwrap_or (reply_target rules now list (protocol_by k) inside)
    (record inside { address = (source packet).address })) packet

same_way : (rules : Rules) (now : ℕ) (list : List Binding) (packet : List ℕ) (k : Kind) (inside : Endpoint) →
    sent_by rules now list packet (kind_with_inner_source inside k) inside ≡ sent_by rules now list packet k inside
same_way rules now list packet k inside = grind (arith, common_steps, nat_tests)

sent_to : (rules : Rules) (now : ℕ) (list : List Binding) (packet : List ℕ) (k : Kind) (inside x : Endpoint) →
    kind packet ≡ kind_with_inner_source inside k →
    local_of (kind_with_inner_source inside k) Incoming packet ≡ inside →
    reply_target rules now list (protocol_by k) inside ≡ Some x →
    packet_followed rules now list packet ≡ readdressed k x packet
unfolding local_end
sent_to rules now list packet k inside x k_is local_is to = grind (arith, common_steps, nat_tests, same_way)

module _ (given : DestinationsAreGiven) (given_error : SourcesAreGiven) (last : LastDestinationCounts)
    (last_error : LastReversionCounts) (rules : Rules) (now : ℕ) (list : List Binding)
    (s : IsSound (pair_of rules) (purge rules.timers now list)) (packet : List ℕ)
    (reads : reading Outside packet ≡ Ok packet) (b : Binding)
    (within : is_inside rules b.row.inside.address ≡ true) (end : Endpoint)
    (at : find (λ b. has_number end.address (protocol_by (kind packet)) end.number b.row) (purge rules.timers now list)
    ≡ Some b) where
  abbrev protocol : Protocol
  protocol = protocol_by (kind packet)

  abbrev lives : List Binding
  lives = purge rules.timers now list

  abbrev home : ℕ
  home = pair_of rules b.row.inside.address

  has : has_number end.address protocol end.number b.row ≡ true
  has = passes (λ b. has_number end.address protocol end.number b.row) lives b at

  paired : IsPaired (pair_of rules) (row b)
  paired = found_has (IsPaired (pair_of rules)) (λ b. has_number end.address protocol end.number b.row) lives b s.each
      at

  protocol_same : protocol ≡ b.row.protocol
  protocol_same = has_protocol end.address protocol end.number b.row has

  external_is : b.row.external ≡ end
  external_is = grind (arith, common_steps, nat_tests, address_of_it, has, number_of_it)

  carried : CanCarry (kind packet) b.row.inside.number
  carried = grind (arith, common_steps, carries, protocol_same, paired)

  target_is : reply_target rules now list protocol b.row.inside ≡ Some b.row.external
  target_is = grind (arith, common_steps, find_same, inside_it, protocol_same, paired, once_inside)

  pub back : packet_followed rules now list (readdressed (kind packet) b.row.inside packet)
      ≡ readdressed (kind packet) end packet
  back =
      let inside : Endpoint = b.row.inside in
      let g = sent_as given given_error packet reads inside carried (kind packet) refl in
      sent_to rules now list (readdressed (kind packet) inside packet) (kind packet) inside b.row.external g.kind_is
      g.local_is target_is
      ∙ sent_again last last_error packet reads (kind packet) refl inside b.row.external carried
      ∙ ap (λ (e : Endpoint). readdressed (kind packet) e packet) external_is

pub delivered_packets_follow_back : DestinationsAreGiven → SourcesAreGiven → LastDestinationCounts →
    LastReversionCounts → PurgeStaysSound → DeliveredPacketsFollowBack
delivered_packets_follow_back given given_error last last_error purge_sound rules now list s packet reads b at within =
    back given given_error last last_error rules now list (purge_sound (pair_of rules) rules.timers now list s) packet
    reads b within (local_end Incoming packet) at
