-- A packet after one of its ends was replaced.
use Rattle.std.proofs.{lemmas.{Grind.common_steps, Bool.Decides.nat_tests}, Common.{◌<◌, ◌≡◌, ℕ, ◌+◌, false, not, List, arith, refl, sym, ◌∙◌, ap, true, Ok}}
use Rattle.napt_wire.proofs.Changes.{IsWritten, word-same}
use Rattle.napt_wire.proofs.EndReplacement.{address_same, end-written, end_address, numbers, numbers-written, other, other_clear, there_clear, end-clear}
use Rattle.napt_wire.proofs.ReadingChecks.{Passes, passes_of_read, reads_of_passes, room_of}
use Rattle.napt_wire.proofs.WithEnd.{body_kept, IsPlain, Carries, keeps_header, keeps_body, end_passes, end_form, first_byte, same_start, plain_of, carries_of, ports_of}
use Rattle.napt_wire.proofs.WithInner.{PassesError, KeepsError, passes_error, error_of, error_kept, error-clear, outer_address, quoted-written, carries_inner, inner_room, long-stays}
use Rattle.napt_wire.specs.Prelude.{byte_at, word_at, address, transport_start, form_at, number_place, number_at, end_at, inner_datagram_start, inner_of, inner, protocol_of, source, destination, kind, kind_of, local_of, local_end, CanQuote, CanCarry, is_error, has_zero_port, is_translated_message, is_quotable, reading, with_changes, end_changes, reverted_changes, with_destination, reverted, with_source, HasHeaders, DestinationsAreGiven, kind_with_inner_source, IsErrorGiven, SourcesAreGiven, LocalEndsCarryNumbers, ErrorOf, Side, Outside, Incoming, Outgoing, Endpoint, TransportForm, DatagramEnd, Source, Destination}
use Rattle.napt_wire.specs.declared.transport_form.TransportForm.TheVariants.{Udp, Tcp, Request, Reply, Error}

-- The end of this form has a number.
abbrev pub HasNumber : TransportForm → DatagramEnd → Type 0
HasNumber Udp end = Unit {0}
HasNumber Tcp end = Unit {0}
HasNumber Request Source = Unit {0}
HasNumber Request Destination = ⊥
HasNumber Reply Source = ⊥
HasNumber Reply Destination = Unit {0}
HasNumber Error end = ⊥

-- The number that was written is read back, and that of the other end is unchanged.
numbers_read : (form : TransportForm) (end : DatagramEnd) (start : ℕ) (old new : Endpoint) (bytes after : List ℕ) →
    IsWritten start (numbers form end start old new bytes) bytes after →
    (HasNumber form end → number_at start (number_place form end) after ≡ new.number)
    × (number_at start (number_place form (other end)) after ≡ number_at start (number_place form (other end)) bytes)
numbers_read form end start old new bytes after h = grind (arith, common_steps, nat_tests, word-same, there_clear)

-- Both ends of the datagram at `at` after one of them was replaced, perhaps with other words before it.
module _ (at : ℕ) (end : DatagramEnd) (new : Endpoint) (bytes after : List ℕ) (room : HasHeaders at bytes)
    (form_is : form_at at after ≡ form_at at bytes) (start_is : transport_start at after ≡ transport_start at bytes)
    (w : IsWritten at (end_changes at end new bytes) bytes after) where
  abbrev form : TransportForm
  form = form_at at bytes

  abbrev start : ℕ
  start = transport_start at bytes

  in_numbers : IsWritten start (numbers form end start (end_at at end bytes) new bytes) bytes after
  in_numbers = numbers-written at end new bytes after room w

  -- An end by its address and number, where the form and the start of the transport header are known.
  end_as : (e : DatagramEnd) (x : Endpoint) → address at e after ≡ x.address →
      number_at start (number_place form e) after ≡ x.number → end_at at e after ≡ x
  end_as e x a n = grind (arith, common_steps, nat_tests)

  pub end_read : HasNumber form end → end_at at end after ≡ new
  end_read has = end_as end new (end_address at end new bytes after w.stands)
      ((numbers_read form end start (end_at at end bytes) new bytes after in_numbers).0 has)

  pub other_read : end_at at (other end) after ≡ end_at at (other end) bytes
  other_read = end_as (other end) (end_at at (other end) bytes) (address_same at end new bytes after room w)
      (numbers_read form end start (end_at at end bytes) new bytes after in_numbers).1

-- A PACKET

-- A packet from outside that is not an error has a number at its destination.
pub comes_to : (form : TransportForm) (type : ℕ) → IsPlain form →
    not (is_translated_message Outside form type) ≡ false →
    HasNumber form Destination
comes_to form type h k = grind (arith, common_steps, nat_tests)

pub destinations_are_given : DestinationsAreGiven
unfolding with_destination kind source destination
destinations_are_given packet reads plain end carries =
    let p : Passes Outside packet = passes_of_read Outside packet packet reads in
    let room : HasHeaders 0 packet = room_of Outside packet p in
    let is_plain : IsPlain (form_at 0 packet) = plain_of packet plain in
    let can : Carries (form_at 0 packet) end.number = carries_of packet end.number carries in
    let after : List ℕ = with_changes (end_changes 0 Destination end packet) packet in
    let keeps = keeps_header Outside Destination end packet p can in
    let form_is : form_at 0 after ≡ form_at 0 packet = end_form Outside Destination end packet p can in
    let start_is : transport_start 0 after ≡ transport_start 0 packet = same_start 0 packet after keeps in
    let w = end-written 0 Destination end packet room in
    record {
      reads = reads_of_passes Outside after (end_passes Outside Destination end packet p can is_plain);
      kind_is = ap (λ (f : TransportForm). kind_of f after) form_is
          ∙ (body_kept (form_at 0 packet) packet after is_plain (first_byte 0 packet after keeps)
          (keeps_body Outside Destination end packet p can)).1;
      source_is = other_read 0 Destination end packet after room form_is start_is w;
      destination_is = end_read 0 Destination end packet after room form_is start_is w
          (comes_to (form_at 0 packet) (byte_at (transport_start 0 packet) packet) is_plain p.bodies.1.0);
    }

-- AN ERROR

pub quotes : (form : TransportForm) → not (is_quotable Outside form) ≡ false → HasNumber form Source
quotes form h = grind (arith, common_steps, nat_tests)

module _ (new : Endpoint) (bytes : List ℕ) (p : PassesError Outside bytes)
    (carries : Carries (form_at (inner_datagram_start bytes) bytes) new.number) where
  abbrev begin : ℕ
  begin = inner_datagram_start bytes

  abbrev got : List ℕ
  got = with_changes (reverted_changes Incoming new bytes) bytes

  kept : KeepsError Outside bytes got
  kept = error_kept Outside Incoming new bytes p carries

  within : HasHeaders begin bytes
  within = inner_room Outside begin bytes p.inner_good

  inside : IsWritten begin (end_changes begin Source new bytes) bytes got
  inside = quoted-written Outside Incoming new bytes p

  source_read : end_at begin Source got ≡ new
  source_read = end_read begin Source new bytes got within kept.inner_form kept.inner_start inside
      (quotes (form_at begin bytes) p.inner_good.quoted)

  destination_read : end_at begin Destination got ≡ end_at begin Destination bytes
  destination_read = other_read begin Source new bytes got within kept.inner_form kept.inner_start inside

  inner_is : inner got ≡ record (inner bytes) { source = new }
  unfolding inner
  inner_is = ap (λ (s : ℕ). inner_of (s + 8) got) kept.same_start
      ∙ (λ i. record {
        protocol = protocol_of (kept.inner_form i);
        source = source_read i;
        destination = destination_read i;
      })

  form_got : form_at 0 got ≡ Error
  form_got = kept.same_form ∙ p.form_is

  kind_read : kind got ≡ kind_with_inner_source new (kind bytes)
  unfolding kind
  kind_read = ap (λ (f : TransportForm). kind_of f got) form_got ∙ ap ErrorOf inner_is
      ∙ sym (ap (λ (f : TransportForm). kind_with_inner_source new (kind_of f bytes)) p.form_is)

  outer_source : source got ≡ source bytes
  unfolding source
  outer_source =
      let a : address 0 Source got ≡ address 0 Source bytes = long-stays 12 (reverted_changes Incoming new bytes) bytes
      (error-clear Outside Incoming new bytes p 12 4 (omega arith) (other_clear 0 Destination new.address bytes)) in
      let n : number_at (transport_start 0 got) (number_place (form_at 0 got) Source) got
      ≡ number_at (transport_start 0 bytes) (number_place (form_at 0 bytes) Source) bytes =
      rw (form_got, p.form_is) refl in
      λ i. record { address = a i; number = n i }

  pub is_given : IsErrorGiven bytes got new
  unfolding destination
  is_given = record {
    reads = reads_of_passes Outside got kept.passes;
    kind_is = kind_read;
    source_is = outer_source;
    destination_is = outer_address Outside Incoming new bytes p;
  }

pub sources_are_given : SourcesAreGiven
unfolding reverted
sources_are_given packet reads error end carries =
    let form_is = error_of packet error in
    is_given end packet (passes_error Outside packet (passes_of_read Outside packet packet reads) form_is)
    (carries_inner packet end.number form_is carries)

-- NUMBERS

quoted_carries : (form : TransportForm) (start : ℕ) (bytes : List ℕ) → has_zero_port form start bytes ≡ false →
    CanQuote (protocol_of form) (number_at start (number_place form Source) bytes)
quoted_carries form start bytes h = grind (arith, common_steps, nat_tests)

port_carries : (start : ℕ) (bytes : List ℕ) → has_zero_port Udp start bytes ≡ false → 0 < word_at (start + 2) bytes
port_carries start bytes h = grind (arith, nat_tests, h)

local_carries : (form : TransportForm) (bytes : List ℕ) → Passes Outside bytes → form_at 0 bytes ≡ form →
    CanCarry (kind_of form bytes) (local_of (kind_of form bytes) Incoming bytes).number
unfolding destination inner
local_carries Udp bytes p e = rw e (port_carries (transport_start 0 bytes) bytes (ports_of Outside Udp bytes e
    (rw e at p.bodies.1.1)))
local_carries Tcp bytes p e = rw e (port_carries (transport_start 0 bytes) bytes (ports_of Outside Tcp bytes e
    (rw e at p.bodies.1.1)))
local_carries Request bytes p e = tt
local_carries Reply bytes p e = tt
local_carries Error bytes p e = grind (arith, common_steps, nat_tests, quoted_carries, passes_error)

pub local_ends_carry_numbers : LocalEndsCarryNumbers
unfolding kind local_end
local_ends_carry_numbers packet reads = local_carries (form_at 0 packet) packet
    (passes_of_read Outside packet packet reads) refl

-- THE DESTINATION

pub with_source-destination : (side : Side) (packet : List ℕ) → reading side packet ≡ Ok packet → (source : Endpoint) →
    (destination (with_source source packet)).address ≡ (destination packet).address
unfolding destination with_source
with_source-destination side packet reads source =
    long-stays 16 (end_changes 0 Source source packet) packet
    (end-clear 0 16 4 Source source packet (room_of side packet (passes_of_read side packet packet reads)) (omega arith)
    (other_clear 0 Source source.address packet))

pub reverted-destination : (side : Side) (packet : List ℕ) → reading side packet ≡ Ok packet → is_error (kind packet)
    ≡ true → (end : Endpoint) → (destination (reverted Outgoing end packet)).address ≡ (destination packet).address
unfolding destination reverted
reverted-destination side packet reads error end =
    long-stays 16 (reverted_changes Outgoing end packet) packet
    (error-clear side Outgoing end packet (passes_error side packet (passes_of_read side packet packet reads)
    (error_of packet error)) 16 4 (omega arith) (other_clear 0 Source end.address packet))
