-- Properties of a packet that follow from the checks of reading.
use Rattle.std.proofs.Common.{◌≡◌, ℕ, ◌<◌, ◌≤◌, Bool, true, false, List, [], ◌∷◌, ◌++◌, length, take, drop, Option, Some, None, Ok, arith, refl, sym, ◌∙◌, slice_index, length-drop, length-take-le}
use Rattle.std.{specs.Option.option_or, proofs.{lemmas.{Bool.Decides.nat_tests, Grind.common_steps}, Math.Seq.take-length}}
use Rattle.napt_wire.specs.Prelude.{version, header_length, total_length, transport_start, form_at, refusal, reading, read_unless, datagram, length_checks, header_checks, body_checks, has_bad_transport, IsPacket, HasHeaders, Cause, Side, TransportForm}

-- The checks of two lists give the first list's cause, or else the second's.
refusal-append : (xs ys : List (Bool × Cause)) → refusal (xs ++ ys) ≡ option_or (refusal xs) (refusal ys)
refusal-append [] ys = refl
refusal-append ((true, c) ∷ xs) ys = refl
refusal-append ((false, c) ∷ xs) ys = refusal-append xs ys

-- Each of these checks passed.
abbrev pub AllPass : List (Bool × Cause) → Type 0
AllPass [] = Unit {0}
AllPass (check ∷ checks) = (check.0 ≡ false) × AllPass checks

pub all_pass : (checks : List (Bool × Cause)) → refusal checks ≡ None → AllPass checks
all_pass [] h = tt
all_pass ((true, cause) ∷ checks) h = cc
all_pass ((false, cause) ∷ checks) h = (refl, all_pass checks h)

pub none_refuses : (checks : List (Bool × Cause)) → AllPass checks → refusal checks ≡ None
none_refuses [] h = refl
none_refuses ((b, cause) ∷ checks) h = rw h.0 (none_refuses checks h.1)

-- The result of reading, by the causes of its three lists of checks.
pub reading_by : (side : Side) (bytes : List ℕ) (lengths headers bodies : Option Cause) →
    refusal (length_checks bytes) ≡ lengths → refusal (header_checks (datagram bytes)) ≡ headers →
    refusal (body_checks side (datagram bytes)) ≡ bodies →
    reading side bytes ≡ read_unless (option_or (option_or lengths headers) bodies) (datagram bytes)
unfolding reading
reading_by side bytes lengths headers bodies l h b = grind (arith, common_steps, nat_tests, refusal-append)

none_refused : (lengths headers bodies : Option Cause) (bytes packet : List ℕ) →
    read_unless (option_or (option_or lengths headers) bodies) bytes ≡ Ok packet →
    (lengths ≡ None) × (headers ≡ None) × (bodies ≡ None) × (bytes ≡ packet)
none_refused None None None bytes packet h = (refl, refl, refl, cc)
none_refused None None (Some cause) bytes packet h = cc
none_refused None (Some cause) bodies bytes packet h = cc
none_refused (Some cause) headers bodies bytes packet h = cc

-- The lengths in an IPv4 header that passed its checks.
pub record HasLengths (bytes : List ℕ) : Type 0 where
  pub long : 20 ≤ length bytes
  pub version_is : version 0 bytes ≡ 4
  pub header_long : 20 ≤ header_length 0 bytes
  pub header_fits : header_length 0 bytes ≤ total_length 0 bytes
  pub total_fits : total_length 0 bytes ≤ length bytes

pub lengths_of : (bytes : List ℕ) → refusal (length_checks bytes) ≡ None → HasLengths bytes
lengths_of bytes h = grind (arith, common_steps, nat_tests, all_pass)

pub lengths_pass : (bytes : List ℕ) → HasLengths bytes → refusal (length_checks bytes) ≡ None
lengths_pass bytes has = grind (arith, common_steps, nat_tests, none_refuses)

-- A byte of a prefix is the byte of the whole.
pub slice_index_take : (bytes : List ℕ) (n i : ℕ) → i < n → slice_index (take n bytes) i ≡ slice_index bytes i
slice_index_take bytes n i h = grind (arith, common_steps)

-- The lengths depend only on the first four bytes.
pub lengths_from : (new old : List ℕ) → slice_index new 0 ≡ slice_index old 0 → slice_index new 2 ≡ slice_index old 2 →
    slice_index new 3 ≡ slice_index old 3 →
    total_length 0 old ≤ length new → HasLengths old → HasLengths new
lengths_from new old b0 b2 b3 fits has = grind (arith, common_steps, nat_tests)

-- Cutting off what follows the total length twice is the same as once.
pub datagram_again : (bytes packet : List ℕ) → packet ≡ datagram bytes → HasLengths bytes → HasLengths packet
    × (datagram packet ≡ packet)
datagram_again bytes packet e has =
    grind (arith, common_steps, nat_tests, slice_index_take, length-take-le, lengths_from, take-length)

-- All checks of a packet passed.
pub record Passes (side : Side) (bytes : List ℕ) : Type 0 where
  pub whole : datagram bytes ≡ bytes
  pub lengths : HasLengths bytes
  pub headers : AllPass (header_checks bytes)
  pub bodies : AllPass (body_checks side bytes)

pub passes_of_read : (side : Side) (bytes packet : List ℕ) → reading side bytes ≡ Ok packet → Passes side packet
passes_of_read side bytes packet h =
    let parts = none_refused _ _ _ _ packet (sym (reading_by side bytes _ _ _ refl refl refl) ∙ h) in
    let again = datagram_again bytes packet (sym parts.3) (lengths_of bytes parts.0) in
    record {
      whole = again.1;
      lengths = again.0;
      headers = rw (← parts.3) (all_pass (header_checks (datagram bytes)) parts.1);
      bodies = rw (← parts.3) (all_pass (body_checks side (datagram bytes)) parts.2);
    }

pub reads_of_passes : (side : Side) (bytes : List ℕ) → Passes side bytes → reading side bytes ≡ Ok bytes
reads_of_passes side bytes p = grind (arith, common_steps, nat_tests, reading_by, lengths_pass, none_refuses)

-- The packet that some bytes read as reads as itself.
pub reads_again : (side : Side) (bytes packet : List ℕ) → reading side bytes ≡ Ok packet → reading side packet
    ≡ Ok packet
reads_again side bytes packet h = reads_of_passes side packet (passes_of_read side bytes packet h)

-- A valid transport header has at least eight bytes.
pub long_transport : (form : TransportForm) (payload : List ℕ) → has_bad_transport form payload ≡ false →
    8 ≤ length payload
long_transport form payload h = grind (arith, common_steps, nat_tests)

pub room_of : (side : Side) (bytes : List ℕ) → Passes side bytes → HasHeaders 0 bytes
room_of side bytes p =
    let long = long_transport (form_at 0 bytes) (drop (transport_start 0 bytes) bytes) p.bodies.0 in
    record {
      header = omega (arith, p.lengths.header_long);
      transport_start = omega (arith, long, length-drop (transport_start 0 bytes) bytes);
    }

pub room_of_packet : (bytes : List ℕ) → IsPacket bytes → HasHeaders 0 bytes
room_of_packet bytes (side, h) = room_of side bytes (passes_of_read side bytes bytes h)
