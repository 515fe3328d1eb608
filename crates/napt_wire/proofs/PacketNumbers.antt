-- A packet has numbers that its kind can carry, and no more bytes than its length field can express.
use Rattle.std.proofs.{Common.{◌≡◌, ℕ, ◌^◌, ◌<◌, ◌≤◌, false, List, length, take, Ok, arith, refl, sym, ap, subst, slice_index}, lemmas.Bool.Decides.nat_tests}
use Rattle.std.proofs.lemmas.Grind.{common_steps}
use Rattle.napt_wire.specs.Prelude.{total_length, transport_start, form_at, source, kind, kind_of, number_at, number_place, is_error, CanCarry, reading, message_checks, has_zero_port, IsPacket, Side, TransportForm, Source}
use Rattle.napt_wire.proofs.ReadingChecks.{AllPass, passes_of_read}

module _ (side : Side) (bytes : List ℕ) where
  no_zero_port : (form : TransportForm) → has_zero_port (form_at 0 bytes) (transport_start 0 bytes) bytes ≡ false →
      form ≡ form_at 0 bytes → has_zero_port form (transport_start 0 bytes) bytes ≡ false
  no_zero_port form h e = subst (λ (f : TransportForm). has_zero_port f (transport_start 0 bytes) bytes ≡ false)
      (sym e) h

  carried_by : (form : TransportForm) → AllPass (message_checks form side bytes) → form ≡ form_at 0 bytes →
      is_error (kind_of form bytes) ≡ false →
      CanCarry (kind_of form bytes) (number_at (transport_start 0 bytes) (number_place form Source) bytes)
  carried_by form h k g = grind (arith, common_steps, nat_tests, no_zero_port)

  -- UDP and TCP packets do not have source port 0.
  pub source-carried : reading side bytes ≡ Ok bytes → is_error (kind bytes) ≡ false →
      CanCarry (kind bytes) (source bytes).number
  unfolding kind source
  source-carried h plain = carried_by (form_at 0 bytes) (passes_of_read side bytes bytes h).bodies.1.1 refl plain

  pub length-total : reading side bytes ≡ Ok bytes → length bytes ≤ total_length 0 bytes
  length-total h = let passes = passes_of_read side bytes bytes h in
      let long : length (take (total_length 0 bytes) bytes) ≡ length bytes = ap length passes.whole in
      grind (arith, common_steps, long)

pub length-packet : (bytes : List ℕ) → IsPacket bytes → slice_index bytes 2 < 256 → slice_index bytes 3 < 256 →
    length bytes < 2 ^ 16
length-packet bytes (side, h) high low = omega (arith, length-total side bytes h, high, low)
