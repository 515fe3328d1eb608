-- The records that a run writes: the packets of the outcomes to a side, in the order of their inputs, each with the
-- arrival time of its input in ns.
use Rattle.std.specs.Prelude.{ℕ, ◌*◌, ◌<◌, ◌^◌, List, filter_map, zip, Option, Some, None}
use Rattle.napt_wire.specs.declared.Side.{Side, TheVariants.{Inside, Outside}}
use Rattle.napt_capture.specs.{Contents.RecordModel, Text.entry_of_packet}
use Rattle.napt_rules.specs.{declared.Outcome.{Outcome, TheVariants.{ToOutside, ToInside}}, Prelude.Arrival}

-- Returns the packet that an outcome sends to a side, if it sends one.
abbrev pub packet_to : Side → Outcome → Option (List ℕ)
packet_to Outside (ToOutside packet) = Some packet
packet_to Inside (ToInside packet) = Some packet
packet_to side other = None

abbrev pub record_at : ℕ → Option (List ℕ) → Option RecordModel
record_at time (Some packet) = Some (entry_of_packet time packet)
record_at time None = None

abbrev pub records_to : Side → List Arrival → List Outcome → List RecordModel
records_to side arrivals outcomes =
    filter_map (λ pair. record_at pair.0.time (packet_to side pair.1)) (zip arrivals outcomes)

-- The arrival time, in ns, fits the header of a record: its seconds are less than 2^32.
abbrev pub IsTime : ℕ → Type 0
IsTime time = time < 2 ^ 32 * 1000000000

abbrev pub IsTimely : Arrival → Type 0
IsTimely arrival = IsTime arrival.time
