-- What becomes of an input before any leg: it is admitted as a packet, or refused with a cause.
use Rattle.std.specs.Prelude.{ℕ, List, Option, Some, None, Result, Ok, Err}
use Rattle.napt_wire.specs.{declared.{Cause.Cause, Side.Side}, Reading.reading}
use Rattle.napt_config.specs.Rules.{Rules}
use Rattle.napt_rules.specs.{Sides.side_refusal, Inputs.Arrival}

-- Returns the packet, or the cause for which its side refuses it.
abbrev pub admission_from : List ℕ → Option Cause → Result (List ℕ) Cause
admission_from packet (Some cause) = Err cause
admission_from packet None = Ok packet

abbrev pub admission_as : Rules → Side → Result (List ℕ) Cause → Result (List ℕ) Cause
admission_as rules side (Err cause) = Err cause
admission_as rules side (Ok packet) = admission_from packet (side_refusal rules side packet)

abbrev pub admission : Rules → Arrival → Result (List ℕ) Cause
admission rules input = admission_as rules input.side (reading input.side input.bytes)
