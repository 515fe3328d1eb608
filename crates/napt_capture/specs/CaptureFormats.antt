-- The four formats of a capture file: two byte orders and two time units (pcap-savefile(5), "magic number").
use Rattle.std.specs.Prelude.{ℕ, List, Option, Some, None, ◌==◌, if◌then◌else◌}
use Rattle.byteorder.specs.Endian.{big_number, little_number}
use Rattle.napt_capture.specs.declared.capture_format.{NumberOrder.{NumberOrder, TheVariants.{Little, Big}}, FractionUnit.{FractionUnit, TheVariants.{Microsecond, Nanosecond}}}
use Rattle.napt_capture.specs.declared.capture_format.CaptureFormat.{CaptureFormat}

-- The format that the magic shows, which is the first four bytes as a big-endian number, if it is a known one.
abbrev pub format_of_magic : ℕ → Option CaptureFormat
format_of_magic magic =
    if magic == 0xd4c3b2a1 then Some (record { order = Little; unit = Microsecond })
    else (if magic == 0xa1b2c3d4 then Some (record { order = Big; unit = Microsecond })
    else (if magic == 0x4d3cb2a1 then Some (record { order = Little; unit = Nanosecond })
    else (if magic == 0xa1b23c4d then Some (record { order = Big; unit = Nanosecond })
    else None)))

abbrev pub number_by : NumberOrder → ℕ → List ℕ → ℕ
number_by Little n bytes = little_number n bytes
number_by Big n bytes = big_number n bytes

-- The 32-bit number in the first four bytes, in the byte order of the format.
abbrev pub long_number : CaptureFormat → List ℕ → ℕ
long_number s bytes = number_by s.order 4 bytes

-- The 16-bit number in the first two bytes, in the byte order of the format.
abbrev pub short_number : CaptureFormat → List ℕ → ℕ
short_number s bytes = number_by s.order 2 bytes

abbrev pub units_in_second : FractionUnit → ℕ
units_in_second Microsecond = 1000000
units_in_second Nanosecond = 1000000000

-- The number of units of the fraction field in a second.
abbrev pub units_per_second : CaptureFormat → ℕ
units_per_second s = units_in_second s.unit

-- The number of nanoseconds in a unit.
abbrev pub nanoseconds_per_unit : FractionUnit → ℕ
nanoseconds_per_unit Microsecond = 1000
nanoseconds_per_unit Nanosecond = 1
