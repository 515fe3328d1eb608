-- The values in a row of the log that is read.
use Rattle.std.specs.{Prelude.{ℕ, ◌<◌, ◌^◌, ◌==◌, Bool, true, false, List, Option, Some, None, IfSome}, List.slice_split}
use Rattle.napt_wire.specs.declared.Endpoint.{Endpoint}
use Rattle.napt_account.specs.declared.log.{LogEntry.LogEntry, Shortage.Shortage}
use Rattle.napt_log_text.specs.declared.{event.LogEvent.{LogEvent, TheVariants.{Made, Repeated, Ended, Living, Refused}}, log_row.LogField.LogField}
use Rattle.napt_log_text.specs.{declared.log_row.{LogField.TheVariants.{Empty, Number}, LogRow.LogRow}, Rows.{csv_protocol, shortage_number}}
use Rattle.napt_log_text.specs.Times.{TimeText}

abbrev pub is_comma : ℕ → Bool
is_comma byte = byte == 44

abbrev pub fields_in : TimeText → List TimeText
fields_in row = slice_split is_comma row

-- A time fits its field, which has 128 bits.
abbrev pub IsTimeField : Option ℕ → Type 0
IsTimeField time = IfSome time (λ ns. ns < 2 ^ 128)

abbrev pub IsEndpointField : Endpoint → Type 0
IsEndpointField endpoint = (endpoint.address < 2 ^ 32) × (endpoint.number < 2 ^ 16)

abbrev pub IsEntryField : LogEntry → Type 0
IsEntryField listed =
    (listed.number < 2 ^ 64) × IsEndpointField listed.entry.binding.inside ×
    IsEndpointField listed.entry.binding.external

abbrev pub IsEvent : LogEvent → Type 0
IsEvent (Made listed) = (listed.entry.made < 2 ^ 64) × IsEntryField listed
IsEvent (Repeated listed) = (listed.entry.made < 2 ^ 64) × IsEntryField listed
IsEvent (Ended listed) = IsTimeField listed.entry.end × IsEntryField listed
IsEvent (Living listed) = IsTimeField listed.entry.end × IsEntryField listed
IsEvent (Refused shortage) = shortage.at < 2 ^ 64

abbrev pub number_field : Option ℕ → LogField
number_field None = Empty
number_field (Some number) = Number number

abbrev pub flag_number : Bool → ℕ
flag_number true = 1
flag_number false = 0

-- Returns the values in the row of a binding, without its counts, its last use and its note.
abbrev pub binding_row : Option ℕ → Option ℕ → LogEntry → LogRow
binding_row time event listed = record {
  time = number_field time;
  event = number_field event;
  protocol = Number (csv_protocol listed.entry.binding.protocol);
  inside = Some listed.entry.binding.inside;
  external = Some listed.entry.binding.external;
  number = Number listed.number;
  redirect = Number (flag_number listed.entry.binding.fixed);
  is_of_gateway = false;
}

-- Returns the values in the row of a packet that got no binding, without its host.
abbrev pub refusal_row : Shortage → LogRow
refusal_row shortage = record {
  time = Number shortage.at;
  event = Number (shortage_number shortage.cause);
  protocol = Number (csv_protocol shortage.protocol);
  inside = None;
  external = None;
  number = Empty;
  redirect = Empty;
  is_of_gateway = false;
}

abbrev pub saved_row : LogEvent → LogRow
saved_row (Made listed) = binding_row (Some listed.entry.made) (Some 8) listed
saved_row (Repeated listed) = binding_row (Some listed.entry.made) (Some 8) listed
saved_row (Ended listed) = binding_row listed.entry.end (Some 9) listed
saved_row (Living listed) = binding_row listed.entry.end None listed
saved_row (Refused shortage) = refusal_row shortage
