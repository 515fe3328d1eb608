-- The rows of the log as CSV (RFC 4180, but with only a line feed at the end of a line), in the terms of RFC 8158: one
-- for each event, and then one for each binding that is live at the end. No field contains a comma, a quote or the end
-- of a line, so no field is quoted.
use Rattle.std.specs.Prelude.{ℕ, nat_lt, ◌||◌, Bool, true, false, List, [], ◌∷◌, ◌++◌, codes, decimal, Option, Some, None, if◌then◌else◌}
use Rattle.napt_wire.specs.declared.{Cause.{Cause, TheVariants.OverQuota}, Endpoint.Endpoint, Protocol.{Protocol, TheVariants.{Icmp, Tcp, Udp}}}
use Rattle.napt_config.specs.{Rules.{Rules, pair_of}, Text.address_text}
use Rattle.napt_rules.specs.declared.Row.{Row}
use Rattle.napt_account.specs.declared.log.{Entry.Entry, Shortage.Shortage, LogEntry.LogEntry}
use Rattle.napt_log_text.specs.{declared.event.LogEvent.{LogEvent, TheVariants.{Made, Repeated, Ended, Living, Refused}}, Times.TimeText}

abbrev pub row_text : List TimeText → TimeText
row_text [] = codes "\n"
row_text (last ∷ []) = last ++ codes "\n"
row_text (field ∷ (next ∷ more)) = field ++ codes "," ++ row_text (next ∷ more)

-- Returns the fields with a comma after each.
abbrev pub before_more : List TimeText → TimeText
before_more [] = []
before_more (field ∷ []) = field ++ codes ","
before_more (field ∷ (next ∷ more)) = field ++ codes "," ++ before_more (next ∷ more)

-- Returns a number in decimal, or an empty text if there is none.
abbrev pub number_if_any : Option ℕ → TimeText
number_if_any None = []
number_if_any (Some number) = decimal number

-- Returns the natEvent of a shortage (RFC 8158): 12, NAT ports exhausted, or 13, quota exceeded.
abbrev pub shortage_number : Cause → ℕ
shortage_number OverQuota = 13
shortage_number _ = 12

-- Returns the natQuotaExceededEvent of a shortage, if it has one: 3, maximum entries per user (RFC 8158).
abbrev pub quota_text : Cause → TimeText
quota_text OverQuota = codes "3"
quota_text _ = []

-- Returns the protocolIdentifier of a protocol (IANA).
abbrev pub csv_protocol : Protocol → ℕ
csv_protocol Icmp = 1
csv_protocol Tcp = 6
csv_protocol Udp = 17

abbrev pub endpoint_fields : Endpoint → List TimeText
endpoint_fields endpoint = address_text endpoint.address ∷ decimal endpoint.number ∷ []

abbrev pub csv_flag : Bool → TimeText
csv_flag true = codes "1"
csv_flag false = codes "0"

-- Returns the time when a packet last went through a binding, if one did.
abbrev pub last_use : Entry → Option ℕ
last_use entry = if nat_lt 0 entry.sent || nat_lt 0 entry.received then Some entry.last else None

-- Returns the fields of a binding from natEvent on. An end after the run's last packet is not an event.
abbrev pub binding_fields : Option ℕ → Row → List TimeText
binding_fields event binding =
    number_if_any event ∷ decimal (csv_protocol binding.protocol) ∷ endpoint_fields binding.inside
    ++ endpoint_fields binding.external

abbrev pub entry_fields : TimeText → LogEntry → List TimeText
entry_fields note listed =
    decimal listed.number ∷ csv_flag listed.entry.binding.fixed ∷ decimal listed.entry.sent
    ∷ decimal listed.entry.received ∷ number_if_any (last_use listed.entry) ∷ note ∷ []

abbrev pub listed_fields : Option ℕ → TimeText → LogEntry → List TimeText
listed_fields event note listed = binding_fields event listed.entry.binding ++ [] ∷ entry_fields note listed

-- Returns the fields of a packet that got no binding: its host has an external address, but no number there.
abbrev pub refusal_fields : Shortage → List TimeText
refusal_fields shortage =
    decimal (shortage_number shortage.cause) ∷ decimal (csv_protocol shortage.protocol)
    ∷ address_text shortage.host ∷ [] ∷ []

abbrev pub shortage_fields : ℕ → Shortage → List TimeText
shortage_fields external shortage =
    refusal_fields shortage
    ++ address_text external ∷ [] ∷ quota_text shortage.cause ∷ [] ∷ [] ∷ [] ∷ [] ∷ [] ∷ [] ∷ []

abbrev pub fields : Rules → LogEvent → List TimeText
fields rules (Made listed) = decimal listed.entry.made ∷ listed_fields (Some 8) [] listed
fields rules (Repeated listed) = decimal listed.entry.made ∷ listed_fields (Some 8) (codes "repeated") listed
fields rules (Ended listed) = number_if_any listed.entry.end ∷ listed_fields (Some 9) [] listed
fields rules (Living listed) = number_if_any listed.entry.end ∷ listed_fields None [] listed
fields rules (Refused shortage) = decimal shortage.at ∷ shortage_fields (pair_of rules shortage.host) shortage

unfoldable pub csv_row : Rules → LogEvent → TimeText
csv_row rules event = row_text (fields rules event)

-- The first row contains the names of the fields. Names in mixed case are IPFIX information elements (IANA).
abbrev pub names : List TimeText
names =
    codes "observationTimeNanoseconds" ∷ codes "natEvent" ∷ codes "protocolIdentifier"
    ∷ codes "sourceIPv4Address" ∷ codes "sourceTransportPort" ∷ codes "postNATSourceIPv4Address"
    ∷ codes "postNAPTSourceTransportPort" ∷ codes "natQuotaExceededEvent" ∷ codes "binding" ∷ codes "redirect"
    ∷ codes "packets_out" ∷ codes "packets_in" ∷ codes "flowEndNanoseconds" ∷ codes "note" ∷ []

abbrev pub csv_header : TimeText
csv_header = row_text names

-- The names of the version before, in which times are there twice, the second time as dates.
abbrev pub earlier_names : List TimeText
earlier_names =
    codes "observationTimeNanoseconds" ∷ codes "time" ∷ codes "natEvent" ∷ codes "protocolIdentifier"
    ∷ codes "sourceIPv4Address" ∷ codes "sourceTransportPort" ∷ codes "postNATSourceIPv4Address"
    ∷ codes "postNAPTSourceTransportPort" ∷ codes "natQuotaExceededEvent" ∷ codes "binding" ∷ codes "redirect"
    ∷ codes "packets_out" ∷ codes "packets_in" ∷ codes "flowEndNanoseconds" ∷ codes "last_use" ∷ []

abbrev pub earlier_header : TimeText
earlier_header = row_text earlier_names
