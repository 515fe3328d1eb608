-- The text of a state: a line for its clock; one for the log of the run, if it had one; one for each binding, with the
-- account of its entry in the log, followed by one for each of its flows; and one with the numbers of these. A line has
-- words with a space between them.
use Rattle.napt_state.specs.StateFiles.{StateFileModel}
use Rattle.std.specs.{Prelude.{◌≡◌, ℕ, ◌^◌, ◌<◌, ◌≤◌, ◌==◌, Bool, true, false, List, [], ◌∷◌, ◌++◌, map, length, flat_map, codes, decimal, Option, Some, None, IfSome}, List.{slice_split, sum_by}}
use Rattle.napt_wire.specs.declared.{Endpoint.Endpoint, Protocol.{Protocol, TheVariants.{Icmp, Tcp, Udp}}}
use Rattle.napt_config.specs.Text.{address_text}
use Rattle.napt_rules.specs.declared.{Flow.Flow, SessionMarks.SessionMarks, Row.Row}
use Rattle.napt_rules.specs.Prelude.{Binding, Each}
use Rattle.napt_account.specs.declared.{account.Account.Account, log.{Entry.Entry, LogEntry.LogEntry}}
use Rattle.napt_state.specs.declared.{saved_bindings.SavedBinding.SavedBinding}
use Rattle.napt_state.specs.declared.line.{LineCounts.LineCounts, LogPosition.LogPosition, StateLine.StateLine}
use Rattle.napt_state.specs.declared.saved_bindings.SavedBinding.TheVariants as bindings
use Rattle.napt_state.specs.declared.line.StateLine.TheVariants as lines

-- LINES

abbrev pub StateTextBytes : Type 0
StateTextBytes = List ℕ

abbrev pub is_space : ℕ → Bool
is_space byte = byte == 32

abbrev pub words_in : StateTextBytes → List StateTextBytes
words_in line = slice_split is_space line

abbrev pub words_text : List StateTextBytes → StateTextBytes
words_text [] = codes "\n"
words_text (last ∷ []) = last ++ codes "\n"
words_text (word ∷ (next ∷ more)) = word ++ codes " " ++ words_text (next ∷ more)

-- Returns the words with a space after each.
abbrev pub spaced : List StateTextBytes → StateTextBytes
spaced all = flat_map (λ word. word ++ codes " ") all

-- WORDS

abbrev pub state_flag : Bool → StateTextBytes
state_flag true = codes "1"
state_flag false = codes "0"

abbrev pub kind_text : Bool → StateTextBytes
kind_text true = codes "redirect"
kind_text false = codes "binding"

-- Returns the word for the end of an entry, in ns. The entry of a redirect has no end.
abbrev pub end_text : Option ℕ → StateTextBytes
end_text (Some end) = decimal end
end_text None = codes "never"

abbrev pub state_protocol_name : Protocol → StateTextBytes
state_protocol_name Icmp = codes "icmp"
state_protocol_name Tcp = codes "tcp"
state_protocol_name Udp = codes "udp"

abbrev pub endpoint_words : Endpoint → List StateTextBytes → List StateTextBytes
endpoint_words endpoint more = address_text endpoint.address ∷ decimal endpoint.number ∷ more

abbrev pub ends_words : Row → List StateTextBytes → List StateTextBytes
ends_words row more =
    state_protocol_name row.protocol ∷ endpoint_words row.inside (endpoint_words row.external more)

abbrev pub row_words : Row → List StateTextBytes → List StateTextBytes
row_words row more = kind_text row.fixed ∷ ends_words row more

abbrev pub account_words : Account → List StateTextBytes
account_words account = decimal account.number ∷ decimal account.made ∷ decimal account.sent ∷ decimal account.received
    ∷ decimal account.last ∷ decimal account.last_sent ∷ []

abbrev pub words_if : Option Account → List StateTextBytes
words_if (Some account) = account_words account
words_if None = []

abbrev pub marks_words : SessionMarks → List StateTextBytes
marks_words marks =
    state_flag marks.syn_out ∷ state_flag marks.syn_in ∷ state_flag marks.fin_out ∷ state_flag marks.fin_in
    ∷ state_flag marks.reset ∷ []

abbrev pub clock_words : ℕ → List StateTextBytes
clock_words clock = codes "clock" ∷ decimal clock ∷ []

abbrev pub binding_words : Row → ℕ → Option Account → List StateTextBytes
binding_words row last account = row_words row (decimal last ∷ words_if account)

abbrev pub held_words : Row → ℕ → List StateTextBytes
held_words row end = codes "held" ∷ ends_words row (decimal end ∷ [])

abbrev pub flow_words : Flow → List StateTextBytes
flow_words flow = codes "flow" ∷ endpoint_words flow.remote (decimal flow.last ∷ marks_words flow.marks)

abbrev pub log_words : LogPosition → List StateTextBytes
log_words log = codes "log" ∷ decimal log.made ∷ decimal log.end.piece ∷ decimal log.end.length ∷ decimal log.end.row ∷
    []

-- Returns the words for a log in the form of earlier versions.
abbrev pub earlier_log_words : ℕ → ℕ → List StateTextBytes
earlier_log_words made length = codes "log" ∷ decimal made ∷ decimal length ∷ []

abbrev pub use_words : Entry → List StateTextBytes
use_words entry = decimal entry.made ∷ end_text entry.end ∷ decimal entry.sent ∷ decimal entry.received
    ∷ decimal entry.last ∷ decimal entry.last_sent ∷ []

abbrev pub entry_words : LogEntry → List StateTextBytes
entry_words listed =
    codes "entry" ∷ decimal listed.number ∷ row_words listed.entry.binding (use_words listed.entry)

abbrev pub count_words : Option ℕ → List StateTextBytes
count_words (Some entries) = decimal entries ∷ []
count_words None = []

abbrev pub end_line_words : LineCounts → List StateTextBytes
end_line_words counts =
    codes "end" ∷ decimal counts.bindings ∷ decimal counts.flows ∷ count_words counts.entries

-- ENTRIES

abbrev pub clock : ℕ → StateLine
clock at = lines.Clock at

abbrev pub log : LogPosition → StateLine
log position = lines.Log position

abbrev pub binding : Row → ℕ → Option Account → StateLine
binding row last account = lines.Binding row last account

abbrev pub held_line : Row → ℕ → StateLine
held_line row end = lines.Held row end

abbrev pub flow : Flow → StateLine
flow one = lines.Flow one

abbrev pub end : LineCounts → StateLine
end counts = lines.End counts

abbrev pub earlier_log : ℕ → ℕ → StateLine
earlier_log made length = lines.EarlierLog made length

abbrev pub entry : LogEntry → StateLine
entry one = lines.EarlierEntry one

abbrev pub split_words : StateLine → List StateTextBytes
split_words (lines.Clock clock) = clock_words clock
split_words (lines.Log position) = log_words position
split_words (lines.Binding row last account) = binding_words row last account
split_words (lines.Flow flow) = flow_words flow
split_words (lines.Held row end) = held_words row end
split_words (lines.End counts) = end_line_words counts
split_words (lines.EarlierLog made length) = earlier_log_words made length
split_words (lines.EarlierEntry listed) = entry_words listed

unfoldable pub line_text : StateLine → StateTextBytes
line_text line = words_text (split_words line)

-- The numbers fit the types of the fields, and those of entries and packets are small enough for a run to start.
abbrev pub IsEndpointWord : Endpoint → Type 0
IsEndpointWord endpoint = (endpoint.address < 2 ^ 32) × (endpoint.number < 2 ^ 16)

abbrev pub IsRowLine : Row → Type 0
IsRowLine row = IsEndpointWord row.inside × IsEndpointWord row.external

abbrev pub IsEndLine : Option ℕ → Type 0
IsEndLine end = IfSome end (λ at. at < 2 ^ 128)

abbrev pub IsEntry : LogEntry → Type 0
IsEntry listed = (listed.number < 2 ^ 64) × IsRowLine listed.entry.binding × (listed.entry.made < 2 ^ 64)
    × IsEndLine listed.entry.end × (listed.entry.sent ≤ 2 ^ 61) × (listed.entry.received ≤ 2 ^ 61)
    × (listed.entry.last < 2 ^ 64) × (listed.entry.last_sent < 2 ^ 64)

abbrev pub HasFewPackets : Account → Type 0
HasFewPackets account = (account.sent ≤ 2 ^ 61) × (account.received ≤ 2 ^ 61)

abbrev pub IsAccount : Account → Type 0
IsAccount account = (account.number < 2 ^ 64) × (account.made < 2 ^ 64) × HasFewPackets account
    × (account.last < 2 ^ 64) × (account.last_sent < 2 ^ 64)

abbrev pub IsCounts : LineCounts → Type 0
IsCounts counts = (counts.bindings < 2 ^ 64) × (counts.flows < 2 ^ 64) × IfSome counts.entries (λ many. many < 2 ^ 64)

abbrev pub IsStateLine : StateLine → Type 0
IsStateLine (lines.Clock clock) = clock < 2 ^ 64
IsStateLine (lines.Log log) =
    (log.made ≤ 2 ^ 61) × (log.end.piece < 2 ^ 64) × (log.end.length < 2 ^ 64) × (log.end.row < 2 ^ 64)
IsStateLine (lines.Binding row last account) = IsRowLine row × (last < 2 ^ 64) × IfSome account IsAccount
IsStateLine (lines.Flow flow) = IsEndpointWord flow.remote × (flow.last < 2 ^ 64)
IsStateLine (lines.Held row end) = (row.fixed ≡ false) × IsRowLine row × (end < 2 ^ 64)
IsStateLine (lines.End counts) = IsCounts counts
IsStateLine (lines.EarlierLog made length) = (made ≤ 2 ^ 61) × (length < 2 ^ 64)
IsStateLine (lines.EarlierEntry listed) = IsEntry listed

-- A STATE

abbrev pub live_lines : Binding → Option Account → List StateLine
live_lines b account = binding b.row b.last account ∷ map flow b.flows

abbrev pub binding_lines : SavedBinding → List StateLine
binding_lines (bindings.Live b account) = live_lines b account
binding_lines (bindings.Ended row end) = held_line row end ∷ []

abbrev pub log_lines : Option LogPosition → List StateLine
log_lines (Some position) = log position ∷ []
log_lines None = []

abbrev pub saved_flows : SavedBinding → List Flow
saved_flows (bindings.Live b account) = b.flows
saved_flows (bindings.Ended row end) = []

abbrev pub flow_count : List SavedBinding → ℕ
flow_count list = sum_by (λ b. length (saved_flows b)) list

abbrev pub counts_of : StateFileModel → LineCounts
counts_of saved =
    record { bindings = length saved.bindings; flows = flow_count saved.bindings; entries = None }

-- Returns all lines except the first and the last.
abbrev pub lines_between : StateFileModel → List StateLine
lines_between saved = log_lines saved.log ++ flat_map binding_lines saved.bindings

abbrev pub saved_lines : StateFileModel → List StateLine
saved_lines saved = clock saved.clock ∷ (lines_between saved ++ end (counts_of saved) ∷ [])

abbrev pub saved_text : StateFileModel → StateTextBytes
saved_text saved = flat_map line_text (saved_lines saved)
