-- The report of a run has a line for each fact: the number of packets and of those with each outcome, the captures that
-- end inside a record, and the bindings (a format of this product).
use Rattle.std.specs.Prelude.{ℕ, Bool, true, false, List, [], ◌∷◌, ◌++◌, length, codes, count_by, decimal, flat_map}
use denote.Enum.Bare.{sameb}
use Rattle.napt_wire.specs.{contracts.Cause.the_type, declared.Cause.Cause}
use Rattle.napt_rules.specs.Prelude.{Truncated, NotIpv4, BadHeader, BadChecksum, Fragment, Unsupported, BadInner, BadPort, Spoofed, NotOurs, NoBinding, Filtered, OverQuota, NoPort, Endpoint, Protocol, Icmp, Tcp, Udp, address_text}
use Rattle.napt_rules.specs.{declared.{Row.Row, Outcome.{Outcome, TheVariants.{ToOutside, ToInside, Dropped}}}, Prelude.RunResult}

abbrev pub ReportText : Type 0
ReportText = List ℕ

-- COUNTS

abbrev pub count_line : ReportText → ℕ → ReportText
count_line name count = name ++ codes " " ++ decimal count ++ codes "\n"

abbrev pub is_to_outside : Outcome → Bool
is_to_outside (ToOutside packet) = true
is_to_outside other = false

abbrev pub is_to_inside : Outcome → Bool
is_to_inside (ToInside packet) = true
is_to_inside other = false

-- The causes, in the order of their lines.
abbrev pub causes : List Cause
causes =
    Truncated ∷ NotIpv4 ∷ BadHeader ∷ BadChecksum ∷ Fragment ∷ Unsupported ∷ BadInner ∷ BadPort ∷ Spoofed ∷ NotOurs
    ∷ NoBinding ∷ Filtered
    ∷ OverQuota ∷ NoPort ∷ []

abbrev pub cause_name : Cause → ReportText
cause_name Truncated = codes "truncated"
cause_name NotIpv4 = codes "not-ipv4"
cause_name BadHeader = codes "bad-header"
cause_name BadChecksum = codes "bad-checksum"
cause_name Fragment = codes "fragment"
cause_name Unsupported = codes "unsupported"
cause_name BadInner = codes "bad-inner"
cause_name BadPort = codes "bad-port"
cause_name Spoofed = codes "spoofed"
cause_name NotOurs = codes "not-ours"
cause_name NoBinding = codes "no-binding"
cause_name Filtered = codes "filtered"
cause_name OverQuota = codes "over-quota"
cause_name NoPort = codes "no-port"

-- Returns whether the outcome is that of a packet dropped for this cause.
abbrev pub is_dropped : Cause → Outcome → Bool
is_dropped cause (Dropped given) = sameb the_type given cause
is_dropped cause other = false

abbrev pub drop_line : List Outcome → Cause → ReportText
drop_line outcomes cause = codes "drop " ++ count_line (cause_name cause) (count_by (is_dropped cause) outcomes)

-- CUTS

abbrev pub cut_line : ReportText → Bool → ReportText
cut_line side true = codes "cut " ++ side ++ codes "\n"
cut_line side false = []

-- BINDINGS

abbrev pub protocol_name : Protocol → ReportText
protocol_name Icmp = codes "icmp"
protocol_name Tcp = codes "tcp"
protocol_name Udp = codes "udp"

-- Returns the address and the number of an endpoint as text, with the number even if it is 0, as in an echo's remote.
abbrev pub endpoint_text : Endpoint → ReportText
endpoint_text endpoint = address_text endpoint.address ++ codes ":" ++ decimal endpoint.number

abbrev pub fixed_text : Bool → ReportText
fixed_text true = codes " fixed"
fixed_text false = []

abbrev pub row_line : Row → ReportText
row_line row =
    protocol_name row.protocol ++ codes " " ++ endpoint_text row.inside ++ codes " " ++ endpoint_text row.external
    ++ fixed_text row.fixed
    ++ codes "\n"

-- THE WHOLE REPORT

abbrev pub counts_text : List Outcome → ReportText
counts_text outcomes =
    count_line (codes "packets") (length outcomes)
    ++ count_line (codes "to outside") (count_by is_to_outside outcomes)
    ++ count_line (codes "to inside") (count_by is_to_inside outcomes)
    ++ flat_map (drop_line outcomes) causes

abbrev pub cuts_text : Bool → Bool → ReportText
cuts_text inside outside = cut_line (codes "inside") inside ++ cut_line (codes "outside") outside

abbrev pub report_of : Bool → Bool → List Outcome → List Row → ReportText
report_of cut_inside cut_outside outcomes bindings =
    counts_text outcomes ++ cuts_text cut_inside cut_outside ++ flat_map row_line bindings

unfoldable pub report_text : Bool → Bool → RunResult → ReportText
report_text cut_inside cut_outside ran = report_of cut_inside cut_outside ran.outcomes ran.bindings
