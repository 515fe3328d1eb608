-- The entries of a log that answer a request: who had an external endpoint within a span of time (RFC 6888, section 4).
use Rattle.std.specs.Prelude.{ℕ, nat_lt, nat_le, Bool, true, false, ◌&&◌, Option, Some, None, List, filter, find, fold, if◌then◌else◌}
use Rattle.napt_wire.specs.declared.Protocol.{Protocol}
use Rattle.napt_rules.specs.Prelude.{same_protocol}
use Rattle.napt_account.specs.{Parties.is_meant, declared.log.Entry.Entry}
use Rattle.napt_log_text.specs.declared.request.{Request.Request, TimeSpan.TimeSpan}

-- Returns whether a protocol is the requested one; if none is requested, every protocol is.
abbrev pub holder_is_of : Option Protocol → Protocol → Bool
holder_is_of None protocol = true
holder_is_of (Some wanted) protocol = same_protocol wanted protocol

-- Returns whether the binding of an entry ever had the requested endpoint, or an endpoint of the requested address.
abbrev pub is_asked : Request → Entry → Bool
is_asked request entry =
    holder_is_of request.protocol entry.binding.protocol && is_meant request.party entry.binding.external

-- Returns whether an end is after a time; a binding without an end never ends.
abbrev pub ends_after : ℕ → Option ℕ → Bool
ends_after time None = true
ends_after time (Some end) = nat_lt time end

-- Returns whether a binding, from its making until its end, has a moment in common with a span.
abbrev pub has_moment_of : TimeSpan → Entry → Bool
has_moment_of span entry = nat_lt entry.made span.until && ends_after span.first entry.end

-- Returns whether a binding has a moment in common with the requested span; if none is requested, every binding has.
abbrev pub meets : Option TimeSpan → Entry → Bool
meets None entry = true
meets (Some span) entry = has_moment_of span entry

abbrev pub is_holder : Request → Entry → Bool
is_holder request entry = is_asked request entry && meets request.at entry

abbrev pub holders : Request → List Entry → List Entry
holders request entries = filter (is_holder request) entries

-- NEAREST HOLDERS

abbrev pub ends_by : ℕ → Option ℕ → Bool
ends_by time None = false
ends_by time (Some end) = nat_le end time

-- Returns whether a binding had ended before the span.
abbrev pub is_gone : Option TimeSpan → Entry → Bool
is_gone None entry = false
is_gone (Some span) entry = ends_by span.first entry.end

-- Returns whether a binding was made after the span.
abbrev pub is_to_come : Option TimeSpan → Entry → Bool
is_to_come None entry = false
is_to_come (Some span) entry = nat_le span.until entry.made

abbrev pub is_past : Request → Entry → Bool
is_past request entry = is_asked request entry && is_gone request.at entry

abbrev pub is_next : Request → Entry → Bool
is_next request entry = is_asked request entry && is_to_come request.at entry

-- Returns whether the first of two ends is the later one.
abbrev pub is_later : Option ℕ → Option ℕ → Bool
is_later (Some one) (Some other) = nat_lt other one
is_later _ _ = false

-- Returns the entry that ended later of two ended ones, and the second if both ended at one time.
abbrev pub later_ended : Option Entry → Entry → Entry
later_ended None entry = entry
later_ended (Some found) entry = if is_later found.end entry.end then found else entry

abbrev pub last_so_far : Request → Option Entry → Entry → Option Entry
last_so_far request found entry = if is_past request entry then Some (later_ended found entry) else found

-- Returns the holder that ended last among those that had ended before the span.
abbrev pub last_before : Request → List Entry → Option Entry
last_before request entries = fold (last_so_far request) None entries

-- Returns the first of the holders that were made after the span.
abbrev pub first_after : Request → List Entry → Option Entry
first_after request entries = find (is_next request) entries
