-- The number of bindings of each inside host.
use Rattle.std.specs.{Prelude.{ℕ, Bool, Option, Some, None}, Option.is_some}
use Rattle.napt_binding.specs.{declared.address_counts.AddressCounts.AddressCounts, Counts.{count_at, room_of}}
use Rattle.napt_table.specs.declared.host_counts.HostCounts.{HostCounts}

-- Returns whether bindings are counted by host.
abbrev pub are_counted : HostCounts → Bool
are_counted hosts = is_some hosts.counts

abbrev pub count_by : Option AddressCounts → ℕ → ℕ
count_by None host = 0
count_by (Some counts) host = count_at counts host

-- Returns the number of bindings of the host, or 0 if nothing is counted.
abbrev pub count_in : HostCounts → ℕ → ℕ
count_in hosts host = count_by hosts.counts host

-- Returns the number of further hosts that fit without an allocation, or 1 if nothing is counted.
abbrev pub room_by : Option AddressCounts → ℕ
room_by None = 1
room_by (Some counts) = room_of counts

abbrev pub host_room : HostCounts → ℕ
host_room hosts = room_by hosts.counts
