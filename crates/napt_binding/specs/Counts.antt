-- Counts by address.
use Rattle.std.specs.{Prelude.{◌≡◌, ℕ, nat_eq, unwrap_or, None}, HashMap.{get, spare}}
use Rattle.napt_binding.specs.declared.address_counts.AddressCounts.{AddressCounts}

-- Returns the count of an address, which is 0 if the address has no entry.
abbrev pub count_at : AddressCounts → ℕ → ℕ
count_at addresses address = unwrap_or (get nat_eq addresses.counts address) 0

-- The address has no entry, so that a count for it would take memory.
abbrev pub HasNoEntry : AddressCounts → ℕ → Type 0
HasNoEntry addresses address = get nat_eq addresses.counts address ≡ None

-- Returns the number of further addresses that fit without growth.
abbrev pub room_of : AddressCounts → ℕ
room_of addresses = spare addresses.counts
