-- How addresses, prefixes and transport addresses are written, and which of them a text stands for.
use Rattle.std.specs.Prelude.{◌≡◌, ℕ, ◌-◌, ◌%◌, ◌^◌, ◌==◌, Bool, ◌&&◌, not, if◌then◌else◌, List, [], ◌∷◌, ◌++◌, length, slice_index, codes, decimal, nat_lt, nat_le, Option, Some, None, option_and_then, Result, Ok, IfOk, IfErr}
use Rattle.std.specs.{Int.{w32, to_be_bytes, from_be_bytes}, Char.is_ascii_digit, List.{before_first, after_first, list_all}, Str.Parse.digits_value}
use Rattle.std.specs.Net.{Reader.read_ipv4, Text.ipv4_text}
use Rattle.napt_config.specs.{Prefixes.{PrefixModel, TransportAddressModel}, declared.fault.ConfigFault.ConfigFault}

-- The four bytes of the address in decimal, the highest first, separated by dots.
unfoldable pub address_text : ℕ → List ℕ
address_text address = ipv4_text (to_be_bytes w32 address)

-- An address, a slash and the number of leading bits in decimal.
unfoldable pub prefix_text : PrefixModel → List ℕ
prefix_text network = address_text network.address ++ codes "/" ++ decimal network.bits

-- An address, a colon and the port in decimal.
unfoldable pub transport_address_text : TransportAddressModel → List ℕ
transport_address_text socket = address_text socket.address ++ codes ":" ++ decimal socket.port

-- Returns whether a text has at least one ASCII digit and nothing else, and no 0 before another digit.
abbrev pub is_decimal : List ℕ → Bool
is_decimal text = (nat_lt 0 (length text) && list_all is_ascii_digit text)
    && not (nat_lt 1 (length text) && (slice_index text 0 == 48))

-- The number that a text is in decimal, if it is from `least` to `most`.
unfoldable pub number_of : ℕ → ℕ → List ℕ → Option ℕ
number_of least most text =
    if is_decimal text && (nat_le least (digits_value 10 text) && nat_le (digits_value 10 text) most)
    then Some (digits_value 10 text) else None

-- The four bytes as a number in network order, if no text follows them.
abbrev pub whole_address : List ℕ → List ℕ → Option ℕ
whole_address octets [] = Some (from_be_bytes w32 octets)
whole_address octets (byte ∷ rest) = None

-- The address for which a text stands: the one whose `address_text` it is, or none.
unfoldable pub address_of : List ℕ → Option ℕ
address_of text = option_and_then (λ read. whole_address read.0 read.1) (read_ipv4 text)

-- Whether a byte is '/', and whether it is ':'.
abbrev pub is_slash : ℕ → Bool
is_slash byte = byte == 47

abbrev pub is_colon : ℕ → Bool
is_colon byte = byte == 58

-- The prefix of an address, if the bits past its leading ones are 0.
abbrev pub prefix_at : ℕ → ℕ → Option PrefixModel
prefix_at address bits = if address % 2 ^ (32 - bits) == 0 then Some (record { address = address; bits = bits })
    else None

-- The prefix for which a text stands: the one whose `prefix_text` it is, or none.
unfoldable pub prefix_of_text : List ℕ → Option PrefixModel
prefix_of_text text =
    option_and_then (λ address. option_and_then (prefix_at address) (number_of 0 32 (after_first is_slash text)))
    (address_of (before_first is_slash text))

abbrev pub transport_address_at : ℕ → ℕ → Option TransportAddressModel
transport_address_at address port = Some (record { address = address; port = port })

-- The transport address for which a text stands: the one whose `transport_address_text` it is, or none.
unfoldable pub transport_address_of_text : List ℕ → Option TransportAddressModel
transport_address_of_text text =
    option_and_then (λ address. option_and_then (transport_address_at address)
    (number_of 1 65535 (after_first is_colon text)))
    (address_of (before_first is_colon text))

-- What parsing a text returns: the one value whose spelling is the text, or the fault if there is no such value.
pub record IsReadBack {A : Type 0} (spelling : A → List ℕ) (IsValue : A → Type 0) (fault : ConfigFault) (text : List ℕ)
    (r : Result A ConfigFault) : Type 0 where
  pub spelled : IfOk r (λ x. text ≡ spelling x)
  pub only : (x : A) → IsValue x → text ≡ spelling x → r ≡ Ok x
  pub refused : IfErr r (λ e. e ≡ fault)
