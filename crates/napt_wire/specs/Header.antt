-- The relation of a `Header` to the bytes of a packet.
use Rattle.std.specs.Prelude.{◌≡◌, ℕ, ◌+◌, ◌≤◌, List, length}
use Rattle.napt_wire.specs.{Fields.{transport_start, form_at}, declared.header.Header.Header}

-- The datagram that begins at `at` has a whole IPv4 header and the first eight bytes of a transport header.
pub record HasHeaders (at : ℕ) (bytes : List ℕ) : Type 0 where
  pub header : at + 20 ≤ transport_start at bytes
  pub transport_start : transport_start at bytes + 8 ≤ length bytes

-- The header describes the datagram that begins at `at`: the headers are there, at these offsets and of this form.
pub record IsHeader (at : ℕ) (header : Header) (bytes : List ℕ) : Type 0 where
  pub room : HasHeaders at bytes
  pub at_is : header.at ≡ at
  pub start_is : header.start ≡ transport_start at bytes
  pub form_is : header.form ≡ form_at at bytes
