-- header: the stored offset and body describe the packet's own headers.
use Rattle.std.proofs.{Common.{arith, ◌≡◌, ℕ, List}, lemmas.{Grind.common_steps, Bool.Decides.nat_tests}}
use Rattle.napt_wire.{specs.Prelude.{body_of, form_of, TransportForm}, proofs.ReadingChecks.room_of_packet}
use Rattle.napt_wire.proofs.packet.Packet.header.Goals as goal

form_of-body_of : (form : TransportForm) (bytes : List ℕ) → form_of (body_of form bytes) ≡ form
form_of-body_of form bytes = grind (arith, common_steps, nat_tests)

pub returns : goal.returns
returns c = grind (arith, common_steps, nat_tests, room_of_packet, form_of-body_of)
