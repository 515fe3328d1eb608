-- add_packet: the text gets the object of a packet.
use Rattle.std.proofs.{Common.{arith, append_assoc}, lemmas.{Grind.common_steps, Bool.Decides.nat_tests}}
use Rattle.napt_log_text.specs.Objects.{packet_object}
use Rattle.napt_log_text.proofs.json_object.add_packet.Goals as goal

pub returns : goal.returns
unfolding packet_object
returns c = grind (arith, common_steps, nat_tests, append_assoc)
