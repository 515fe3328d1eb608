-- write_record: the bytes of the first write are written, and then the rest.
use Rattle.std.proofs.{Common.{arith}, lemmas.{Grind.common_steps, Bool.Decides.nat_tests, List.take_rest}}
use Rattle.napt_capture.proofs.PutSteps.{puts_more, takes_first}
use Rattle.napt_capture.proofs.capture_writer.CaptureWriter.write_record.Goals as goal

pub returns-clause-puts : goal.returns-clause-puts
returns-clause-puts g c = grind (arith, common_steps, nat_tests, take_rest, takes_first, puts_more)
