-- consume: the range of the buffer loses its first `count` bytes.
use Rattle.std.proofs.{lemmas.{Grind.common_steps, Bool.Decides.nat_tests}, Common.{arith, length-take}}
use Rattle.napt_capture.proofs.Buffer.{slice_range-from}
use Rattle.napt_capture.proofs.read_ahead.ReadAhead.consume.Goals as goal

pub returns : goal.returns
returns c = grind (arith, common_steps, nat_tests, length-take, slice_range-from)
