-- read_more: the bytes of the read follow those read before.
use Rattle.std.proofs.{lemmas.{Grind.common_steps}, Common.{slice_range, arith, length-take-le}}
use Rattle.std.proofs.lemmas.List.{with_items_is}
use Rattle.napt_capture.proofs.Buffer.{slice_range-read}
use Rattle.napt_capture.proofs.read_ahead.ReadAhead.read_more.Goals as goal

pub returns-clause-bytes : goal.returns-clause-bytes
returns-clause-bytes g c =
    grind (arith, common_steps, length-take-le, with_items_is, slice_range-read, slice_range)
