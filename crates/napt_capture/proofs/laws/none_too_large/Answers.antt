-- none_too_large: a short file is read whole, and no file ends with `TooLarge` if it is streamed.
use Rattle.napt_capture.proofs.{FileContents.never_large, WholeReading.read_short}
use Rattle.napt_capture.proofs.laws.none_too_large.Goals as goal

pub returns-clause-whole : goal.returns-clause-whole
returns-clause-whole c = read_short

pub returns-clause-never : goal.returns-clause-never
returns-clause-never c = never_large
