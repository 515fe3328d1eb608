-- reads_back: the records of a written text are those written, also if it is read whole.
use Rattle.napt_capture.proofs.ReadsBack.{captured_text, read_text}
use Rattle.napt_capture.proofs.laws.reads_back.Goals as goal

pub returns-clause-captured : goal.returns-clause-captured
returns-clause-captured c = captured_text

pub returns-clause-whole : goal.returns-clause-whole
returns-clause-whole c = read_text
