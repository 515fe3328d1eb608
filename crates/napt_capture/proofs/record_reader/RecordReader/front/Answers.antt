-- front: the stored fields are those of the record at the front of the bytes read ahead.
use Rattle.napt_capture.proofs.record_reader.RecordReader.front.Goals as goal

pub returns-in-Some-clause-whole : goal.returns-in-Some-clause-whole
returns-in-Some-clause-whole c = c.args.self.now.stands c.in-Some.fields c.in-Some.is
