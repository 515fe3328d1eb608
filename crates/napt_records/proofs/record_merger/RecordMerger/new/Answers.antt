-- new: the inputs are the merged list, and their times fit a record's header if those of the records do.
use Rattle.std.proofs.Common.{refl}
use Rattle.napt_records.proofs.MergeSteps.{timely_from}
use Rattle.napt_records.proofs.record_merger.RecordMerger.new.Goals as goal

pub returns-clause-merged : goal.returns-clause-merged
returns-clause-merged c = rw (c.from.ensures.0, c.from-2.ensures.0) refl

pub returns-clause-timely : goal.returns-clause-timely
returns-clause-timely c first second =
    rw (c.from.ensures.0, c.from-2.ensures.0) (timely_from c.args.inside.items c.args.outside.items 0 first second)
