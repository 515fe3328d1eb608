-- new: nothing of the log is written yet, and it is ready for the run.
use Rattle.std.proofs.Common.{refl}
use Rattle.napt_run.proofs.SavedLogStarts.{log_of, ready, texts_taken}
use Rattle.napt_run.proofs.log_writer.LogWriter.new.Goals as goal

pub returns-clause-ready : goal.returns-clause-ready
returns-clause-ready g c = ready c.args.start c.args.log_start c.in_ok-taken.taken c.in_ok-taken.ensures
    c.log_laws.ensures _ refl c.over-output.ensures.sound c.over-output.ensures.written

pub returns-clause-texts : goal.returns-clause-texts
returns-clause-texts g c = texts_taken c.args.start c.args.log_start c.in_ok-taken.taken c.in_ok-taken.ensures

pub returns-clause-log : goal.returns-clause-log
returns-clause-log g c = log_of c.args.start c.args.log_start c.in_ok-taken.taken c.in_ok-taken.ensures
