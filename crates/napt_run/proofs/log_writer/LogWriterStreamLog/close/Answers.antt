-- close: the log contains all rows of the run, and the result is the log that is saved with the state.
use Rattle.napt_run.specs.{LogRuns.traces_by, RunningLogs.running_log_of}
use Rattle.napt_run.proofs.LogTextAtEnd.{at_end, closed}
use Rattle.napt_run.proofs.log_writer.LogWriterStreamLog.close.Goals as goal

pub returns-clause-post : goal.returns-clause-post
returns-clause-post g c origin inside outside start opened cuts ready opens all =
    let from = running_log_of origin start in
    let at = at_end origin inside outside start ready opened c.args.self.now opens cuts all
    c.finish.new.self in
    closed origin inside outside start ready opened c.args.self.now opens cuts all c.finish.new.self c.finish.result
    (c.finish.ensures.text from (traces_by origin all.inputs) at)
    (c.finish.ensures.left from (traces_by origin all.inputs) at)
