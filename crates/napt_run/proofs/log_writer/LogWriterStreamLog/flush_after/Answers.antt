-- flush_after: after a fault the rows of all packets that were translated are written and flushed, if the device
-- accepts them.
use Rattle.napt_run.proofs.LogTextAtEnd.{halted}
use Rattle.napt_run.proofs.log_writer.LogWriterStreamLog.flush_after.Goals as goal

pub returns : goal.returns
returns g c open_gate origin inside outside start opened ready opens logs =
    halted origin inside outside start ready opened c.args.self.now opens open_gate c.args.fault.now
    c.flush_rest.new.self
    logs c.flush_rest.ensures
