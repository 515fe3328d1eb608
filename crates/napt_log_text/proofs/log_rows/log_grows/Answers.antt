-- log_grows: the log of more inputs begins with the log of fewer inputs.
use Rattle.napt_log_text.proofs.Logs.{grows}
use Rattle.napt_log_text.proofs.log_rows.log_grows.Goals as goal

pub returns : goal.returns
returns c = grows
