-- parts_are_the_log: the law.
use Rattle.napt_account.proofs.WholeLogs.{parts_are_the_log}
use Rattle.napt_account.proofs.log.parts_are_the_log.Goals as goal

pub returns : goal.returns
returns c = parts_are_the_log
