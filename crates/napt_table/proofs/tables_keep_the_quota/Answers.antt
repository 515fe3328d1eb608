-- `tables_keep_the_quota`: each event keeps the bound on the bindings of a host.
use Rattle.napt_table.proofs.QuotaKept.{played_keeps_quota}
use Rattle.napt_table.proofs.tables_keep_the_quota.Goals as goal

pub returns : goal.returns
returns c = played_keeps_quota
