-- `runs_keep_the_quota`: after any inputs no host has more bindings than the quota.
use Rattle.napt_laws.proofs.RunsQuota.{runs_keep_quota}
use Rattle.napt_laws.proofs.runs.runs_keep_the_quota.Goals as goal

pub returns : goal.returns
returns c = runs_keep_quota c.no_host_exceeds_its_quota.ensures.inbound
