-- `no_host_exceeds_its_quota`: after neither a purge nor a packet does a host exceed its quota.
use Rattle.napt_laws.proofs.StepsQuota.{purge_keeps_quota, out_keeps_quota, in_keeps_quota}
use Rattle.napt_laws.proofs.steps.no_host_exceeds_its_quota.Goals as goal

pub returns-clause-purge : goal.returns-clause-purge
returns-clause-purge c = purge_keeps_quota

pub returns-clause-outbound : goal.returns-clause-outbound
returns-clause-outbound c = out_keeps_quota

pub returns-clause-inbound : goal.returns-clause-inbound
returns-clause-inbound c = in_keeps_quota
