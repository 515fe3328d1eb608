-- `steps_are_local`: a step at one address depends on, and changes, only the bindings of that address.
use Rattle.napt_laws.proofs.{Purges.{of_purge, purge_purge}, StepsLocal.{out_local, out_other, in_local, in_other}}
use Rattle.napt_laws.proofs.steps.steps_are_local.Goals as goal

pub returns-clause-purge : goal.returns-clause-purge
returns-clause-purge c = of_purge

pub returns-clause-later : goal.returns-clause-later
returns-clause-later c = purge_purge

pub returns-clause-outbound : goal.returns-clause-outbound
returns-clause-outbound c = out_local

pub returns-clause-outbound_others : goal.returns-clause-outbound_others
returns-clause-outbound_others c = out_other

pub returns-clause-inbound : goal.returns-clause-inbound
returns-clause-inbound c = in_local

pub returns-clause-inbound_others : goal.returns-clause-inbound_others
returns-clause-inbound_others c = in_other
