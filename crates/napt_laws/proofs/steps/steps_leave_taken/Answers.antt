-- `steps_leave_taken`: each binding after a step is live or held.
use Rattle.napt_laws.proofs.StepsLive.{out_leaves_taken, in_leaves_taken}
use Rattle.napt_laws.proofs.steps.steps_leave_taken.Goals as goal

pub returns-clause-outbound : goal.returns-clause-outbound
returns-clause-outbound c = out_leaves_taken

pub returns-clause-inbound : goal.returns-clause-inbound
returns-clause-inbound c = in_leaves_taken
