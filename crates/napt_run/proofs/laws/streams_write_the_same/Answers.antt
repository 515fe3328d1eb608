-- streams_write_the_same: the laws of outputs and of reports follow from the clauses of both runs.
use Rattle.napt_run.proofs.SameAsCaptures.{outputs_same, reports_same}
use Rattle.napt_run.proofs.laws.streams_write_the_same.Goals as goal

pub returns-clause-outputs : goal.returns-clause-outputs
returns-clause-outputs c = outputs_same

pub returns-clause-report : goal.returns-clause-report
returns-clause-report c = reports_same
