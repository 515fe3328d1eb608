-- texts_join: the texts of a run over captures are those of the runs over their parts, one after the other.
use Rattle.napt_run.proofs.JoinedTexts.{texts_join}
use Rattle.napt_run.proofs.joined_texts.texts_join.Goals as goal

pub returns : goal.returns
returns c = texts_join c.runs_go_on.ensures.clocks c.saved_runs_go_on.ensures.go_on
