-- captures_can_be_cut: the law is the lemma on cuts.
use Rattle.napt_records.proofs.CutMerges.{can_be_cut}
use Rattle.napt_records.proofs.merge_laws.captures_can_be_cut.Goals as goal

pub returns : goal.returns
returns c = can_be_cut
