-- insert: the entry is the last of the entries without an end.
use Rattle.napt_attribution.proofs.KeptEntries.{inserted}
use Rattle.napt_attribution.proofs.kept_entries.KeptEntries.insert.Goals as goal

pub returns : goal.returns
returns c = λ asked entries keeps endless rises. inserted asked _ _ _ _ entries _ keeps endless rises
    c.in_ok-insert.ensures.updates.0
