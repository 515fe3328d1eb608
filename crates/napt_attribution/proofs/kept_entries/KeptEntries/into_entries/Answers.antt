-- into_entries: the entries that requests ask about are returned in the order of their numbers.
use Rattle.std.proofs.{Common.◌∙◌, lemmas.Result.IfOk-weaker}
use Rattle.napt_attribution.proofs.KeptEntries.{all_asked}
use Rattle.napt_attribution.proofs.kept_entries.KeptEntries.into_entries.Goals as goal

pub returns : goal.returns
returns c = λ asked entries keeps.
    let all = all_asked asked c.args.self.wanted c.args.self.unended c.args.self.ended c.append.new.self entries keeps
    c.append.ensures.other_was_ordered c.in_ok-append.ensures.inserts_all in
    IfOk-weaker c.among.result _ _ (λ found is. is ∙ all) c.among.ensures
