-- sort_by_end: the entries are sorted by end, and equal ends by number.
use Rattle.std.proofs.{Common.rules, lemmas.List.Sorted.answers_always}
use Rattle.napt_account.specs.OpenEntries.{end_key}
use Rattle.napt_account.proofs.open_entries.sort_by_end.Goals as goal

pub returns-clause-sorted : goal.returns-clause-sorted
returns-clause-sorted c =
    c.sort_unstable_by_key.ensures.sorted end_key (answers_always _ _ _ (λ f a r next called. search rules))
