-- left: the entries, sorted by number, are the open entries of the log.
use Rattle.std.{proofs.{Common.{List, [], subst, rules}, lemmas.List.Sorted.answers_always}, specs.List.Sorted.IsPermutation}
use Rattle.napt_account.{specs.declared.log.LogEntry.LogEntry, proofs.EndOrder.left_is}
use Rattle.napt_account.proofs.open_entries.OpenEntries.to_open_log.Goals as goal

pub returns : goal.returns
returns c now most log shows =
    let entries = left_is now most log c.args.self.now shows c.copied.ensures.unique
    c.sort_unstable_by_key.new.self.items
    (subst (λ (xs : List LogEntry). IsPermutation xs c.sort_unstable_by_key.new.self.items)
    c.in_ok-entries.ensures.kept c.sort_unstable_by_key.ensures.permutation)
    (c.sort_unstable_by_key.ensures.sorted (λ (l : LogEntry). l.number)
    (answers_always _ _ _ (λ f a r next called. search rules))) in
    λ i. record { made = shows.made i; entries = entries i; shortages = [] }
