-- in_order_of_making: sorted by number, the entries are those of the log, whose numbers ascend.
use Rattle.std.proofs.{Common.{rules, map, ◌∙◌, ap}, lemmas.List.Sorted.{answers_always}}
use Rattle.napt_account.{specs.{declared.log.LogEntry.LogEntry, Log.log_of}, proofs.EntryNumbers.{log_rises, sorted_entries}}
use Rattle.napt_account.proofs.log.in_order_of_making.Goals as goal

pub returns : goal.returns
returns c = λ run inputs all.
    let keys = answers_always _ _ _ (λ f a r next called. search rules) in
    c.in_ok-entries.ensures
    ∙ (ap (map (λ (one : LogEntry). one.entry)) c.deref.ensures.value
    ∙ ap (map (λ (one : LogEntry). one.entry)) (sorted_entries (log_of run inputs).entries c.args.numbered.items _
    (log_rises run inputs) all c.in_ok-sort_by_key.ensures.permutation
    (c.in_ok-sort_by_key.ensures.sorted (λ (one : LogEntry). one.number) keys)))
