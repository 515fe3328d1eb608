-- by_number: the sorted entries are those of the definition, since their numbers are distinct.
use Rattle.std.proofs.{Common.{rules}, lemmas.List.Sorted.{answers_always}}
use Rattle.napt_account.{specs.declared.log.LogEntry.LogEntry, proofs.LogStarts.order_is}
use Rattle.napt_account.proofs.log_start.by_number.Goals as goal

pub returns : goal.returns
returns c = order_is c.args.entries.items _ c.in_ok-sort_by_key.ensures.permutation c.requires
    (c.in_ok-sort_by_key.ensures.sorted (λ (one : LogEntry). one.number)
    (answers_always _ _ _ (λ f a r next called. search rules)))
