-- list: the entries are in order of end.
use Rattle.std.{proofs.Common.{List, subst}, specs.List.Sorted.IsPermutation}
use Rattle.napt_account.{specs.declared.log.LogEntry.LogEntry, proofs.EndOrder.list_is}
use Rattle.napt_account.proofs.open_entries.OpenEntries.list.Goals as goal

pub returns : goal.returns
returns c = λ now most log shows.
    list_is now most log c.args.self.now shows c.copied.ensures.unique c.sort_by_end.new.entries.items
    (subst (λ (xs : List LogEntry). IsPermutation xs c.sort_by_end.new.entries.items) c.in_ok-all.ensures.kept
    c.sort_by_end.ensures.moved)
    c.sort_by_end.ensures.sorted
