-- from_entries: the entries so far have been inserted, if their endpoints are distinct.
use Rattle.std.proofs.Common.{map}
use Rattle.napt_account.{specs.OpenEntries.AreKeyed, proofs.SavedEntries.HasFirst}
use Rattle.napt_account.proofs.open_entries.OpenEntries.from_entries.Given as goal

abbrev pub invariant-loop-numbered : goal.invariant-loop-numbered
invariant-loop-numbered l = (keyed : AreKeyed (map (λ x. x.entry.binding) l.log.entries)) →
    HasFirst l.log.entries keyed l.log.made l.numbered-index l.all
