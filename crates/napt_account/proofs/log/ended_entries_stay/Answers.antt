-- ended_entries_stay: the log of a longer run keeps the entries that have ended.
use Rattle.napt_account.proofs.EndedEntries.{ended_stay}
use Rattle.napt_account.proofs.log.ended_entries_stay.Goals as goal

pub returns : goal.returns
returns c = ended_stay
