-- insert: a new entry with the next number is at its endpoint, which had none, and is queued at its end.
use Rattle.std.proofs.Common.{◌+◌, cond, ℕ, Some, ◌∙◌, ap}
use Rattle.napt_account.specs.{declared.log.LogEntry.LogEntry, OpenEntries.{entry_at, external_eq, entry_key}}
use Rattle.napt_account.proofs.OpenEntries.{put_indexed, put_shows}
use Rattle.napt_account.proofs.open_entries.OpenEntries.insert.Goals as goal

pub returns-clause-shows : goal.returns-clause-shows
returns-clause-shows c = λ now most log shows free opened sent received.
    let but = put_indexed now most c.args.self.now c.set.new.self log shows c.args.entry free in
    put_shows now most c.args.self.now c.set.new.self log shows c.args.entry free opened sent received
    c.set.ensures.made (c.in_ok-set.ensures.indexed (record { placed = but.placed; queued = but.queued }))
    (λ x. c.in_ok-set.ensures.entry x ∙ ap (λ (n : ℕ).
    let one : LogEntry = record { number = n + 1; entry = c.args.entry } in
    cond (external_eq (entry_key c.args.entry.binding) x) (Some one) (entry_at c.args.self.now x)) shows.made)
