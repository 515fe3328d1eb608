-- enter_queue: one more endpoint is due at its time.
use Rattle.std.proofs.Common.{◌≡◌, true, ℕ, Option, subst}
use Rattle.napt_binding.specs.Ends.{is_before}
use Rattle.napt_account.proofs.EndQueue.{within_insert}
use Rattle.napt_account.proofs.open_entries.OpenEntries.enter_queue.Goals as goal

pub returns-in_ok-insert-clause-within : goal.returns-in_ok-insert-clause-within
returns-in_ok-insert-clause-within c = λ now before.
    within_insert now (record { at = c.in-Some.at; key = c.args.key })
    (subst (λ (o : Option ℕ). is_before now o ≡ true) c.in-Some.is before) c.args.self.now.queue.keys
    c.insert.new.self.keys c.in_ok-insert.ensures.keys
