-- set: the endpoint has the entry, and is queued at its time.
use Rattle.std.proofs.{Common.{ℕ, cond, Option, Some, refl, sym, ◌∙◌, ap, subst}, lemmas.Option.same_Some}
use Rattle.napt_account.specs.declared.open_entries.{EntryKey.EntryKey, OpenEntry.OpenEntry, OpenEntries.OpenEntries}
use Rattle.napt_account.{specs.OpenEntries.{entry_key, external_eq, open_at, is_queued, entry_is_at, IsPlaced}, proofs.OpenEntries.{moved, queued_at}}
use Rattle.napt_account.proofs.open_entries.OpenEntries.set.Goals as goal

pub returns-clause-indexed : goal.returns-clause-indexed
returns-clause-indexed c = λ but.
    let key : EntryKey = entry_key c.args.numbered.entry.binding in
    let same = c.external_key-key.ensures.key in
    let due : Option ℕ = c.due_by-due.result in
    let next : OpenEntry = record { numbered = c.args.numbered; due = due } in
    let new : OpenEntries = record {
      by_external = c.insert.new.self;
      queue = c.queue_at.new.self.queue;
      made = c.queue_at.new.self.made;
    } in
    moved c.args.self.now new key c.args.was but (Some next)
    (λ y. c.in_ok-insert.ensures.updates.0 y
    ∙ (ap (λ (k : EntryKey). cond (external_eq k y) (Some next) (open_at c.queue_at.new.self y)) same
    ∙ ap (cond (external_eq key y) (Some next)) (c.queue_at.ensures.open y)))
    (λ d. c.in_ok-queue_at.ensures.queued d
    (λ e. queued_at c.args.self.now key c.args.was but d (ap (λ (k : EntryKey). external_eq k d.key) (sym same) ∙ e))
    ∙ ap (λ (k : EntryKey). cond (external_eq k d.key) (entry_is_at due d.at) (is_queued c.args.self.now d)) same)
    (λ o h. subst (IsPlaced key) (same_Some next o h) (refl, c.due_by-due.ensures.early))
