-- end_or_queue: the entry is removed if it has ended, and queued at its end otherwise.
use Rattle.std.proofs.Common.{◌≡◌, cond, true, false, Some, None, refl, sym, ◌∙◌, subst}
use Rattle.napt_account.specs.declared.open_entries.{EntryKey.EntryKey, OpenEntry.OpenEntry, OpenEntries.OpenEntries}
use Rattle.napt_account.{specs.OpenEntries.{external_eq, open_at, is_queued, IsIndexedExcept}, proofs.OpenEntries.{moved, queued_at}}
use Rattle.napt_account.proofs.open_entries.OpenEntries.end_or_queue.Goals as goal

pub returns-then-is_before-clause-indexed : goal.returns-then-is_before-clause-indexed
returns-then-is_before-clause-indexed c = λ but.
    let o : OpenEntry = c.in-Some.open in
    let at : open_at c.args.self.now c.args.key ≡ Some o =
    sym c.get.ensures.value ∙ (sym c.copied.ensures ∙ c.in-Some.is) in
    c.in_ok-set.ensures.indexed (subst (λ (x : EntryKey). IsIndexedExcept x None c.args.self.now)
    (but.placed c.args.key o at).0 but)

pub returns-clause-indexed : goal.returns-clause-indexed
returns-clause-indexed c = λ but.
    let new : OpenEntries = record {
      by_external = c.remove.new.self;
      queue = c.args.self.now.queue;
      made = c.args.self.now.made;
    } in
    moved c.args.self.now new c.args.key None but None c.remove.ensures.updates.0
    (λ d. elim (external_eq c.args.key d.key) as (λ v. external_eq c.args.key d.key ≡ v →
    is_queued c.args.self.now d ≡ cond v false (is_queued c.args.self.now d))
    [ true ↦ λ e. queued_at c.args.self.now c.args.key None but d e | false ↦ λ e. refl ] refl)
    (λ o h. cc)
