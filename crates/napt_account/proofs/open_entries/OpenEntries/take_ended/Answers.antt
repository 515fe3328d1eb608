-- take_ended: the entries that are removed are those that have ended, in order of end.
use Rattle.std.{proofs.Common.{◌≡◌, ℕ, ◌&&◌, false, cond, Option, Some, None, refl, sym, ◌∙◌, ap, subst}, specs.Option.{option_map, is_some, IfSome}}
use Rattle.napt_account.specs.declared.{log.LogEntry.LogEntry, open_entries.{EntryKey.EntryKey, OpenEntry.OpenEntry, OpenEntries.OpenEntries}}
use Rattle.napt_account.specs.{OpenEntries.{external_eq, entry_at}, LogParts.is_open}
use Rattle.napt_account.proofs.EndOrder.{IsParted, parted_none, parted_same, parted_taken, ended_is}
use Rattle.napt_account.proofs.open_entries.OpenEntries.take_ended.Goals as goal

pub loop-key-init : goal.loop-key-init
loop-key-init c = record {
  made = refl;
  parted = λ indexed. subst (IsParted c.args.now c.args.self.now c.args.self.now) (sym c.new-ended.ensures.items)
      (parted_none c.args.now c.args.self.now indexed);
}

pub loop-key-preserved-in-Continue-branch-3 : goal.loop-key-preserved-in-Continue-branch-3
loop-key-preserved-in-Continue-branch-3 c =
    let i = c.loop-key.invariant in
    let now : ℕ = c.args.now in
    let key : EntryKey = c.in-Some.key in
    let l : LogEntry = c.in-Some-2.numbered in
    let first : OpenEntries = c.args.self.now in
    let old : OpenEntries = c.loop-key.self in
    let mid : OpenEntries = c.take_due.new.self in
    let same : (x : EntryKey) → entry_at mid x ≡ entry_at old x =
    λ x. ap (option_map (λ (o : OpenEntry). o.numbered)) (c.take_due.ensures.open x) in
    record {
      made = c.end_or_queue.ensures.made ∙ (c.take_due.ensures.made ∙ i.made);
      parted = λ h.
          let parted = i.parted h in
          let but = c.in-Some.ensures.indexed parted.indexed in
          let taken : (entry_at mid key ≡ Some l) × (is_open now l ≡ false) =
          subst (λ (o : Option LogEntry). IfSome o (λ m. (entry_at mid key ≡ Some m) × (is_open now m ≡ false)))
          c.in-Some-2.is c.in_ok-numbered.ensures.taken in
          parted_taken now first old c.end_or_queue.new.self c.loop-key.ended.items c.push.new.self.items parted key l
          (sym (same key) ∙ taken.0) taken.1 (c.in_ok-numbered.ensures.indexed but)
          (λ x. subst (λ (o : Option LogEntry). entry_at c.end_or_queue.new.self x
          ≡ cond (is_some o && external_eq key x) None (entry_at mid x)) c.in-Some-2.is
          (c.in_ok-numbered.ensures.left but x)
          ∙ ap (cond (external_eq key x) None) (same x))
          c.in_ok-push.ensures.items;
    }

pub returns-clause-ended : goal.returns-clause-ended
returns-clause-ended c = λ was most log shows.
    let old : OpenEntries = c.loop-key.self in
    let new : OpenEntries = c.take_due.new.self in
    let parted = c.loop-key.invariant.parted shows.indexed in
    let none = c.in_default.ensures.none parted.indexed in
    ended_is was c.args.now most log c.args.self.now new shows c.loop-key.ended.items
    (parted_same c.args.now c.args.self.now old new c.loop-key.ended.items parted none.0
    (λ x. ap (option_map (λ (o : OpenEntry). o.numbered)) (c.take_due.ensures.open x)))
    none.1 c.sort_by_end.new.entries.items c.sort_by_end.ensures.moved c.sort_by_end.ensures.sorted
