-- from_entries: each entry is inserted at an endpoint that has none yet, and queued at its end.
use Rattle.std.proofs.Common.{◌≤◌, ℕ, false, None, List, length, ◌∙◌, ap}
use Rattle.napt_wire.specs.declared.Protocol.TheVariants.{Icmp}
use Rattle.napt_rules.specs.declared.Row.{Row}
use Rattle.napt_account.specs.{declared.log.LogEntry.LogEntry, Log.{LogModel, unused_entry}}
use Rattle.napt_account.proofs.SavedEntries.{but, has_all, has_next, has_none}
use Rattle.napt_account.proofs.open_entries.OpenEntries.from_entries.Goals as goal

abbrev nobodys : Row
nobodys = record {
  protocol = Icmp;
  inside = record { address = 0; number = 0 };
  external = record { address = 0; number = 0 };
  fixed = false;
}

abbrev none : LogEntry
none = record { number = 0; entry = unused_entry nobodys 0 None }

pub loop-numbered-init : goal.loop-numbered-init
loop-numbered-init c keyed =
    has_none c.args.log.now.entries keyed c.args.log.now.made c.new-all.result c.new-all.ensures.open
    c.new-all.ensures.queue (c.new-all.ensures.made ∙ ap (λ (s : LogModel). s.made) c.log.view_is)

pub loop-numbered-preserved : goal.loop-numbered-preserved
loop-numbered-preserved c keyed =
    let log : LogModel = c.args.log.now in
    let all : List LogEntry = c.deref-numbered-items.result.now in
    let same = c.deref-numbered-items.ensures.value ∙ ap (λ (s : LogModel). s.entries) c.log.view_is in
    let k : ℕ = c.loop-numbered.numbered-index in
    let below = c.loop-numbered-test.true in
    let has = c.loop-numbered.invariant keyed in
    let free = but log.entries keyed log.made all same k none below c.loop-numbered.all c.set.new.self has in
    has_next log.entries keyed log.made all same k none below c.loop-numbered.all c.set.new.self has c.set.ensures.made
    (c.in_ok-set.ensures.indexed (record { placed = free.placed; queued = free.queued })) c.in_ok-set.ensures.entry

pub returns : goal.returns
returns c now most kept numbered rises few keyed =
    let log : LogModel = c.args.log.now in
    let k : ℕ = c.loop-numbered.numbered-index in
    let same = c.deref-numbered-items.ensures.value ∙ ap (λ (s : LogModel). s.entries) c.log.view_is in
    let past : length log.entries ≤ k = rw (← same) c.loop-numbered-test.false in
    has_all log keyed k c.loop-numbered.all past (c.loop-numbered.invariant keyed) now most kept numbered rises few
