-- count: the entry that is found is the open entry of the row; if there is none, nothing changes.
use Rattle.std.{proofs.Common.{◌+◌, refl, sym, ◌∙◌, ap, subst, arith}, specs.Prelude.IsSome}
use Rattle.napt_account.specs.{declared.{binding_tally.LogNote.LogNote, open_entries.{OpenEntry.OpenEntry, OpenEntries.OpenEntries}}, BindingTallies.tally_used, Log.{LogModel, with_use}}
use Rattle.napt_account.{specs.OpenEntries.{OpenEntriesShow}}
use Rattle.napt_account.proofs.OpenEntries.{counted_shows, counted_used, open_entry, shows_more, unused_here, unused_same}
use Rattle.napt_account.proofs.open_entries.OpenEntries.count.Goals as goal

pub count-requires : goal.count-requires
count-requires c =
    let few = c.requires.2.few c.external_key-key.result c.in-Some.open.now.numbered
    (open_entry c.args.self.now c.external_key-key.result c.in-Some.open.now (sym c.in-Some.ensures.value)) in
    let room = c.requires.3 in
    (omega (arith, few.0, room), omega (arith, few.1, room))

pub returns-clause-shows : goal.returns-clause-shows
returns-clause-shows c = λ most log shows opened.
    let o : OpenEntry = c.in-Some.open.now in
    let next : OpenEntry = record {
      numbered = record { number = o.numbered.number; entry = c.count.new.self };
      due = c.due_by-due.result;
    } in
    let changes = (c.get_mut.follows.holds next).3 (subst IsSome c.in-Some.ensures.value refl) in
    counted_shows c.args.way c.args.now most c.args.self.now log shows c.args.timed c.external_key-key.result
    c.external_key-key.ensures.key o (sym c.in-Some.ensures.value) c.count.new.self c.count.ensures c.due_by-due.result
    c.due_by-due.ensures.early c.queue_at.new.self c.queue_at.ensures.made
    (λ y. c.queue_at.ensures.open y ∙ changes.0 y) c.in_ok-queue_at.ensures.queued opened

pub returns-clause-uses : goal.returns-clause-uses
returns-clause-uses c = λ most log shows.
    counted_used c.args.way c.args.now most c.args.self.now log shows c.args.timed c.external_key-key.result
    c.external_key-key.ensures.key c.in-Some.open.now (sym c.in-Some.ensures.value) c.through-used.result
    (c.through-used.ensures
    ∙ ap (λ (n : LogNote). tally_used c.args.way n c.in-Some.open.now.numbered.number) c.found_note.ensures)

pub returns-in_default-clause-shows : goal.returns-in_default-clause-shows
returns-in_default-clause-shows c = λ most log shows opened.
    let same : OpenEntries = c.args.self.now in
    subst (λ m. let new : OpenEntries = record { by_external = m; queue = same.queue; made = same.made } in
    OpenEntriesShow c.args.now (most + 1) (with_use c.args.way c.args.now c.args.timed log) new)
    (sym c.get_mut.follows.holds-at-none)
    (subst (λ (l : LogModel). OpenEntriesShow c.args.now (most + 1) l same)
    (sym (unused_same c.args.way c.args.now most same log shows c.args.timed c.external_key-key.result
    c.external_key-key.ensures.key (sym c.in_default.ensures.value)))
    (shows_more c.args.now most (most + 1) (omega arith) log same shows))

pub returns-in_default-clause-uses : goal.returns-in_default-clause-uses
returns-in_default-clause-uses c = λ most log shows.
    unused_here c.args.way c.args.now most c.args.self.now log shows c.args.timed c.external_key-key.result
    c.external_key-key.ensures.key (sym c.in_default.ensures.value)
