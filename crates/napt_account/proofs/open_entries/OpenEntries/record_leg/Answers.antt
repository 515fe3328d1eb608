-- record_leg: a binding that is made gets a new entry, and any other binding counts the packet.
use Rattle.std.proofs.Common.{◌≡◌, ◌+◌, ◌≤◌, ℕ, true, None, sym, ◌∙◌, ap, subst, arith}
use Rattle.std.specs.Prelude.{IfOk}
use Rattle.napt_binding.specs.Ends.{is_before}
use Rattle.napt_table.specs.declared.TimedRow.{TimedRow}
use Rattle.napt_sequential.specs.declared.passage.Passage.{Passage, TheVariants.{Made, Out, In}}
use Rattle.napt_account.specs.{declared.log.Entry.Entry, BindingTallies.leg_use, Effects.CanCome, Log.{after_leg, made_by, with_entry}, OpenEntries.{OpenEntriesShow, entry_key, open_at}}
use Rattle.napt_account.proofs.OpenEntries.{row_free, shows_more}
use Rattle.napt_account.proofs.open_entries.OpenEntries.record_leg.Goals as goal

pub returns-in_ok-number-in-Made-clause-shows : goal.returns-in_ok-number-in-Made-clause-shows
returns-in_ok-number-in-Made-clause-shows c = λ most log shows comes.
    let now : ℕ = c.args.now in
    let timed : TimedRow = c.timed.result in
    let is : c.args.effect ≡ Made timed = c.in-Made.is ∙ sym (ap Made c.timed.ensures) in
    let here : CanCome now log (Made timed) = subst (CanCome now log) is comes in
    let made : c.from_packet.result ≡ made_by now timed = c.from_packet.ensures in
    let put = c.in_ok-number-in-Made.ensures.shows now (most + 1) log
    (shows_more now most (most + 1) (omega arith) log c.args.self.now shows)
    (subst (λ (e : Entry). open_at c.args.self.now (entry_key e.binding) ≡ None) (sym made)
    (row_free now most c.args.self.now log shows timed.row here.1))
    (subst (λ (e : Entry). is_before now e.end ≡ true) (sym made) here.0)
    (subst (λ (e : Entry). e.sent ≤ most + 1) (sym made) (omega arith))
    (subst (λ (e : Entry). e.received ≤ most + 1) (sym made) (omega arith)) in
    subst (λ (p : Passage). OpenEntriesShow now (most + 1) (after_leg now p log) c.insert.new.self) (sym is)
    (subst (λ (e : Entry). OpenEntriesShow now (most + 1) (with_entry e log) c.insert.new.self) made put)

pub returns-in-Out-clause-uses : goal.returns-in-Out-clause-uses
returns-in-Out-clause-uses c = λ most log shows.
    let is : c.args.effect ≡ Out c.timed-in-Out.result = c.in-Out.is ∙ sym (ap Out c.timed-in-Out.ensures) in
    subst (λ (p : Passage). IfOk c.count.result (λ used. used ≡ leg_use c.args.now p log)) (sym is)
    (c.count.ensures.uses most log shows)

pub returns-in-In-clause-uses : goal.returns-in-In-clause-uses
returns-in-In-clause-uses c = λ most log shows.
    let is : c.args.effect ≡ In c.timed-in-In.result = c.in-In.is ∙ sym (ap In c.timed-in-In.ensures) in
    subst (λ (p : Passage). IfOk c.count-in-In.result (λ used. used ≡ leg_use c.args.now p log)) (sym is)
    (c.count-in-In.ensures.uses most log shows)
