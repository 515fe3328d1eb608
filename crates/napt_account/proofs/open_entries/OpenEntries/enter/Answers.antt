-- enter: both legs are recorded in turn, and the entries that they made are listed after both.
use Rattle.std.proofs.Common.{◌≡◌, ℕ, ◌+◌, ◌++◌, List, refl, ◌∙◌, ap, subst, arith}
use Rattle.napt_account.specs.{declared.{binding_tally.BindingTally.BindingTally, log.LogEntry.LogEntry}, BindingTallies.{both_uses, leg_use}, Log.{LogModel, after_input, after_leg}, MadeEntries.made_entry, OpenEntries.OpenEntriesShow}
use Rattle.napt_account.proofs.{ContinuedLogs.few_leg, MadeEntries.made_is}
use Rattle.napt_account.proofs.open_entries.OpenEntries.enter.Goals as goal

pub record_leg-requires : goal.record_leg-requires
record_leg-requires c =
    let room = c.requires.3 in
    let long = c.requires.4 in
    (c.requires.0, c.requires.1, c.requires.2, omega (arith, room), omega (arith, long))

pub record_leg-requires-2 : goal.record_leg-requires-2
record_leg-requires-2 c =
    let most : ℕ = c.requires.0 in
    let log : LogModel = c.requires.1 in
    let few = few_leg c.args.effects.now c.args.effects.first log in
    let room = c.requires.3 in
    let long = c.requires.4 in (
      most + 1,
      after_leg c.args.effects.now c.args.effects.first log,
      c.in_ok-first.ensures.shows most log c.requires.2 (c.if-not-can_come.ensures.yes most log c.requires.2 refl),
      omega (arith, room),
      omega (arith, few, long),
    )

pub returns-clause-shows : goal.returns-clause-shows
returns-clause-shows c = λ most log shows.
    let now : ℕ = c.args.effects.now in
    let twice : most + 1 + 1 ≡ most + 2 = omega arith in
    let between = c.in_ok-first.ensures.shows most log shows (c.if-not-can_come.ensures.yes most log shows refl) in
    let mid : LogModel = after_leg now c.args.effects.first log in
    subst (λ (m : ℕ). OpenEntriesShow now m (after_input log c.args.effects) c.record_leg-2.new.self) twice
    (c.in_ok-second.ensures.shows (most + 1) mid between
    (c.if-not-can_come-2.ensures.yes (most + 1) mid between refl))

pub returns-clause-uses : goal.returns-clause-uses
returns-clause-uses c = λ most log shows.
    let now : ℕ = c.args.effects.now in
    let mid : LogModel = after_leg now c.args.effects.first log in
    let between = c.in_ok-first.ensures.shows most log shows (c.if-not-can_come.ensures.yes most log shows refl) in
    c.both_uses.ensures
    ∙ (ap (λ (u : BindingTally). both_uses u c.in_ok-second.second) (c.in_ok-first.ensures.uses most log shows)
    ∙ ap (both_uses (leg_use now c.args.effects.first log)) (c.in_ok-second.ensures.uses (most + 1) mid between))

pub returns-clause-made : goal.returns-clause-made
returns-clause-made c = λ most log shows.
    let now : ℕ = c.args.effects.now in
    let first = c.if-not-can_come.ensures.yes most log shows refl in
    let between = c.in_ok-first.ensures.shows most log shows first in
    let mid : LogModel = after_leg now c.args.effects.first log in
    let second = c.if-not-can_come-2.ensures.yes (most + 1) mid between refl in
    let end : LogModel = after_leg now c.args.effects.second mid in
    let last = c.in_ok-second.ensures.shows (most + 1) mid between second in
    c.in_ok-list_made-2.ensures now (most + 1 + 1) end last
    ∙ (ap (λ (ms : List LogEntry). ms ++ made_entry now c.args.effects.second end)
    (c.in_ok-list_made.ensures now (most + 1 + 1) end last
    ∙ ap (λ (ms : List LogEntry). ms ++ made_entry now c.args.effects.first end) c.new-made.ensures.items)
    ∙ made_is now c.args.effects.first c.args.effects.second log shows.numbered first second)

pub returns-clause-come : goal.returns-clause-come
returns-clause-come c = λ most log shows.
    let now : ℕ = c.args.effects.now in
    let first = c.if-not-can_come.ensures.yes most log shows refl in
    let between = c.in_ok-first.ensures.shows most log shows first in
    (first, c.if-not-can_come-2.ensures.yes (most + 1) (after_leg now c.args.effects.first log) between refl)

pub returns-then-not-can_come-clause-none : goal.returns-then-not-can_come-clause-none
returns-then-not-can_come-clause-none c = λ most log shows is come.
    c.if-not-can_come.ensures.no most log shows refl come.0

pub returns-then-not-can_come-2-clause-none : goal.returns-then-not-can_come-2-clause-none
returns-then-not-can_come-2-clause-none c = λ most log shows is come.
    c.if-not-can_come-2.ensures.no (most + 1) (after_leg c.args.effects.now c.args.effects.first log)
    (c.in_ok-first.ensures.shows most log shows come.0) refl come.1
