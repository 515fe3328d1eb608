-- live_rows: the rows are the redirects, and then the live bindings of the state.
use Rattle.std.proofs.Common.{◌≡◌, ◌<◌, ◌≤◌, ℕ, true, false, List, ◌++◌, map, length, get_or, sym, ◌∙◌, ap, subst}
use Rattle.std.{proofs.lemmas.List.take_all}
use Rattle.napt_rules.specs.Prelude.{Binding, Rules, State, Timers, is_live, flows_share, opening, with_live_flows}
use Rattle.napt_table.specs.{TimedRows.timed_row}
use Rattle.napt_account.proofs.LiveRows.{live_all, live_of, next_single}
use Rattle.napt_account.proofs.live_rows.live_rows.Goals as goal

pub live_row-requires : goal.live_row-requires
live_row-requires c unfixed live =
    let rules : Rules = c.args.config.now in
    let state : State = c.args.state.now in
    let k : ℕ = c.loop-binding.binding-index in
    let b : Binding = c.binding-item.result in
    let same = c.deref-binding-items.ensures.value ∙ ap (λ (s : State). s.list) c.state.view_is in
    let is : get_or state.list k b ≡ b = sym (c.binding-item.is ∙ ap (λ (l : List Binding). get_or l k b) same) in
    let below : k < length state.list = rw (← same) c.loop-binding-test.true in
    let clock = ap (λ (s : State). s.clock) c.state.view_is in
    subst (λ (t : Timers). flows_share (with_live_flows t c.state.inside.clock b).flows ≡ false)
    (sym c.from_config-timers.ensures)
    (subst (λ (n : ℕ). flows_share (with_live_flows rules.timers n b).flows ≡ false) (sym clock)
    (next_single rules state k b below is c.in_ok-live.ensures.kept c.requires unfixed
    (subst (λ (n : ℕ). is_live rules.timers n b ≡ true) clock
    (subst (λ (t : Timers). is_live t c.state.inside.clock b ≡ true) c.from_config-timers.ensures live))))

pub returns : goal.returns
returns c =
    let rules : Rules = c.args.config.now in
    let state : State = c.args.state.now in
    let k : ℕ = c.loop-binding.binding-index in
    let same = c.deref-binding-items.ensures.value ∙ ap (λ (s : State). s.list) c.state.view_is in
    let past : length state.list ≤ k = rw (← same) c.loop-binding-test.false in
    c.loop-binding.invariant
    ∙ (ap (λ (bs : List Binding). map (timed_row rules.timers) (opening rules)
    ++ map (timed_row rules.timers) (live_of rules.timers state.clock bs)) (take_all k state.list past)
    ∙ sym (live_all rules state))
