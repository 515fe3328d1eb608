-- resume: the numbers of the saved entries are distinct, and a builder can begin with the log that is made of them.
use Rattle.std.proofs.Common.{rules, vec_items, vec_len, ◌≡◌, ℕ, ◌+◌, ◌≤◌, ◌^◌, List, [], ◌++◌, Bool, false, not, filter, length, map, sym, ◌∙◌, ap, subst, arith}
use Rattle.napt_rules.specs.Prelude.{Rules, RulesInvariant, State}
use Rattle.napt_table.specs.declared.TimedRow.{TimedRow}
use Rattle.napt_account.specs.declared.log.LogEntry.{LogEntry}
use Rattle.napt_account.specs.{Log.{LogModel, numbered_from, unused_entry}, LogBuilders.{IsStart}, LogParts.{is_open}, OpenEntries.AreKeyed, LogStarts.{NumbersDiffer, SavedLogStateModel, continued_entries, entry_ended_at, has_entry, in_order_of_number, log_started, new_entries, resumed_entries}}
use Rattle.napt_account.proofs.{EndOrderings.differ_filter, DistinctKeys.live_keyed, LogStarts.{entries_numbers, is_start, live, of_differ, to_differ}}
use Rattle.napt_account.proofs.log_builder.LogBuilder.resume.Goals as goal

pub by_number-requires : goal.by_number-requires
by_number-requires c =
    let state : State = c.args.state.now in
    let all : List LogEntry = c.in_ok-all.all.items in
    let differ : NumbersDiffer all = subst NumbersDiffer (sym c.in_ok-all.ensures)
    (entries_numbers c.args.config.now c.pool-pool.ensures.kept state c.requires.taken c.args.saved.now
    c.requires.saved) in
    subst NumbersDiffer (sym (c.in_ok-continued.ensures
    ∙ ap (filter (is_open c.state.inside.clock)) c.deref.ensures.value))
    (of_differ _ (differ_filter (is_open c.state.inside.clock) all (to_differ all differ)))

pub by_number-requires-2 : goal.by_number-requires-2
by_number-requires-2 c =
    let state : State = c.args.state.now in
    let all : List LogEntry = c.in_ok-all.all.items in
    let differ : NumbersDiffer all = subst NumbersDiffer (sym c.in_ok-all.ensures)
    (entries_numbers c.args.config.now c.pool-pool.ensures.kept state c.requires.taken c.args.saved.now
    c.requires.saved) in
    let ended : LogEntry → Bool = λ n. not (is_open c.state.inside.clock n) in
    subst NumbersDiffer (sym (c.in_ok-gone.ensures ∙ ap (filter ended) c.deref-2.ensures.value))
    (of_differ _ (differ_filter ended all (to_differ all differ)))

pub by_number-requires-3 : goal.by_number-requires-3
by_number-requires-3 c = subst NumbersDiffer (sym c.in_ok-all.ensures)
    (entries_numbers c.args.config.now c.pool-pool.ensures.kept c.args.state.now c.requires.taken c.args.saved.now
    c.requires.saved)

pub new_entries-requires-clause-apart : goal.new_entries-requires-clause-apart
new_entries-requires-clause-apart c = subst AreKeyed
    (ap (map (λ (timed : TimedRow). timed.row)) (sym (c.deref-5.ensures.value ∙ c.in_ok-live.ensures)))
    (live_keyed c.args.config.now c.pool-pool.ensures.kept c.args.state.now c.requires.taken)

pub begin-requires : goal.begin-requires
begin-requires c =
    let own : Rules = c.args.config.now in
    let state : State = c.args.state.now in
    let saved : SavedLogStateModel = c.args.saved.now in
    let keeps : RulesInvariant own = c.pool-pool.ensures.kept in
    let at : ℕ = c.state.inside.clock in
    let clock : at ≡ state.clock = ap (λ (s : State). s.clock) c.state.view_is in
    let first : c.saved.inside.made ≡ saved.made = ap (λ (s : SavedLogStateModel). s.made) c.saved.view_is in
    let all : List LogEntry = resumed_entries own state saved in
    let entries : c.in_ok-entries.entries.items ≡ continued_entries own state saved = c.in_ok-entries.ensures
    ∙ ap in_order_of_number (c.in_ok-continued.ensures
    ∙ (ap (filter (is_open at)) (c.deref.ensures.value ∙ c.in_ok-all.ensures)
    ∙ ap (λ (n : ℕ). filter (is_open n) all) clock)) in
    let listed = c.deref-4.ensures.value ∙ entries in
    let alive = c.deref-5.ensures.value ∙ c.in_ok-live.ensures in
    let new : c.in_ok-made.made.items ≡ new_entries own state saved = c.in_ok-made.ensures.begun
    ∙ (λ i. numbered_from (first i + 1) (map (λ timed. unused_entry timed.row (clock i) timed.end)
    (filter (λ timed. not (has_entry (listed i) timed)) (alive i)))) in
    let added = c.deref-6.ensures.value ∙ new in
    let whole = c.in_ok-extend_from_slice.ensures.items ∙ (λ i. entries i ++ added i) in
    let long : length (vec_items c.in_ok-made.made) ≡ vec_len c.in_ok-made.made = search rules in
    let many : c.len.result ≡ length (new_entries own state saved) = c.len.ensures ∙ (sym long ∙ ap length new) in
    let lives = ap length alive in
    let few = c.in_ok-made.ensures.few in
    let most : length (live own keeps.timers state) ≤ 2 ^ 61 = omega (arith, lives, few) in
    let start : IsStart state.clock (log_started own state saved) =
    is_start own keeps state c.requires.taken saved c.requires.saved most in
    let begun : LogModel = record {
      made = c.saved.inside.made + c.len.result;
      entries = c.extend_from_slice.new.self.items;
      shortages = [];
    } in
    subst (λ (n : ℕ). IsStart n begun) (sym clock) (subst (IsStart state.clock) (sym (λ i. record {
      made = first i + many i;
      entries = whole i;
      shortages = [];
    })) start)

pub returns-clause-log : goal.returns-clause-log
returns-clause-log c =
    let own : Rules = c.args.config.now in
    let state : State = c.args.state.now in
    let saved : SavedLogStateModel = c.args.saved.now in
    let at : ℕ = c.state.inside.clock in
    let clock : at ≡ state.clock = ap (λ (s : State). s.clock) c.state.view_is in
    let first : c.saved.inside.made ≡ saved.made = ap (λ (s : SavedLogStateModel). s.made) c.saved.view_is in
    let all : List LogEntry = resumed_entries own state saved in
    let entries : c.in_ok-entries.entries.items ≡ continued_entries own state saved = c.in_ok-entries.ensures
    ∙ ap in_order_of_number (c.in_ok-continued.ensures
    ∙ (ap (filter (is_open at)) (c.deref.ensures.value ∙ c.in_ok-all.ensures)
    ∙ ap (λ (n : ℕ). filter (is_open n) all) clock)) in
    let listed = c.deref-4.ensures.value ∙ entries in
    let alive = c.deref-5.ensures.value ∙ c.in_ok-live.ensures in
    let new : c.in_ok-made.made.items ≡ new_entries own state saved = c.in_ok-made.ensures.begun
    ∙ (λ i. numbered_from (first i + 1) (map (λ timed. unused_entry timed.row (clock i) timed.end)
    (filter (λ timed. not (has_entry (listed i) timed)) (alive i)))) in
    let added = c.deref-6.ensures.value ∙ new in
    let whole = c.in_ok-extend_from_slice.ensures.items ∙ (λ i. entries i ++ added i) in
    let long : length (vec_items c.in_ok-made.made) ≡ vec_len c.in_ok-made.made = search rules in
    let many : c.len.result ≡ length (new_entries own state saved) = c.len.ensures ∙ (sym long ∙ ap length new) in
    c.in_ok-log.ensures ∙ (λ i. record {
      rules = own;
      clock = clock i;
      log = record { made = first i + many i; entries = whole i; shortages = [] };
      taken = 0;
      is_stopped = false;
    })

pub returns-clause-first : goal.returns-clause-first
returns-clause-first c =
    let own : Rules = c.args.config.now in
    let state : State = c.args.state.now in
    let saved : SavedLogStateModel = c.args.saved.now in
    let at : ℕ = c.state.inside.clock in
    let clock : at ≡ state.clock = ap (λ (s : State). s.clock) c.state.view_is in
    let first : c.saved.inside.made ≡ saved.made = ap (λ (s : SavedLogStateModel). s.made) c.saved.view_is in
    let all : List LogEntry = resumed_entries own state saved in
    let entries : c.in_ok-entries.entries.items ≡ continued_entries own state saved = c.in_ok-entries.ensures
    ∙ ap in_order_of_number (c.in_ok-continued.ensures
    ∙ (ap (filter (is_open at)) (c.deref.ensures.value ∙ c.in_ok-all.ensures)
    ∙ ap (λ (n : ℕ). filter (is_open n) all) clock)) in
    let listed = c.deref-4.ensures.value ∙ entries in
    let alive = c.deref-5.ensures.value ∙ c.in_ok-live.ensures in
    let new : c.in_ok-made.made.items ≡ new_entries own state saved = c.in_ok-made.ensures.begun
    ∙ (λ i. numbered_from (first i + 1) (map (λ timed. unused_entry timed.row (clock i) timed.end)
    (filter (λ timed. not (has_entry (listed i) timed)) (alive i)))) in
    let gone = c.in_ok-gone-2.ensures ∙ ap in_order_of_number (c.in_ok-gone.ensures
    ∙ (ap (filter (λ (n : LogEntry). not (is_open at n))) (c.deref-2.ensures.value ∙ c.in_ok-all.ensures)
    ∙ ap (λ (t : ℕ). filter (λ (n : LogEntry). not (is_open t n)) all) clock)) in
    let those = c.deref-3.ensures.value ∙ gone in
    let ended = c.in_ok-ended.ensures ∙ (λ i. map (entry_ended_at (clock i)) (those i)) in
    λ i. record { ended = ended i; made = new i; refused = [] }
