-- The open log at the end of a run is that with which the next run starts.
use Rattle.std.proofs.lemmas.{Bool.{and_from, and_parts, true≢false}, Option.{same_Some, slice_get-get_or, slice_get_within}}
use Rattle.std.proofs.Common.{◌≡◌, ◌≢◌, ℕ, suc, ◌+◌, ◌≤◌, inl, inr, Bool, true, false, not, cond, find, List, [], ◌∷◌, ◌++◌, length, get_or, map, filter, flat_map, Option, Some, None, refl, sym, ◌∙◌, ap, subst, arith, append-nil}
use Rattle.std.specs.{List.{slice_get, Sorted.IsPermutation}, Option.option_map}
use Rattle.std.proofs.lemmas.List.Sorted.{IsPermutation-map, IsPermutation-sym, IsPermutation-trans}
use Rattle.napt_config.specs.Rules.{Rules, RulesInvariant, pair_of}
use Rattle.napt_rules.specs.{declared.Row.Row, Prelude.{AlikeStatesGoOn, Arrival, Binding, Each, IsSound, OrderedStatesAreAlike, SavedRunsGoOn, State, TakesState, TakenStatesAreSound, Timers, effect_from, hold_ago, is_live, last_clock, live_and_held, next_state, opening, purge, row, with_live_flows, with_redirects}}
use Rattle.napt_rules.proofs.Lists.{filter_all}
use Rattle.napt_laws.proofs.{Endpoints.{end_itself, same_itself}, Lists.{find_passes}, StepsSound.purge_stays_sound}
use Rattle.napt_binding.{specs.Ends.{end_by_protocol, end_of, is_before}, proofs.FirstEnds.end_without_dead}
use Rattle.napt_table.specs.{declared.TimedRow.TimedRow, TimedRows.timed_row}
use Rattle.napt_account.specs.declared.{account.Account.Account, log.{LogEntry.LogEntry}}
use Rattle.napt_account.specs.{Attribution.has_ends, BindingTallies.open_of, Log.{LogModel, entry_is_of, log_on, numbered_from, shares, unused_entry}, LogParts.{NumbersAscend, is_open}}
use Rattle.napt_account.specs.{LogStarts.{SavedLogStateModel, SavedLogsAreTakenUp, account_at, account_of_entry, accounted, continued_entries, entry_ended_at, has_entry, has_redirect, in_order_of_number, log_started, new_entries, resumed_end, resumed_entries, resumed_entry, saved_log_state, started_part, unlisted_rows, with_account}, OpenEntries.{AreKeyed, Has, entry_key, external_eq}, ResumedLogRuns.{IsLogOf, left_of, timed_by}}
use Rattle.napt_account.proofs.EndOrderings.{Along, Differ, each_has, filter_has, has_each, has_parts}
use Rattle.napt_account.proofs.{InputEffects.{logs_are_of_their_states, rows_left}, Entries.{apart_differ, rows_purge, shares_itself}, BindingChanges.{AllDiffer, differ_kept}, DistinctKeys.{differ_keyed, keyed_along, keyed_moved, log_keyed, share, share_flip}, Lists.{each_mapped}, LiveRows.{is_loose, live_all, live_of, purge_joined}, OpenEntries.{any_has, external_itself, key_shares}, AscendingNumbers.{rises_above, rises_all, rises_differ, rises_filter, rises_same, same_number}}
use Rattle.napt_account.proofs.LogStarts.{Kept, dynamics, has_mapped, mapped_has, only_one, openings, order_moves, order_rises}
use Rattle.napt_account.proofs.SortedLists.{has_back, has_moved}

find_only : {X : Type 0} (p : X → Bool) (xs : List X) (x : X) → Has xs x → p x ≡ true →
    ((y : X) → Has xs y → p y ≡ true → y ≡ x) → find p xs ≡ Some x
find_only p [] x h is only = absurd h
find_only p (y ∷ xs) x h is only = elim (p y) as (λ v. p y ≡ v → cond v (Some y) (find p xs) ≡ Some x) [
  | true ↦ λ e. ap Some (only y (inl refl) e)
  | false ↦ λ e. elim h [
    | inl here ↦ absurd (true≢false (sym is ∙ (ap p (sym here) ∙ e)))
    | inr there ↦ find_only p xs x there is (λ z g. only z (inr g))
  ]
] refl

filter_none : {X : Type 0} (p : X → Bool) (xs : List X) → Each (λ x. p x ≡ true) xs → filter (λ x. not (p x)) xs ≡ []
filter_none p [] h = refl
filter_none p (x ∷ xs) h =
    ap (λ v. cond (not v) (x ∷ filter (λ y. not (p y)) xs) (filter (λ y. not (p y)) xs)) h.0 ∙ filter_none p xs h.1

-- The images of elements that are apart, given that each is in the list.
along_with : {X Y : Type 0} (R : X → X → Type 0) (S : Y → Y → Type 0) (f : X → Y) (xs : List X) →
    ((x y : X) → Has xs x → Has xs y → R x y → S (f x) (f y)) → Along R xs → Along S (map f xs)
along_with R S f [] g h = tt
along_with R S f (x ∷ xs) g h = (
  each_mapped (S (f x)) f xs (has_each (λ y. S (f x) (f y)) xs (λ y there.
      g x y (inl refl) (inr there) (each_has (R x) xs y h.0 there))),
  along_with R S f xs (λ y z p q. g y z (inr p) (inr q)) h.1,
)

module _ (rules : Rules) (keeps : RulesInvariant rules) (saved : State) (left : LogModel)
    (is : IsLogOf rules (with_redirects rules saved) left) (rises : NumbersAscend 1 left.entries)
    (keyed : AreKeyed (map (λ n. n.entry.binding) left.entries)) (apart : AreKeyed (map row saved.list))
    (rows : IsPermutation (map timed_by left.entries)
    (map (timed_row rules.timers) (purge rules.timers saved.clock saved.list))) where
  abbrev timers : Timers
  timers = rules.timers

  abbrev now : ℕ
  now = saved.clock

  abbrev alive : List TimedRow
  alive = map (timed_row timers) (purge timers now (with_redirects rules saved).list)

  left_open : (n : LogEntry) → Has left.entries n → is_open now n ≡ true
  left_open n h = (filter_has (is_open now) left.entries n
      (subst (λ (l : LogModel). Has l.entries n) (sym is.kept) h)).1

  -- The binding of an entry that was left.
  record IsOrigin (n : LogEntry) : Type 0 where
    pub b : Binding
    pub has : Has saved.list b
    pub row_is : b.row ≡ n.entry.binding
    pub end_is : end_of timers b ≡ n.entry.end

  origin : (n : LogEntry) → Has left.entries n → IsOrigin n
  origin n h =
      let t = mapped_has (timed_row timers) (purge timers now saved.list) (timed_by n)
      (has_moved (map timed_by left.entries) _ rows (timed_by n) (has_mapped timed_by left.entries n h)) in
      let y = mapped_has (with_live_flows timers now) (filter (is_live timers now) saved.list) t.x t.has in
      let p = filter_has (is_live timers now) saved.list y.x y.has in
      record {
        b = y.x;
        has = p.0;
        row_is = ap (λ (b : Binding). b.row) y.is ∙ ap (λ (u : TimedRow). u.row) t.is;
        end_is = sym (end_without_dead timers keeps.timers now y.x p.1)
            ∙ (ap (end_of timers) y.is ∙ ap (λ (u : TimedRow). u.end) t.is);
      }

  shared : (r s : Row) → shares r s ≡ true → share r s ≡ true
  shared r s h = ap (external_eq (entry_key r)) (sym (key_shares r s h)) ∙ external_itself (entry_key r)

  -- Two entries of one endpoint are the same.
  one_entry : (n m : LogEntry) → Has left.entries n → Has left.entries m →
      share n.entry.binding m.entry.binding ≡ true → n ≡ m
  one_entry n m h g same = only_one (λ x y. share x.entry.binding y.entry.binding ≡ false) left.entries
      (keyed_along (λ (l : LogEntry). l.entry.binding) left.entries keyed) n m h g
      (λ apart. true≢false (sym same ∙ apart))
      (λ apart. true≢false (sym same ∙ (share_flip n.entry.binding m.entry.binding ∙ apart)))

  -- Two bindings of the state with one endpoint are the same.
  one_binding : (b d : Binding) → Has saved.list b → Has saved.list d → share b.row d.row ≡ true → b ≡ d
  one_binding b d h g same = only_one (λ x y. share x.row y.row ≡ false) saved.list (keyed_along row saved.list apart)
      b d
      h g (λ apart. true≢false (sym same ∙ apart)) (λ apart. true≢false (sym same ∙ (share_flip b.row d.row ∙ apart)))

  ends_itself : (r : Row) → has_ends r.protocol r.inside r.external r ≡ true
  ends_itself r = and_from _ _ (same_itself r.protocol) (and_from _ _ (end_itself r.inside) (end_itself r.external))

  -- A redirect that has an entry is one of the configuration.
  redirect_there : (n : LogEntry) → Has left.entries n → (r : Row) → r ≡ n.entry.binding → r.fixed ≡ true →
      has_redirect rules r ≡ true
  redirect_there n h r same fixed =
      let there : Has alive (timed_by n) =
      has_moved (map timed_by left.entries) alive is.rows (timed_by n) (has_mapped timed_by left.entries n h) in
      elim (has_parts (openings rules keeps.timers saved) (dynamics rules keeps.timers saved) (timed_by n)
      (subst (λ (l : List TimedRow). Has l (timed_by n)) (live_all rules saved) there)) [
        | inl here ↦
            let o = mapped_has (timed_row timers) (opening rules) (timed_by n) here in
            let its : o.x.row ≡ r = ap (λ (u : TimedRow). u.row) o.is ∙ sym same in
            any_has (λ b. has_ends r.protocol r.inside r.external (row b)) (opening rules) o.x o.has
            (ap (has_ends r.protocol r.inside r.external) its ∙ ends_itself r)
        | inr behind ↦
            let d = mapped_has (timed_row timers) (live_of timers now saved.list) (timed_by n) behind in
            let y = mapped_has (with_live_flows timers now) (filter (is_live timers now) (filter is_loose saved.list))
            d.x
            d.has in
            let loose = (filter_has is_loose saved.list y.x
            (filter_has (is_live timers now) (filter is_loose saved.list) y.x y.has).0).1 in
            let its : y.x.row ≡ r = ap (λ (b : Binding). b.row) y.is ∙ (ap (λ (u : TimedRow). u.row) d.is ∙ sym same) in
            absurd (true≢false (sym loose ∙ ap not (ap (λ (s : Row). s.fixed) its ∙ fixed)))
      ]

  -- The binding of an entry gets that entry again from its account.
  entry_again : (b : Binding) → Has saved.list b → (n : LogEntry) → Has left.entries n →
      shares b.row n.entry.binding ≡ true → resumed_entry rules now (b, account_of_entry n) ≡ n
  entry_again b h n there shares_row =
      let o = origin n there in
      let same : b ≡ o.b = one_binding b o.b h o.has
      (ap (share b.row) o.row_is ∙ shared b.row n.entry.binding shares_row) in
      let its : b.row ≡ n.entry.binding = ap (λ (x : Binding). x.row) same ∙ o.row_is in
      let ends : end_of timers b ≡ n.entry.end = ap (end_of timers) same ∙ o.end_is in
      let end : resumed_end rules now b ≡ n.entry.end = by_fixed its ends b.row.fixed refl in
      λ i. record {
        number = n.number;
        entry = record {
          binding = its i;
          made = n.entry.made;
          end = end i;
          sent = n.entry.sent;
          received = n.entry.received;
          last = n.entry.last;
          last_sent = n.entry.last_sent;
        };
      }
    where
      by_fixed : b.row ≡ n.entry.binding → end_of timers b ≡ n.entry.end → (v : Bool) → b.row.fixed ≡ v →
          resumed_end rules now b ≡ n.entry.end
      by_fixed its ends true e =
          ap (λ v. cond v (cond (has_redirect rules b.row) None (Some now)) (end_of timers b)) e
          ∙ (ap (λ v. cond v None (Some now)) (redirect_there n there b.row its e)
          ∙ (sym (ap (λ v. cond v None (Some (end_by_protocol b.row.protocol timers b))) e) ∙ ends))
      by_fixed its ends false e =
          ap (λ v. cond v (cond (has_redirect rules b.row) None (Some now)) (end_of timers b)) e ∙ ends

  abbrev account : Binding → Option Account
  account b = account_at now left b.row

  abbrev own : SavedLogStateModel
  own = saved_log_state now left saved

  abbrev ks : List Kept
  ks = accounted saved.list own.accounts

  abbrev entries : List LogEntry
  entries = resumed_entries rules saved own

  kept_is : (list : List Binding) (k : Kept) → Has (accounted list (map account list)) k →
      Has list k.0 × (account k.0 ≡ Some k.1)
  kept_is [] k h = absurd h
  kept_is (b ∷ list) k h = elim (account b) as (λ o. account b ≡ o →
      Has (with_account b o (accounted list (map account list))) k → Has (b ∷ list) k.0 × (account k.0 ≡ Some k.1)) [
        | None ↦ λ e g. let p = kept_is list k g in (inr p.0, p.1)
        | Some a ↦ λ e g. elim g [
          | inl here ↦ (
            inl (ap (λ (z : Kept). z.0) here),
            ap account (sym (ap (λ (z : Kept). z.0) here)) ∙ (e ∙ ap (λ (z : Kept). Some z.1) here),
          )
          | inr there ↦ let p = kept_is list k there in (inr p.0, p.1)
        ]
      ] refl h

  has_kept : (list : List Binding) (b : Binding) (a : Account) → Has list b → account b ≡ Some a →
      Has (accounted list (map account list)) (b, a)
  has_kept [] b a h e = absurd h
  has_kept (d ∷ list) b a (inl here) e =
      let its : account d ≡ Some a = ap account here ∙ e in
      subst (λ (o : Option Account). Has (with_account d o (accounted list (map account list))) (b, a)) (sym its)
      (inl (ap (λ (x : Binding). (x, a)) here))
  has_kept (d ∷ list) b a (inr there) e = elim (account d) as (λ o.
      Has (with_account d o (accounted list (map account list))) (b, a)) [
        | None ↦ has_kept list b a there e
        | Some other ↦ inr (has_kept list b a there e)
      ]

  -- The entry of an account is one of the entries that continue.
  record IsAgain (k : Kept) : Type 0 where
    pub n : LogEntry
    pub has : Has left.entries n
    pub shares_row : shares k.0.row n.entry.binding ≡ true
    pub entry_is : resumed_entry rules now k ≡ n

  again : (k : Kept) → Has ks k → IsAgain k
  again k h =
      let p = kept_is saved.list k h in
      elim (open_of now k.0.row left) as (λ o. open_of now k.0.row left ≡ o → option_map account_of_entry o ≡ Some k.1 →
      IsAgain k) [
        | None ↦ λ e g. cc
        | Some n ↦ λ e g.
            let found = find_passes (λ m. entry_is_of now k.0.row m.entry) (Has left.entries) left.entries n
            (has_each (Has left.entries) left.entries (λ m there. there)) e in
            let shares_row = (and_parts (is_before now n.entry.end) (shares k.0.row n.entry.binding) found.0).1 in
            record {
              n = n;
              has = found.1;
              shares_row = shares_row;
              entry_is = ap (λ (a : Account). resumed_entry rules now (k.0, a)) (sym (same_Some _ _ g))
                  ∙ entry_again k.0 p.0 n found.1 shares_row;
            }
      ] refl p.1

  entries_left : (n : LogEntry) → Has entries n → Has left.entries n
  entries_left n h =
      let k = mapped_has (resumed_entry rules now) ks n h in
      let a = again k.x k.has in
      subst (Has left.entries) (sym a.entry_is ∙ k.is) a.has

  left_entries : (n : LogEntry) → Has left.entries n → Has entries n
  left_entries n h =
      let o = origin n h in
      let passes : entry_is_of now n.entry.binding n.entry ≡ true =
      and_from (is_before now n.entry.end) (shares n.entry.binding n.entry.binding) (left_open n h)
      (shares_itself n.entry.binding) in
      let found : open_of now n.entry.binding left ≡ Some n =
      find_only (λ m. entry_is_of now n.entry.binding m.entry) left.entries n h passes (λ m g test.
      sym (one_entry n m h g (shared n.entry.binding m.entry.binding
      (and_parts (is_before now m.entry.end) (shares n.entry.binding m.entry.binding) test).1))) in
      let its : account o.b ≡ Some (account_of_entry n) =
      ap (λ (r : Row). account_at now left r) o.row_is ∙ ap (option_map account_of_entry) found in
      subst (Has entries) (entry_again o.b o.has n h (ap (λ (r : Row). shares r n.entry.binding) o.row_is
      ∙ shares_itself n.entry.binding))
      (has_mapped (resumed_entry rules now) ks (o.b, account_of_entry n)
      (has_kept saved.list o.b (account_of_entry n) o.has its))

  all_open : Each (λ n. is_open now n ≡ true) entries
  all_open = has_each (λ n. is_open now n ≡ true) entries (λ n h. left_open n (entries_left n h))

  along_kept : (list : List Binding) (accounts : List (Option Account)) →
      Along (λ x y. share x.row y.row ≡ false) list →
      Along (λ j k. share j.0.row k.0.row ≡ false) (accounted list accounts)
  along_kept [] accounts h = tt
  along_kept (b ∷ list) [] h = tt
  along_kept (b ∷ list) (None ∷ accounts) h = along_kept list accounts h.1
  along_kept (b ∷ list) (Some a ∷ accounts) h = (each_kept list accounts h.0, along_kept list accounts h.1)
    where
      each_kept : (list : List Binding) (accounts : List (Option Account)) →
          Each (λ y. share b.row y.row ≡ false) list →
          Each (λ k. share b.row k.0.row ≡ false) (accounted list accounts)
      each_kept [] accounts h = tt
      each_kept (d ∷ list) [] h = tt
      each_kept (d ∷ list) (None ∷ accounts) h = each_kept list accounts h.1
      each_kept (d ∷ list) (Some a ∷ accounts) h = (h.0, each_kept list accounts h.1)

  differ : Differ entries
  differ = along_with (λ j k. share j.0.row k.0.row ≡ false) (λ x y. x.number ≢ y.number) (resumed_entry rules now) ks
      (λ j k h g apart same.
      let a = again j h in
      let d = again k g in
      let one : a.n ≡ d.n = same_number left.entries (rises_differ 1 left.entries rises) a.n d.n a.has d.has
      (ap (λ (l : LogEntry). l.number) (sym a.entry_is) ∙ (same ∙ ap (λ (l : LogEntry). l.number) d.entry_is)) in
      let keys : entry_key j.0.row ≡ entry_key k.0.row = key_shares j.0.row a.n.entry.binding a.shares_row
      ∙ (ap (λ (l : LogEntry). entry_key l.entry.binding) one
      ∙ sym (key_shares k.0.row d.n.entry.binding d.shares_row)) in
      true≢false (sym (external_itself (entry_key j.0.row)) ∙ (ap (external_eq (entry_key j.0.row)) keys ∙ apart)))
      (along_kept saved.list own.accounts (keyed_along row saved.list apart))

  continued_is : continued_entries rules saved own ≡ left.entries
  continued_is =
      let opens : filter (is_open now) entries ≡ entries = filter_all (is_open now) entries all_open in
      ap in_order_of_number opens
      ∙ rises_same 1 (in_order_of_number entries) left.entries
      (order_rises 1 entries differ (has_each (λ n. 1 ≤ n.number) entries (λ n h.
      each_has (λ n. 1 ≤ n.number) left.entries n (rises_above 1 left.entries rises) (entries_left n h)))) rises
      (λ n h. entries_left n (has_moved (in_order_of_number entries) entries (order_moves entries) n h))
      (λ n h. has_back (in_order_of_number entries) entries (order_moves entries) n (left_entries n h))

  none_new : new_entries rules saved own ≡ []
  none_new =
      let listed : Each (λ timed. has_entry left.entries timed ≡ true) alive =
      has_each (λ timed. has_entry left.entries timed ≡ true) alive (λ timed h.
      let n = mapped_has timed_by left.entries timed (has_back (map timed_by left.entries) alive is.rows timed h) in
      subst (λ (u : TimedRow). has_entry left.entries u ≡ true) n.is
      (any_has (λ m. shares n.x.entry.binding m.entry.binding) left.entries n.x n.has
      (shares_itself n.x.entry.binding))) in
      ap (λ (ts : List TimedRow). numbers ts)
      (ap (unlisted_rows rules saved) continued_is ∙ filter_none (has_entry left.entries) alive listed)
    where
      numbers : List TimedRow → List LogEntry
      numbers ts = numbered_from (left.made + 1) (map (λ timed. unused_entry timed.row now timed.end) ts)

  pub log_again : log_started rules saved own ≡ left
  log_again =
      let none : [] ≡ left.shortages = ap (λ (l : LogModel). l.shortages) is.kept in
      let made : left.made + length (new_entries rules saved own) ≡ left.made = (let new = ap length none_new in
      omega (arith, new)) in
      let whole : continued_entries rules saved own ++ new_entries rules saved own ≡ left.entries =
      (λ i. continued_is i ++ none_new i) ∙ append-nil left.entries in
      λ i. record { made = made i; entries = whole i; shortages = none i }

  pub nothing_told : started_part rules saved own ≡ record { ended = []; made = []; refused = [] }
  nothing_told =
      let ended : filter (λ numbered. not (is_open now numbered)) entries ≡ [] =
      filter_none (is_open now) entries all_open in
      λ i. record {
        ended = map (entry_ended_at now) (in_order_of_number (ended i));
        made = none_new i;
        refused = [];
      }

-- OF A RUN

module _ (timers : Timers) (now : ℕ) where
  parts_taken : (parts : List (List Binding)) → ((i : ℕ) (part : List Binding) → slice_get parts i ≡ Some part →
      live_and_held timers now part ≡ part) →
      live_and_held timers now (flat_map (λ part. part) parts) ≡ flat_map (λ part. part) parts
  parts_taken [] each = refl
  parts_taken (part ∷ parts) each =
      purge_joined timers (hold_ago timers now) part (flat_map (λ part. part) parts)
      ∙ (ap (λ (l : List Binding). l ++ live_and_held timers now (flat_map (λ part. part) parts)) (each 0 part refl)
      ∙ ap (λ (l : List Binding). part ++ l) (parts_taken parts (λ i p is. each (suc i) p is)))

left_rises : (rules : Rules) (from : State) (log : LogModel) (inputs : List Arrival) → IsLogOf rules from log →
    NumbersAscend 1 log.entries → NumbersAscend 1 (left_of rules from log inputs).entries
unfolding log_on
left_rises rules from log inputs is rises = rises_filter (is_open (last_clock from.clock inputs)) 1 _
    (rises_all rules.timers (effect_from rules from inputs).acts log is.numbered rises)

pub saved_logs_are_taken_up : TakenStatesAreSound → AlikeStatesGoOn → SavedRunsGoOn → OrderedStatesAreAlike →
    SavedLogsAreTakenUp
saved_logs_are_taken_up taken_sound alike_go_on saved_go_on ordered rules keeps state takes log is rises inputs saved
    order =
    let from : State = with_redirects rules state in
    let timers : Timers = rules.timers in
    let next : State = next_state rules from inputs in
    let left : LogModel = left_of rules from log inputs in
    let of_state : IsLogOf rules (with_redirects rules saved) left =
    logs_are_of_their_states taken_sound alike_go_on saved_go_on rules keeps state takes log is inputs saved order in
    let takes_saved : TakesState rules saved = (saved_go_on rules keeps state saved takes inputs [] order).taken in
    let sound : IsSound (pair_of rules) next.list =
    purge_stays_sound (pair_of rules) timers (hold_ago timers next.clock) _
    (taken_sound rules keeps state takes inputs) in
    let alike = ordered rules keeps next saved sound order in
    let rows : IsPermutation (map timed_by left.entries) (map (timed_row timers) (purge timers saved.clock saved.list))
    =
    subst (λ (n : ℕ). IsPermutation (map timed_by left.entries) (map (timed_row timers) (purge timers n saved.list)))
    (sym order.clock)
    (IsPermutation-trans _ _ _
    (rows_left alike_go_on rules keeps from (taken_sound rules keeps state takes []) log is inputs)
    (IsPermutation-map (timed_row timers) _ _ alike.live)) in
    let whole : live_and_held timers next.clock saved.list ≡ saved.list =
    ap (live_and_held timers next.clock) order.list
    ∙ (parts_taken timers next.clock order.parts (λ i part at.
    let within = slice_get_within order.parts i part at in
    let many = order.many in
    (order.each i (get_or rules.pool i 0) part (slice_get-get_or rules.pool i 0 (omega (arith, within, many)))
    at).taken)
    ∙ sym order.list) in
    let held : AreKeyed (map row (live_and_held timers next.clock next.list)) =
    differ_keyed _ (subst AllDiffer (sym (rows_purge timers (hold_ago timers next.clock) next.list))
    (differ_kept (is_live timers (hold_ago timers next.clock)) next.list
    (apart_differ (map row next.list) sound.apart))) in
    let apart : AreKeyed (map row saved.list) = subst (λ (list : List Binding). AreKeyed (map row list)) whole
    (keyed_moved (map row (live_and_held timers next.clock saved.list))
    (map row (live_and_held timers next.clock next.list))
    (IsPermutation-sym _ _ (alike.held (hold_ago timers next.clock) (omega arith))) held) in
    let rise : NumbersAscend 1 left.entries = left_rises rules from log inputs is rises in
    let keyed = log_keyed rules keeps saved takes_saved left of_state in (
      log_again rules keeps saved left of_state rise keyed apart rows,
      nothing_told rules keeps saved left of_state rise keyed apart rows,
    )
