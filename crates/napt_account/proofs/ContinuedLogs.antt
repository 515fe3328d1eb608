-- A log that continues from its open entries.
use Rattle.std.proofs.lemmas.{Grind.common_steps, Bool.{Decides.nat_tests}}
use Rattle.std.proofs.Common.{◌≡◌, ℕ, ◌+◌, ◌≤◌, max, Bool, false, true, not, ◌&&◌, cond, List, [], ◌∷◌, ◌++◌, length, map, drop, filter, refl, sym, ◌∙◌, ap, subst, arith, append_assoc, append-nil}
use Rattle.std.specs.{List.fold}
use Rattle.napt_wire.specs.declared.Way.{Way, TheVariants.{Outgoing, Incoming}}
use Rattle.napt_binding.{proofs.FirstEnds.before_sooner}
use Rattle.napt_table.specs.declared.TimedRow.{TimedRow}
use Rattle.napt_rules.specs.Prelude.{Binding, Each, act, LegAct, Arrival, last_clock, State, effect_from, next_state, with_redirects, act_behind, RunsGoOn, SavedRunsGoOn, Rules, Timers}
use Rattle.napt_laws.proofs.{OneMoreInput.{clock_on}, Lists.{filter_narrow, each_weaker, each_pushed}, RunInduction.{InTurn, run_turn}}
use Rattle.napt_sequential.specs.{declared.passage.Passage.{Passage, TheVariants.{Nothing, Made, Out, In, Dropped}}, Traces.passage_of}
use Rattle.napt_account.specs.{declared.log.{Entry.Entry, LogEntry.LogEntry, Shortage.Shortage}, Log.{LogModel, counted, made_by, entry_through, use_entry, with_use, shortages_of, after_leg, after_record, log_on}}
use Rattle.napt_account.specs.LogParts.{IsNumbered, ends_within, in_order_of_end, is_after, is_open, kept_at, part_between}
use Rattle.napt_account.specs.ResumedLogRuns.{LogGoesOn, LogsGoOn, SavedLogsGoOn, left_of, part_of}
use Rattle.napt_account.proofs.Lists.{each_mapped, filter_joined, filter_seen}

-- LISTS

pub fold_joined : {S X : Type 0} (f : S → X → S) (xs ys : List X) (s : S) → fold f s (xs ++ ys) ≡
    fold f (fold f s xs) ys
fold_joined f [] ys s = refl
fold_joined f (x ∷ xs) ys s = fold_joined f xs ys (f s x)

pub drop_more : {X : Type 0} (front xs ys : List X) → drop (length (front ++ xs)) (front ++ ys) ≡ drop (length xs) ys
drop_more [] xs ys = refl
drop_more (x ∷ front) xs ys = drop_more front xs ys

-- If a change keeps what does not pass, what passes after it is the change of what passed before.
changed_among : {X : Type 0} (p : X → Bool) (g : X → X) → ((x : X) → p x ≡ false → g x ≡ x) → (xs : List X) →
    filter p (map g xs) ≡ filter p (map g (filter p xs))
changed_among p g stays [] = refl
changed_among p g stays (x ∷ xs) = grind (arith, stays x, changed_among p g stays xs)

pub filter_again : {X : Type 0} (p : X → Bool) (xs : List X) → filter p (filter p xs) ≡ filter p xs
filter_again p [] = refl
filter_again p (x ∷ xs) = grind (arith, filter_again p xs)

pub filter_twice : {X : Type 0} (p q : X → Bool) (xs : List X) → filter p (filter q xs) ≡ filter (λ x. q x && p x) xs
filter_twice p q [] = refl
filter_twice p q (x ∷ xs) = grind (arith, filter_twice p q xs)

pub none_behind : (made : ℕ) (xs : List LogEntry) → Each (λ n. n.number ≤ made) xs → filter (is_after made) xs ≡ []
none_behind made [] h = refl
none_behind made (x ∷ xs) h =
    let here : is_after made x ≡ false = (let le = h.0 in grind (arith, nat_tests, le)) in
    ap (λ v. cond v (x ∷ filter (is_after made) xs) (filter (is_after made) xs)) here ∙ none_behind made xs h.1

-- NUMBERS

-- After a leg the numbers are still among those that were given, which are no fewer.
pub numbered_leg : (now : ℕ) (p : Passage) (log : LogModel) → IsNumbered log → IsNumbered (after_leg now p log)
numbered_leg now Nothing log h = h
numbered_leg now (Made timed) log h =
    each_pushed (λ n. n.number ≤ log.made + 1) log.entries (record { number = log.made + 1; entry = made_by now timed })
    (each_weaker (λ n. n.number ≤ log.made) (λ n. n.number ≤ log.made + 1) (λ n le. omega arith) log.entries h)
    (omega arith)
numbered_leg now (Out timed) log h =
    each_mapped (λ (n : LogEntry). n.number ≤ log.made) (use_entry Outgoing now timed) log.entries h
numbered_leg now (In timed) log h =
    each_mapped (λ (n : LogEntry). n.number ≤ log.made) (use_entry Incoming now timed) log.entries h
numbered_leg now (Dropped loss) log h = h

pub more_leg : (now : ℕ) (p : Passage) (log : LogModel) → log.made ≤ (after_leg now p log).made
more_leg now Nothing log = omega arith
more_leg now (Made timed) log = omega arith
more_leg now (Out timed) log = omega arith
more_leg now (In timed) log = omega arith
more_leg now (Dropped loss) log = omega arith

pub few_leg : (now : ℕ) (p : Passage) (log : LogModel) → (after_leg now p log).made ≤ log.made + 1
few_leg now Nothing log = omega arith
few_leg now (Made timed) log = omega arith
few_leg now (Out timed) log = omega arith
few_leg now (In timed) log = omega arith
few_leg now (Dropped loss) log = omega arith

module _ (timers : Timers) where
  pub numbered_all : (acts : List LegAct) (log : LogModel) → IsNumbered log →
      IsNumbered (fold (after_record timers) log acts)
  numbered_all [] log h = h
  numbered_all (a ∷ acts) log h =
      numbered_all acts (after_record timers log a) (numbered_leg a.leg.now _ log h)

  pub more_all : (acts : List LegAct) (log : LogModel) → log.made ≤ (fold (after_record timers) log acts).made
  more_all [] log = omega arith
  more_all (a ∷ acts) log =
      let first = more_leg a.leg.now (passage_of timers a) log in
      let rest = more_all acts (after_record timers log a) in omega (arith, first, rest)

-- TWO LOGS TO WHICH THE SAME IS ADDED from a time on: they have the same open entries, and the same entries after a
-- number; one of them has some earlier shortages

pub record AreSame (now made : ℕ) (front : List Shortage) (one other : LogModel) : Type 0 where
  pub many : one.made ≡ other.made
  pub living : filter (is_open now) one.entries ≡ filter (is_open now) other.entries
  pub new : filter (is_after made) one.entries ≡ filter (is_after made) other.entries
  pub shortages : one.shortages ≡ front ++ other.shortages

pub same_later : (now later made : ℕ) (front : List Shortage) → now ≤ later → (one other : LogModel) →
    AreSame now made front one other → AreSame later made front one other
same_later now later made front le one other same = record {
  many = same.many;
  living =
      let narrow : (xs : List LogEntry) → filter (is_open later) (filter (is_open now) xs) ≡ filter (is_open later) xs =
      λ xs. filter_narrow (is_open now) (is_open later) xs (λ n. before_sooner now later le n.entry.end) in
      sym (narrow one.entries) ∙ (ap (filter (is_open later)) same.living ∙ narrow other.entries);
  new = same.new;
  shortages = same.shortages;
}

module _ (now made : ℕ) (front : List Shortage) (one other : LogModel) (same : AreSame now made front one other) where
  pushed : (p : LogEntry → Bool) (xs ys : List LogEntry) (x y : LogEntry) → x ≡ y →
      filter p xs ≡ filter p ys → filter p (xs ++ x ∷ []) ≡ filter p (ys ++ y ∷ [])
  pushed p xs ys x y is rest =
      filter_joined p xs (x ∷ [])
      ∙ (ap (λ (l : List LogEntry). l ++ filter p (x ∷ [])) rest
      ∙ (ap (λ (z : LogEntry). filter p ys ++ filter p (z ∷ [])) is ∙ sym (filter_joined p ys (y ∷ []))))

  same_made : (entry : Entry) → (let x : LogEntry = record { number = one.made + 1; entry = entry } in
      let y : LogEntry = record { number = other.made + 1; entry = entry } in x ≡ y)
  same_made entry = ap (λ (n : ℕ). let e : LogEntry = record { number = n + 1; entry = entry } in e) same.many

  module _ (way : Way) (timed : TimedRow) where
    abbrev change : LogEntry → LogEntry
    change = use_entry way now timed

    -- An entry that has ended stays as it is.
    stays : (n : LogEntry) → is_open now n ≡ false → change n ≡ n
    stays n ended =
        let same : entry_through now timed.row (counted way now timed.end) n.entry ≡ n.entry =
        grind (arith, common_steps, nat_tests, ended) in
        λ i. record { number = n.number; entry = same i }

    same_use : AreSame now made front (with_use way now timed one) (with_use way now timed other)
    same_use = record {
      many = same.many;
      living = changed_among (is_open now) change stays one.entries
          ∙ (ap (λ (l : List LogEntry). filter (is_open now) (map change l)) same.living
          ∙ sym (changed_among (is_open now) change stays other.entries));
      new = filter_seen (is_after made) change one.entries
          ∙ (ap (map change) same.new ∙ sym (filter_seen (is_after made) change other.entries));
      shortages = same.shortages;
    }

  pub same_leg : (p : Passage) → AreSame now made front (after_leg now p one) (after_leg now p other)
  same_leg Nothing = same
  same_leg (Made timed) = record {
    many = ap (λ (n : ℕ). n + 1) same.many;
    living = pushed (is_open now) one.entries other.entries _ _ (same_made (made_by now timed)) same.living;
    new = pushed (is_after made) one.entries other.entries _ _ (same_made (made_by now timed)) same.new;
    shortages = same.shortages;
  }
  same_leg (Out timed) = same_use Outgoing timed
  same_leg (In timed) = same_use Incoming timed
  same_leg (Dropped loss) = record {
    many = same.many;
    living = same.living;
    new = same.new;
    shortages = ap (λ (l : List Shortage). l ++ shortages_of now loss) same.shortages
        ∙ append_assoc front other.shortages (shortages_of now loss);
  }

module _ (rules : Rules) (made : ℕ) (front : List Shortage) where
  pub same_acts : (clock : ℕ) (list : List Binding) (acts : List LegAct) (last : ℕ) (new : List Binding) →
      InTurn rules clock list acts last new → (one other : LogModel) → AreSame clock made front one other →
      AreSame last made front (fold (after_record rules.timers) one acts) (fold (after_record rules.timers) other acts)
  same_acts clock list [] last new turn one other same = same_later clock last made front turn.0 one other same
  same_acts clock list (a ∷ acts) last new turn one other same =
      same_acts a.leg.now (act rules a.address a.leg list).list acts last new turn.1
      (after_record rules.timers one a) (after_record rules.timers other a)
      (same_leg a.leg.now made front one other
      (same_later clock a.leg.now made front turn.0.later one other same) _)

pub each_kept : (P : LogEntry → Type 0) (p : LogEntry → Bool) (xs : List LogEntry) → Each P xs →
    Each P (filter p xs)
each_kept P p [] h = tt
each_kept P p (x ∷ xs) h = elim (p x) as (λ v. Each P (cond v (x ∷ filter p xs) (filter p xs)))
    [ true ↦ (h.0, each_kept P p xs h.1) | false ↦ each_kept P p xs h.1 ]

-- A log and what is kept of it.
pub kept_same : (now : ℕ) (log : LogModel) → IsNumbered log → AreSame now log.made log.shortages log (kept_at now log)
kept_same now log numbered = record {
  many = refl;
  living = sym (filter_again (is_open now) log.entries);
  new = none_behind log.made log.entries numbered
      ∙ sym (none_behind log.made (filter (is_open now) log.entries)
      (each_kept (λ n. n.number ≤ log.made) (is_open now) log.entries numbered));
  shortages = sym (append-nil log.shortages);
}

-- THE SAME IS ADDED

module _ (was now made : ℕ) (front : List Shortage) (earlier later other after : LogModel)
    (first : AreSame was made front earlier other) (last : AreSame now made front later after)
    (more : made ≤ earlier.made) where
  ended_of : (xs : List LogEntry) →
      filter (ends_within was now) xs ≡ filter (λ n. not (is_open now n)) (filter (is_open was) xs)
  ended_of xs = sym (filter_twice (λ n. not (is_open now n)) (is_open was) xs)

  made_of : (xs : List LogEntry) →
      filter (is_after earlier.made) xs ≡ filter (is_after earlier.made) (filter (is_after made) xs)
  made_of xs = sym (filter_narrow (is_after made) (is_after earlier.made) xs (λ n h. grind (arith, nat_tests, h, more)))

  pub told_same : part_between was now earlier later ≡ part_between was now other after
  told_same = λ i. record {
    ended = ap in_order_of_end (ended_of earlier.entries
        ∙ (ap (filter (λ n. not (is_open now n))) first.living ∙ sym (ended_of other.entries))) i;
    made = (made_of later.entries
        ∙ (ap (filter (is_after earlier.made)) last.new
        ∙ (sym (made_of after.entries) ∙ ap (λ (m : ℕ). filter (is_after m) after.entries) first.many))) i;
    refused = ((λ j. drop (length (first.shortages j)) (last.shortages j))
        ∙ drop_more front other.shortages after.shortages) i;
  }

-- BY LATER NUMBERS OF LEGS

fold_behind : (timers : Timers) (before : ℕ) (acts : List LegAct) (log : LogModel) →
    fold (after_record timers) log (map (act_behind before) acts) ≡ fold (after_record timers) log acts
fold_behind timers before [] log = refl
fold_behind timers before (a ∷ acts) log = fold_behind timers before acts (after_record timers log a)

-- THE LAWS

module _ (rules : Rules) (state then : State) (log : LogModel) (numbered : IsNumbered log) (first : List Arrival)
    (clock : then.clock ≡ last_clock state.clock first)
    (acts_on : (rest : List Arrival) → (effect_from rules state (first ++ rest)).acts
    ≡ (effect_from rules state first).acts ++ map (act_behind (length first)) (effect_from rules then rest).acts) where
  abbrev told : LogModel
  told = log_on rules state log first

  abbrev kept : LogModel
  kept = kept_at then.clock told

  kept_here : left_of rules state log first ≡ kept
  kept_here = ap (λ (t : ℕ). kept_at t told) (sym clock)

  clocks : (rest : List Arrival) → last_clock state.clock (first ++ rest) ≡ last_clock then.clock rest
  clocks rest = clock_on state.clock first rest ∙ ap (λ (t : ℕ). last_clock t rest) (sym clock)

  whole : (rest : List Arrival) → log_on rules state log (first ++ rest) ≡ log_on rules then told rest
  unfolding log_on
  whole rest =
      ap (fold (after_record rules.timers) log) (acts_on rest)
      ∙ (fold_joined (after_record rules.timers) (effect_from rules state first).acts
      (map (act_behind (length first)) (effect_from rules then rest).acts) log
      ∙ fold_behind rules.timers (length first) (effect_from rules then rest).acts
      (fold (after_record rules.timers) log (effect_from rules state first).acts))

  told_numbered : IsNumbered told
  unfolding log_on
  told_numbered = numbered_all rules.timers (effect_from rules state first).acts log numbered

  same : (rest : List Arrival) → AreSame (last_clock then.clock rest) told.made told.shortages
      (log_on rules then told rest) (log_on rules then kept rest)
  unfolding log_on
  same rest =
      same_acts rules told.made told.shortages then.clock then.list (effect_from rules then rest).acts
      (last_clock then.clock rest) (effect_from rules then rest).list (run_turn rules 0 then.clock rest then.list)
      told kept (kept_same then.clock told told_numbered)

  made_more : (rest : List Arrival) → told.made ≤ (log_on rules then told rest).made
  unfolding log_on
  made_more rest = more_all rules.timers (effect_from rules then rest).acts told

  pub log_goes_on : (rest : List Arrival) → LogGoesOn rules state then log first rest
  log_goes_on rest = record {
    told = λ input.
        let was : ℕ = last_clock then.clock rest in
        let now : ℕ = max was input.clock in
        (λ i. part_between (clocks rest i) (max (clocks rest i) input.clock) (whole rest i)
        (log_on rules state log (append_assoc first rest (input ∷ []) i)))
        ∙ (ap (part_between was now (log_on rules then told rest)) (whole (rest ++ input ∷ []))
        ∙ (told_same was now told.made told.shortages (log_on rules then told rest)
        (log_on rules then told (rest ++ input ∷ [])) (log_on rules then kept rest)
        (log_on rules then kept (rest ++ input ∷ [])) (same rest)
        (subst (λ (t : ℕ). AreSame t told.made told.shortages (log_on rules then told (rest ++ input ∷ []))
        (log_on rules then kept (rest ++ input ∷ []))) (clock_on then.clock rest (input ∷ []))
        (same (rest ++ input ∷ [])))
        (made_more rest)
        ∙ ap (λ (l : LogModel). part_of rules then l rest input) (sym kept_here)));
    left =
        let last : ℕ = last_clock then.clock rest in
        let s = same rest in
        (λ i. kept_at (clocks rest i) (whole rest i))
        ∙ ((λ i. record { made = s.many i; entries = s.living i; shortages = [] })
        ∙ ap (λ (l : LogModel). left_of rules then l rest) (sym kept_here));
  }

pub logs_go_on : RunsGoOn → LogsGoOn
logs_go_on go_on rules state log numbered first rest =
    log_goes_on rules state (next_state rules state first) log numbered first refl
    (λ xs. (go_on rules state first xs).acts) rest

pub saved_logs_go_on : SavedRunsGoOn → SavedLogsGoOn
saved_logs_go_on go_on rules keeps state saved takes log numbered first rest order =
    log_goes_on rules (with_redirects rules state) (with_redirects rules saved) log numbered first order.clock
    (λ xs. (go_on rules keeps state saved takes first xs order).acts) rest
