-- The parts that the inputs of a run add, with the entries that are open at the end, make up its log.
use Rattle.std.proofs.lemmas.{Grind.common_steps, Bool.{Decides.nat_tests, and_parts}}
use Rattle.std.proofs.Common.{◌≡◌, ℕ, ◌+◌, ◌≤◌, max, Bool, true, false, not, ◌&&◌, cond, List, [], ◌∷◌, ◌++◌, length, map, drop, filter, Option, refl, sym, ◌∙◌, ap, subst, arith, append-nil, append_assoc}
use Rattle.std.specs.List.{fold, Sorted.IsPermutation}
use Rattle.std.proofs.lemmas.List.Sorted.{IsPermutation-refl, IsPermutation-sym, IsPermutation-trans, IsPermutation-cons, IsPermutation-middle, IsPermutation-append_left, IsPermutation-append_right, IsPermutation-filter_both}
use Rattle.napt_wire.specs.declared.Way.{Way, TheVariants.{Outgoing, Incoming}}
use Rattle.napt_binding.{specs.Ends.{is_before}, proofs.FirstEnds.{ends_are_first, before_sooner}}
use Rattle.napt_table.specs.declared.TimedRow.{TimedRow}
use Rattle.napt_rules.specs.declared.Row.{Row}
use Rattle.napt_rules.specs.Prelude.{Binding, Each, act, LegAct, Arrival, RunEffect, step, effect_from, last_clock, State, Rules, RulesInvariant, AreTimers}
use Rattle.napt_laws.proofs.{OneMoreInput.{grows, clock_more}, RunInduction.InTurn}
use Rattle.napt_sequential.specs.{declared.passage.Passage.{Passage, TheVariants.{Nothing, Made, Out, In, Dropped}}, Traces.passage_of}
use Rattle.napt_account.specs.{declared.log.{Entry.Entry, LogEntry.LogEntry, Shortage.Shortage}, Log.{LogModel, counted, made_by, use_entry, with_use, shortages_of, after_leg, after_record, log_on}}
use Rattle.napt_account.specs.LogParts.{IsNumbered, LogDelta, ends_first, ends_within, in_order_of_end, is_after, is_open, placed}
use Rattle.napt_account.specs.{ResumedLogRuns.part_of, WholeLogs.{ArePartsOfLog, PartsAreTheLog, parts_joined, origin}}
use Rattle.napt_account.proofs.{Effects.step_turn, Entries.{counted_binding, counted_made}, FutureEnds.{LeavesOpen, turn_leaves}, Lists.{filter_agrees, filter_joined, filter_seen, map_agrees, map_joined, map_twice}}
use Rattle.napt_account.proofs.ContinuedLogs.{filter_twice, fold_joined, none_behind, numbered_all}

-- LISTS

placed_moves : (l : LogEntry) (xs : List LogEntry) → IsPermutation (l ∷ xs) (placed l xs)
placed_moves l [] = IsPermutation-refl (l ∷ [])
placed_moves l (x ∷ xs) = elim (ends_first l x) as (λ v.
    IsPermutation (l ∷ x ∷ xs) (cond v (l ∷ x ∷ xs) (x ∷ placed l xs))) [
      | true ↦ IsPermutation-refl (l ∷ x ∷ xs)
      | false ↦ IsPermutation-trans (l ∷ x ∷ xs) (x ∷ l ∷ xs) (x ∷ placed l xs) (IsPermutation-middle (l ∷ []) x xs)
          (IsPermutation-cons x (l ∷ xs) (placed l xs) (placed_moves l xs))
    ]

order_moves : (xs : List LogEntry) → IsPermutation xs (in_order_of_end xs)
order_moves [] = IsPermutation-refl []
order_moves (x ∷ xs) = IsPermutation-trans (x ∷ xs) (x ∷ in_order_of_end xs) (placed x (in_order_of_end xs))
    (IsPermutation-cons x xs (in_order_of_end xs) (order_moves xs)) (placed_moves x (in_order_of_end xs))

pub drop_joined : {X : Type 0} (xs ys : List X) → drop (length xs) (xs ++ ys) ≡ ys
drop_joined [] ys = refl
drop_joined (x ∷ xs) ys = drop_joined xs ys

-- WHAT HAS ENDED

abbrev is_closed : ℕ → LogEntry → Bool
is_closed now numbered = not (is_open now numbered)

abbrev closed : ℕ → List LogEntry → List LogEntry
closed now entries = filter (is_closed now) entries

not_twice : (v : Bool) → v ≡ not (not v)
not_twice true = refl
not_twice false = refl

counted_open : (way : Way) (now : ℕ) (end : Option ℕ) → is_before now end ≡ true → (e : Entry) →
    is_before now (counted way now end e).end ≡ true
counted_open Outgoing now end opened e = opened
counted_open Incoming now end opened e = opened

-- A leg does not change an entry that has ended, and what it makes or changes has not ended.
module _ (way : Way) (now : ℕ) (timed : TimedRow) (opens : is_before now timed.end ≡ true) where
  abbrev change : LogEntry → LogEntry
  change = use_entry way now timed

  one_changed : (n : LogEntry) (ls : List LogEntry) →
      cond (is_closed now (change n)) (change n ∷ ls) ls ≡ cond (is_closed now n) (n ∷ ls) ls
  one_changed n ls = grind (arith, common_steps, nat_tests, and_parts, counted_open)

  all_changed : (ns : List LogEntry) → closed now (map change ns) ≡ closed now ns
  all_changed [] = refl
  all_changed (n ∷ ns) = one_changed n (closed now (map change ns))
      ∙ ap (λ (ls : List LogEntry). cond (is_closed now n) (n ∷ ls) ls) (all_changed ns)

leg_closed : (now : ℕ) (p : Passage) → LeavesOpen now p → (log : LogModel) →
    closed now (after_leg now p log).entries ≡ closed now log.entries
leg_closed now Nothing h log = refl
leg_closed now (Made timed) h log =
    filter_joined (is_closed now) log.entries _
    ∙ (ap (λ v. closed now log.entries
    ++ cond (not v) (record { number = log.made + 1; entry = made_by now timed } ∷ []) []) h
    ∙ append-nil (closed now log.entries))
leg_closed now (Out timed) h log = all_changed Outgoing now timed h log.entries
leg_closed now (In timed) h log = all_changed Incoming now timed h log.entries
leg_closed now (Dropped loss) h log = refl

module _ (rules : Rules) (t : AreTimers rules.timers) where
  turn_on : (clock : ℕ) (list : List Binding) (acts : List LegAct) (last : ℕ) (new : List Binding) →
      InTurn rules clock list acts last new → clock ≤ last
  turn_on clock list [] last new turn = turn.0
  turn_on clock list (a ∷ acts) last new turn =
      let rest = turn_on a.leg.now (act rules a.address a.leg list).list acts last new turn.1 in
      omega (arith, turn.0.later, rest)

  -- Acts at one time do not change the entries that have ended by then.
  acts_closed : (now clock : ℕ) → now ≤ clock → (list : List Binding) (acts : List LegAct) (new : List Binding) →
      InTurn rules clock list acts now new → (log : LogModel) →
      closed now (fold (after_record rules.timers) log acts).entries ≡ closed now log.entries
  acts_closed now clock le list [] new turn log = refl
  acts_closed now clock le list (a ∷ acts) new turn log =
      let left : List Binding = (act rules a.address a.leg list).list in
      let on : a.leg.now ≤ now = turn_on a.leg.now left acts now new turn.1 in
      let at : a.leg.now ≡ now = omega (arith, le, turn.0.later, on) in
      acts_closed now a.leg.now (omega (arith, at)) left acts new turn.1 (after_record rules.timers log a)
      ∙ subst (λ (n : ℕ). closed n (after_record rules.timers log a).entries ≡ closed n log.entries) at
      (leg_closed a.leg.now (passage_of rules.timers a)
      (turn_leaves ends_are_first rules t clock list a turn.0 a.leg.now refl) log)

-- WHAT IS FINAL OF AN ENTRY

abbrev Origin : Type 0
Origin = ℕ × (Row × ℕ)

-- A later log has the origins of an earlier one, and after them those with later numbers; and likewise its shortages.
record Grown (one other : LogModel) : Type 0 where
  pub origins : map origin other.entries ≡ map origin one.entries ++ map origin
      (filter (is_after one.made) other.entries)
  pub more : one.made ≤ other.made
  pub lost : List Shortage
  pub shortages : other.shortages ≡ one.shortages ++ lost

grown_none : (one : LogModel) → IsNumbered one → Grown one one
grown_none one numbered = record {
  origins = sym (ap (λ (ns : List LogEntry). map origin one.entries ++ map origin ns)
      (none_behind one.made one.entries numbered) ∙ append-nil (map origin one.entries));
  more = omega arith;
  lost = [];
  shortages = sym (append-nil one.shortages);
}

module _ (one log : LogModel) (grown : Grown one log) where
  module _ (way : Way) (now : ℕ) (timed : TimedRow) where
    abbrev used : LogEntry → LogEntry
    used = use_entry way now timed

    same_origin : (n : LogEntry) → origin (used n) ≡ origin n
    same_origin n = grind (arith, common_steps, nat_tests, counted_binding, counted_made)

    same_origins : (ns : List LogEntry) → map origin (map used ns) ≡ map origin ns
    same_origins ns = map_twice origin used ns ∙ map_agrees (λ n. origin (used n)) origin ns same_origin

    grown_use : Grown one (with_use way now timed log)
    grown_use = record {
      origins = same_origins log.entries
          ∙ (grown.origins
          ∙ ap (λ (os : List Origin). map origin one.entries ++ os)
          (sym (same_origins (filter (is_after one.made) log.entries))
          ∙ ap (map origin) (sym (filter_seen (is_after one.made) used log.entries))));
      more = grown.more;
      lost = grown.lost;
      shortages = grown.shortages;
    }

  grown_made : (now : ℕ) (timed : TimedRow) → Grown one (after_leg now (Made timed) log)
  grown_made now timed =
      let new : LogEntry = record { number = log.made + 1; entry = made_by now timed } in
      let behind : is_after one.made new ≡ true = (let le = grown.more in grind (arith, nat_tests, le)) in
      let old : List LogEntry = filter (is_after one.made) log.entries in
      let whole : filter (is_after one.made) (log.entries ++ new ∷ []) ≡ old ++ new ∷ [] =
      filter_joined (is_after one.made) log.entries (new ∷ []) ∙ ap (λ v. old ++ cond v (new ∷ []) []) behind in
      record {
        origins = map_joined origin log.entries (new ∷ [])
            ∙ (ap (λ (os : List Origin). os ++ map origin (new ∷ [])) grown.origins
            ∙ (append_assoc (map origin one.entries) (map origin old) (map origin (new ∷ []))
            ∙ ap (λ (os : List Origin). map origin one.entries ++ os)
            (sym (map_joined origin old (new ∷ [])) ∙ ap (map origin) (sym whole))));
        more = (let le = grown.more in omega (arith, le));
        lost = grown.lost;
        shortages = grown.shortages;
      }

  grown_leg : (now : ℕ) (p : Passage) → Grown one (after_leg now p log)
  grown_leg now Nothing = grown
  grown_leg now (Made timed) = grown_made now timed
  grown_leg now (Out timed) = grown_use Outgoing now timed
  grown_leg now (In timed) = grown_use Incoming now timed
  grown_leg now (Dropped loss) = record {
    origins = grown.origins;
    more = grown.more;
    lost = grown.lost ++ shortages_of now loss;
    shortages = ap (λ (l : List Shortage). l ++ shortages_of now loss) grown.shortages
        ∙ append_assoc one.shortages grown.lost (shortages_of now loss);
  }

grown_acts : (rules : Rules) (one : LogModel) (acts : List LegAct) (log : LogModel) → Grown one log →
    Grown one (fold (after_record rules.timers) log acts)
grown_acts rules one [] log grown = grown
grown_acts rules one (a ∷ acts) log grown =
    grown_acts rules one acts (after_record rules.timers log a) (grown_leg one log grown a.leg.now _)

-- WHAT WAS ADDED

-- The entries that have ended by a time are those that had ended by an earlier one, and those that ended since.
closed_since : (was now : ℕ) → was ≤ now → (xs : List LogEntry) →
    IsPermutation (filter (is_closed was) xs ++ filter (ends_within was now) xs) (filter (is_closed now) xs)
closed_since was now le xs =
    let late : List LogEntry = filter (is_closed now) xs in
    let first : filter (is_closed was) late ≡ filter (is_closed was) xs =
    filter_twice (is_closed was) (is_closed now) xs
    ∙ filter_agrees (λ l. is_closed now l && is_closed was l) (is_closed was) xs (λ l. still l.entry.end) in
    subst (λ (ls : List LogEntry). IsPermutation (ls ++ filter (ends_within was now) xs) late) first
    (subst (λ (ls : List LogEntry). IsPermutation (filter (is_closed was) late ++ ls) late)
    (filter_twice (is_open was) (is_closed now) xs
    ∙ filter_agrees (λ l. is_closed now l && is_open was l) (ends_within was now) xs
    (λ l. and_swap (is_closed now l) (is_open was l)))
    (IsPermutation-sym late (filter (is_closed was) late ++ filter (is_open was) late)
    (IsPermutation-filter_both (is_closed was) (is_open was) (λ l. not_twice (is_open was l)) late)))
  where
    and_swap : (a b : Bool) → (a && b) ≡ (b && a)
    and_swap a b = grind (arith, nat_tests)

    still : (end : Option ℕ) → (not (is_before now end) && not (is_before was end)) ≡ not (is_before was end)
    still end = elim (is_before now end) as (λ v. is_before now end ≡ v →
        (not v && not (is_before was end)) ≡ not (is_before was end)) [
          | true ↦ λ e. sym (ap not (before_sooner was now le end e))
          | false ↦ λ e. refl
        ] refl

-- ONE INPUT MORE

module _ (rules : Rules) (keeps : RulesInvariant rules) (state : State) (log : LogModel) (numbered : IsNumbered log)
  where
    abbrev at : List Arrival → LogModel
    at inputs = log_on rules state log inputs

    abbrev clock : List Arrival → ℕ
    clock inputs = last_clock state.clock inputs

    abbrev next : List Arrival → Arrival → RunEffect
    next before input =
        step rules (length before) (max (clock before) input.clock) input (effect_from rules state before).list

    log_more : (before : List Arrival) (input : Arrival) →
        at (before ++ input ∷ []) ≡ fold (after_record rules.timers) (at before) (next before input).acts
    unfolding log_on
    log_more before input =
        ap (λ (c : RunEffect). fold (after_record rules.timers) log c.acts)
        (grows rules 0 state.clock before input state.list (length before) (omega arith))
        ∙ fold_joined (after_record rules.timers) (effect_from rules state before).acts (next before input).acts log

    all_numbered : (inputs : List Arrival) → IsNumbered (at inputs)
    unfolding log_on
    all_numbered inputs = numbered_all rules.timers (effect_from rules state inputs).acts log numbered

    grown_next : (before : List Arrival) (input : Arrival) → Grown (at before) (at (before ++ input ∷ []))
    grown_next before input = subst (Grown (at before)) (sym (log_more before input))
        (grown_acts rules (at before) (next before input).acts (at before)
        (grown_none (at before) (all_numbered before)))

    -- An entry that has ended by the clock of an input was there before it.
    closed_next : (before : List Arrival) (input : Arrival) → (let now : ℕ = max (clock before) input.clock in
        closed now (at (before ++ input ∷ [])).entries ≡ closed now (at before).entries)
    closed_next before input =
        let now : ℕ = max (clock before) input.clock in
        ap (λ (l : LogModel). closed now l.entries) (log_more before input)
        ∙ acts_closed rules keeps.timers now now (omega arith) (effect_from rules state before).list
        (next before input).acts (next before input).list
        (step_turn rules (length before) now input (omega arith) (effect_from rules state before).list) (at before)

    -- ALL

    abbrev part : List Arrival → Arrival → LogDelta
    part before input = part_of rules state log before input

    abbrev Tells : List Arrival → List LogEntry → Type 0
    Tells inputs told = IsPermutation told (closed (clock inputs) (at inputs).entries)

    tells_next : (before : List Arrival) (input : Arrival) (told : List LogEntry) → Tells before told →
        Tells (before ++ input ∷ []) (told ++ (part before input).ended)
    tells_next before input told tells =
        let was : ℕ = clock before in
        let now : ℕ = max was input.clock in
        let xs : List LogEntry = (at before).entries in
        let since : List LogEntry = filter (ends_within was now) xs in
        let old : List LogEntry = filter (is_closed was) xs in
        let late : List LogEntry = filter (is_closed now) xs in
        subst (λ (n : ℕ). IsPermutation (told ++ in_order_of_end since) (closed n (at (before ++ input ∷ [])).entries))
        (sym (clock_more state.clock before input))
        (subst (IsPermutation (told ++ in_order_of_end since)) (sym (closed_next before input))
        (IsPermutation-trans (told ++ in_order_of_end since) (told ++ since) late
        (IsPermutation-append_right told (in_order_of_end since) since
        (IsPermutation-sym since (in_order_of_end since) (order_moves since)))
        (IsPermutation-trans (told ++ since) (old ++ since) late
        (IsPermutation-append_left since told old tells) (closed_since was now (omega arith) xs))))

    tells_all : (before inputs : List Arrival) (told : List LogEntry) → Tells before told →
        Tells (before ++ inputs) (told ++ parts_joined (λ all one. (part all one).ended) before inputs)
    tells_all before [] told tells =
        subst (λ (all : List Arrival). Tells all (told ++ [])) (sym (append-nil before))
        (subst (Tells before) (sym (append-nil told)) tells)
    tells_all before (input ∷ inputs) told tells =
        let ended : List LogEntry = (part before input).ended in
        let rest : List LogEntry = parts_joined (λ all one. (part all one).ended) (before ++ input ∷ []) inputs in
        subst (λ (all : List Arrival). Tells all (told ++ (ended ++ rest))) (append_assoc before (input ∷ []) inputs)
        (subst (Tells ((before ++ input ∷ []) ++ inputs)) (append_assoc told ended rest)
        (tells_all (before ++ input ∷ []) inputs (told ++ ended) (tells_next before input told tells)))

    -- The lists from the parts of the inputs, joined in order, are the list from the log of all inputs.
    joins_all : {X : Type 0} (of_log : LogModel → List X) (of_part : LogDelta → List X) →
        ((before : List Arrival) (input : Arrival) →
        of_log (at (before ++ input ∷ [])) ≡ of_log (at before) ++ of_part (part before input)) →
        (before inputs : List Arrival) →
        of_log (at before) ++ parts_joined (λ all one. of_part (part all one)) before inputs ≡
        of_log (at (before ++ inputs))
    joins_all of_log of_part more before [] = append-nil (of_log (at before))
        ∙ ap (λ (all : List Arrival). of_log (at all)) (sym (append-nil before))
    joins_all of_log of_part more before (input ∷ inputs) =
        let rest = parts_joined (λ all one. of_part (part all one)) (before ++ input ∷ []) inputs in
        sym (append_assoc (of_log (at before)) (of_part (part before input)) rest)
        ∙ (ap (λ (xs : List _). xs ++ rest) (sym (more before input))
        ∙ (joins_all of_log of_part more (before ++ input ∷ []) inputs
        ∙ ap (λ (all : List Arrival). of_log (at all)) (append_assoc before (input ∷ []) inputs)))

    refused_next : (before : List Arrival) (input : Arrival) →
        (at (before ++ input ∷ [])).shortages ≡ (at before).shortages ++ (part before input).refused
    refused_next before input =
        let grown = grown_next before input in
        let was : List Shortage = (at before).shortages in
        grown.shortages ∙ ap (λ (l : List Shortage). was ++ l)
        (sym (drop_joined was grown.lost) ∙ ap (drop (length was)) (sym grown.shortages))

    map_all : (before inputs : List Arrival) →
        map origin (parts_joined (λ all one. (part all one).made) before inputs)
        ≡ parts_joined (λ all one. map origin (part all one).made) before inputs
    map_all before [] = refl
    map_all before (input ∷ inputs) =
        map_joined origin (part before input).made
        (parts_joined (λ all one. (part all one).made) (before ++ input ∷ []) inputs)
        ∙ ap (λ (os : List Origin). map origin (part before input).made ++ os) (map_all (before ++ input ∷ []) inputs)

    module _ (opens : Each (λ n. is_open state.clock n ≡ true) log.entries) where
      none_closed : (ns : List LogEntry) → Each (λ n. is_open state.clock n ≡ true) ns → closed state.clock ns ≡ []
      none_closed [] h = refl
      none_closed (n ∷ ns) h = ap (λ v. cond (not v) (n ∷ closed state.clock ns) (closed state.clock ns)) h.0
          ∙ none_closed ns h.1

      at_first : at [] ≡ log
      unfolding log_on
      at_first = refl

      first_closed : closed state.clock (at []).entries ≡ []
      first_closed = ap (λ (l : LogModel). closed state.clock l.entries) at_first ∙ none_closed log.entries opens

      pub is_told : (inputs : List Arrival) → ArePartsOfLog rules state log inputs
      is_told inputs =
          let now : ℕ = clock inputs in
          let xs : List LogEntry = (at inputs).entries in
          let told : List LogEntry = parts_joined (λ all one. (part all one).ended) [] inputs in
          let old : List LogEntry = filter (is_closed now) xs in
          let left : List LogEntry = filter (is_open now) xs in
          let made : List LogEntry = parts_joined (λ all one. (part all one).made) [] inputs in
          let refused : List Shortage = parts_joined (λ all one. (part all one).refused) [] inputs in
          record {
            entries = IsPermutation-trans (told ++ in_order_of_end left) (told ++ left) xs
                (IsPermutation-append_right told (in_order_of_end left) left
                (IsPermutation-sym left (in_order_of_end left) (order_moves left)))
                (IsPermutation-trans (told ++ left) (old ++ left) xs
                (IsPermutation-append_left left told old (tells_all [] inputs []
                (subst (IsPermutation []) (sym first_closed) (IsPermutation-refl []))))
                (IsPermutation-sym xs (old ++ left)
                (IsPermutation-filter_both (is_closed now) (is_open now) (λ l. not_twice (is_open now l)) xs)));
            made = map_joined origin log.entries made
                ∙ (ap (λ (os : List Origin). map origin log.entries ++ os) (map_all [] inputs)
                ∙ (ap (λ (l : LogModel). map origin l.entries
                ++ parts_joined (λ all one. map origin (part all one).made) [] inputs) (sym at_first)
                ∙ joins_all (λ l. map origin l.entries) (λ p. map origin p.made)
                (λ before input. (grown_next before input).origins) [] inputs));
            refused = ap (λ (l : LogModel). l.shortages ++ refused) (sym at_first)
                ∙ joins_all (λ l. l.shortages) (λ p. p.refused) refused_next [] inputs;
          }

pub parts_are_the_log : PartsAreTheLog
parts_are_the_log rules keeps state log numbered opens inputs = is_told rules keeps state log numbered opens inputs
