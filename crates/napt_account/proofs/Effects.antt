-- The log of a run by the effects of its inputs, and which effects are possible.
use Rattle.std.proofs.lemmas.{Grind.common_steps, Bool.Decides.nat_tests}
use Rattle.std.proofs.Common.{◌≡◌, ℕ, ◌+◌, ◌≤◌, max, true, false, ◌&&◌, ◌||◌, cond, List, [], ◌∷◌, length, map, filter, Option, refl, sym, ◌∙◌, ap, subst, arith, append-nil}
use Rattle.std.specs.List.{fold, list_any}
use Rattle.napt_rules.specs.{declared.{Leg.Leg, Row.Row}, Prelude.{BindingUse, Binding, Each, source, kind, act, LegAct, Arrival, RunEffect, purge, row, step, run_from, Rules, AreTimers, Timers, Outgoing}}
use Rattle.napt_laws.proofs.{FreshBindings.{IsFresh, fresh_purged}, OneMoreInput.step_one, Lists.find_passes, RunInduction.{IsTurn, InTurn, run_turn}}
use Rattle.napt_binding.specs.Ends.{end_of, is_before, EndsAreFirst}
use Rattle.napt_table.specs.TimedRows.{timed_row}
use Rattle.napt_translate.specs.CarriedPackets.{packet_carried}
use Rattle.napt_wire.specs.declared.{Protocol.Protocol, Way.{Way, TheVariants.Incoming}}
use Rattle.napt_rules.specs.declared.End.{End}
use Rattle.napt_sequential.specs.declared.passage.{Trace.Trace}
use Rattle.napt_sequential.specs.Traces.{passage_of_row, loss_of, passage_by, passage_of, first_passage, second_passage, traces_from}
use Rattle.napt_account.specs.{declared.log.{Entry.Entry, LogEntry.LogEntry}, Log.{LogModel, after_input, after_leg, after_record, entry_is_of, log_on, shares, unnumbered}, Effects.{CanCome, EffectsAreTheLog}}
use Rattle.napt_account.proofs.{ContinuedLogs.fold_joined, Lists.{any_seen_of, map_twice}, BindingChanges.{Differ, of_moves}}
use Rattle.napt_account.proofs.Entries.{Tells, hold, hold_of, is_open, binding_of, differ_back, purge_holds, tells_later, told_turn}
use Rattle.napt_account.proofs.UnnumberedEntries.{plain_act}

-- BY THE EFFECTS

module _ (rules : Rules) where
  abbrev pub effects_by : ℕ → List LegAct → Trace
  effects_by now acts = record {
    now = now;
    first = first_passage rules.timers acts;
    second = second_passage rules.timers acts;
  }

  pub step_turn : (number now : ℕ) (input : Arrival) → input.clock ≤ now → (list : List Binding) →
      (let course : RunEffect = step rules number now input list in
      InTurn rules now list course.acts now course.list)
  step_turn number now input le list = grind (arith, common_steps, nat_tests, append-nil, run_turn)

  -- An input has at most two legs, both at its time.
  acts_are : (now : ℕ) (list : List Binding) (acts : List LegAct) (new : List Binding) → length acts ≤ 2 →
      InTurn rules now list acts now new → (log : LogModel) →
      after_input log (effects_by now acts) ≡ fold (after_record rules.timers) log acts
  acts_are now list [] new few turn log = refl
  acts_are now list (a ∷ []) new few turn log =
      let at : now ≡ a.leg.now = omega (arith, turn.0.later, turn.1.0) in
      ap (λ (n : ℕ). after_leg n (passage_of rules.timers a) log) at
  acts_are now list (a ∷ b ∷ []) new few turn log =
      let first : now ≡ a.leg.now = omega (arith, turn.0.later, turn.1.0.later, turn.1.1.0) in
      let second : now ≡ b.leg.now = omega (arith, turn.0.later, turn.1.0.later, turn.1.1.0) in
      λ i. after_leg (second i) (passage_of rules.timers b) (after_leg (first i) (passage_of rules.timers a) log)
  acts_are now list (a ∷ b ∷ c ∷ acts) new few turn log = absurd (omega (arith, few))

  effects_are : (number clock : ℕ) (inputs : List Arrival) (list : List Binding) (log : LogModel) →
      fold after_input log (traces_from rules number clock inputs list)
      ≡ fold (after_record rules.timers) log (run_from rules number clock inputs list).acts
  effects_are number clock [] list log = refl
  effects_are number clock (input ∷ inputs) list log =
      let now : ℕ = max clock input.clock in
      let course : RunEffect = step rules number now input list in
      let rest : List Trace = traces_from rules (number + 1) now inputs course.list in
      ap (λ (l : LogModel). fold after_input l rest)
      (acts_are now list course.acts course.list (step_one rules number now input list).1
      (step_turn number now input (omega arith) list) log)
      ∙ (effects_are (number + 1) now inputs course.list (fold (after_record rules.timers) log course.acts)
      ∙ sym (fold_joined (after_record rules.timers) course.acts
      (run_from rules (number + 1) now inputs course.list).acts
      log))

pub effects_are_the_log : EffectsAreTheLog
unfolding log_on
effects_are_the_log rules state log inputs = effects_are rules 0 state.clock inputs state.list log

-- WHICH EFFECTS ARE POSSIBLE: a binding that is made has an external endpoint of its own

abbrev open_rows : ℕ → List Entry → List Row
open_rows now entries = map binding_of (filter (is_open now) entries)

none_open : (now : ℕ) (r : Row) (es : List Entry) → Each (λ x. Differ x r) (open_rows now es) →
    list_any (entry_is_of now r) es ≡ false
none_open now r [] h = refl
none_open now r (e ∷ es) h = elim (is_open now e) as (λ v.
    Each (λ x. Differ x r) (map binding_of (cond v (e ∷ filter (is_open now) es) (filter (is_open now) es))) →
    ((v && shares r e.binding) || list_any (entry_is_of now r) es) ≡ false) [
      | true ↦ λ g. ap (λ v. v || list_any (entry_is_of now r) es) (differ_back e.binding r g.0) ∙
          none_open now r es g.1
      | false ↦ λ g. none_open now r es g
    ] h

idle_comes : (now : ℕ) (log : LogModel) (carried : Option Protocol) (host : ℕ) (end : End) →
    CanCome now log (loss_of carried host end)
idle_comes now log carried host end = grind (arith, common_steps, nat_tests)

found_comes : (timers : Timers) (now : ℕ) (log : LogModel) (way : Way) (b : Binding) →
    is_before now (end_of timers b) ≡ true → CanCome now log (passage_of_row way false (timed_row timers b))
found_comes timers now log Outgoing b opens = opens
found_comes timers now log Incoming b opens = opens

module _ (ends : EndsAreFirst) (rules : Rules) (t : AreTimers rules.timers) (address : ℕ) (leg : Leg)
    (list : List Binding) (log : LogModel) (tells : Tells rules.timers leg.now list (unnumbered log))
    (carried : Option Protocol) (host : ℕ) (end : End) where
  abbrev own : List Binding
  own = purge rules.timers leg.now list

  rows_are : open_rows leg.now (unnumbered log) ≡ map row own
  rows_are = sym (map_twice (λ (h : Row × Option ℕ). h.0) hold (filter (is_open leg.now) (unnumbered log)))
      ∙ (ap (map (λ (h : Row × Option ℕ). h.0)) (tells.holds ∙ sym (purge_holds rules.timers t leg.now list))
      ∙ map_twice (λ (h : Row × Option ℕ). h.0) (hold_of rules.timers) own)

  new_open : (b : Binding) → IsFresh rules.timers leg.now b → is_before leg.now (end_of rules.timers b) ≡ true
  new_open b fresh = sym (ends rules.timers t leg.now b) ∙ fresh.live

  act_comes : CanCome leg.now log
      (passage_by rules.timers leg.way carried host end (act rules address leg list).through)
  act_comes =
      of_moves rules t address leg list
      (λ went left. CanCome leg.now log (passage_by rules.timers leg.way carried host end went))
      (idle_comes leg.now log carried host end)
      (λ p f b found same keeps. found_comes rules.timers leg.now log leg.way (f b)
      (new_open (f b) (keeps b (find_passes p (IsFresh rules.timers leg.now) own b
      (fresh_purged rules.timers leg.now list) found).1)))
      (λ new out is others. subst (λ (way : Way). CanCome leg.now log
      (passage_of_row way true (timed_row rules.timers new)))
      (sym out) (
        new_open new is,
        sym (any_seen_of (entry_is_of leg.now (row new)) (λ (n : LogEntry). n.entry) log.entries)
            ∙ none_open leg.now (row new) (unnumbered log)
            (subst (Each (λ r. Differ r (row new))) (sym rows_are) (others tells.differ)),
      ))

module _ (ends : EndsAreFirst) (rules : Rules) (t : AreTimers rules.timers) where
  turn_comes : (clock : ℕ) (list : List Binding) (a : LegAct) → IsTurn rules clock list a → (log : LogModel) →
      Tells rules.timers clock list (unnumbered log) → (now : ℕ) → a.leg.now ≡ now →
      CanCome now log (passage_of rules.timers a)
  turn_comes clock list a turn log tells now same =
      let carried : Option Protocol = packet_carried (kind a.leg.packet) in
      let host : ℕ = (source a.leg.packet).address in
      subst (λ (n : ℕ). CanCome n log (passage_of rules.timers a)) same
      (subst (λ (went : Option BindingUse).
      CanCome a.leg.now log (passage_by rules.timers a.leg.way carried host a.end went)) (sym turn.through)
      (act_comes ends rules t a.address a.leg list log
      (tells_later ends rules.timers t clock a.leg.now turn.later list (unnumbered log) tells) carried host a.end))

  pub acts_come : (now : ℕ) (list : List Binding) (acts : List LegAct) (new : List Binding) → length acts ≤ 2 →
      InTurn rules now list acts now new → (log : LogModel) → Tells rules.timers now list (unnumbered log) →
      CanCome now log (first_passage rules.timers acts)
      × CanCome now (after_leg now (first_passage rules.timers acts) log) (second_passage rules.timers acts)
  acts_come now list [] new few turn log tells = (tt, tt)
  acts_come now list (a ∷ []) new few turn log tells =
      (turn_comes now list a turn.0 log tells now (omega (arith, turn.0.later, turn.1.0)), tt)
  acts_come now list (a ∷ b ∷ []) new few turn log tells =
      let first : a.leg.now ≡ now = omega (arith, turn.0.later, turn.1.0.later, turn.1.1.0) in
      let second : b.leg.now ≡ now = omega (arith, turn.0.later, turn.1.0.later, turn.1.1.0) in
      let left : List Binding = (act rules a.address a.leg list).list in
      let mid : LogModel = after_record rules.timers log a in
      let told : Tells rules.timers a.leg.now left (unnumbered mid) =
      subst (Tells rules.timers a.leg.now left) (sym (plain_act rules t now list a turn.0 log))
      (told_turn ends rules t now list (a ∷ []) a.leg.now left (unnumbered log) (turn.0, (omega arith, refl)) tells) in (
        turn_comes now list a turn.0 log tells now first,
        subst (λ (n : ℕ). CanCome now (after_leg n (passage_of rules.timers a) log) (passage_of rules.timers b)) first
            (turn_comes a.leg.now left b turn.1.0 mid told now second),
      )
  acts_come now list (a ∷ b ∷ c ∷ acts) new few turn log tells = absurd (omega (arith, few))
