-- An entry that has ended is final.
use Rattle.std.proofs.lemmas.{Grind.common_steps, Bool.Decides.nat_tests}
use Rattle.std.proofs.Common.{◌≡◌, ℕ, zero, suc, ◌+◌, ◌≤◌, max, false, List, [], ◌∷◌, ◌++◌, length, map, Option, Some, ◌∙◌, ap, subst, arith}
use Rattle.std.{specs.List.{fold, slice_get}, proofs.lemmas.Option.same_Some}
use Rattle.napt_config.specs.Rules.{Rules}
use Rattle.napt_binding.{specs.Ends.is_before, proofs.FirstEnds.before_sooner}
use Rattle.napt_rules.specs.Prelude.{Binding, act, LegAct, RunEffect, effect_then, step, run_from, effect_from, last_clock}
use Rattle.napt_laws.proofs.{OneMoreInput.run_append, RunInduction.{InTurn, run_turn}}
use Rattle.napt_sequential.specs.declared.passage.Passage.{Passage}
use Rattle.napt_account.specs.{declared.log.{LogEntry.LogEntry}, EndedEntries.EndedEntriesStay, Log.{LogModel, after_leg, after_record, log_on}, LogParts.is_open}
use Rattle.napt_account.proofs.ContinuedLogs.{fold_joined}

-- LISTS

pub get_mapped : {X : Type 0} (f : X → X) (xs : List X) (i : ℕ) (x : X) → slice_get xs i ≡ Some x →
    slice_get (map f xs) i ≡ Some (f x)
get_mapped f [] i x at = cc
get_mapped f (y ∷ xs) zero x at = ap (λ v. Some (f v)) (same_Some y x at)
get_mapped f (y ∷ xs) (suc i) x at = get_mapped f xs i x at

pub get_joined : {X : Type 0} (xs ys : List X) (i : ℕ) (x : X) → slice_get xs i ≡ Some x →
    slice_get (xs ++ ys) i ≡ Some x
get_joined [] ys i x at = cc
get_joined (y ∷ xs) ys zero x at = at
get_joined (y ∷ xs) ys (suc i) x at = get_joined xs ys i x at

-- ACTS

pub ended_later : (now later : ℕ) → now ≤ later → (end : Option ℕ) → is_before now end ≡ false →
    is_before later end ≡ false
ended_later now later le end ended = grind (arith, common_steps, nat_tests, before_sooner)

leg_leaves : (now : ℕ) (p : Passage) (at : ℕ) → now ≤ at → (log : LogModel) (i : ℕ) (n : LogEntry) →
    slice_get log.entries i ≡ Some n → is_open now n ≡ false → slice_get (after_leg at p log).entries i ≡ Some n
leg_leaves now p at le log i n k ended =
    grind (arith, common_steps, nat_tests, ended_later, get_joined, get_mapped)

acts_leave : (rules : Rules) (clock : ℕ) (list : List Binding) (acts : List LegAct) (last : ℕ) (new : List Binding) →
    InTurn rules clock list acts last new → (log : LogModel) (i : ℕ) (n : LogEntry) →
    slice_get log.entries i ≡ Some n → is_open clock n ≡ false →
    slice_get (fold (after_record rules.timers) log acts).entries i ≡ Some n
acts_leave rules clock list [] last new turns log i n at ended = at
acts_leave rules clock list (a ∷ acts) last new turns log i n at ended =
    let le : clock ≤ a.leg.now = turns.0.later in
    acts_leave rules a.leg.now (act rules a.address a.leg list).list acts last new turns.1
    (after_record rules.timers log a) i n (leg_leaves clock _ a.leg.now le log i n at ended)
    (ended_later clock a.leg.now le n.entry.end ended)

-- ALL INPUTS

pub ended_stay : EndedEntriesStay
unfolding log_on
ended_stay rules state log front next rest place numbered at ended =
    let first : RunEffect = effect_from rules state front in
    let told : LogModel = fold (after_record rules.timers) log first.acts in
    let many : ℕ = length front in
    let was : ℕ = last_clock state.clock front in
    let time : ℕ = max was next.clock in
    let later : RunEffect = run_from rules many was (next ∷ rest) first.list in
    let whole : RunEffect = run_from rules many time (next ∷ rest) first.list in
    let same : max time next.clock ≡ time = omega arith in
    ap (λ (c : RunEffect). slice_get (fold (after_record rules.timers) log c.acts).entries place)
    (run_append rules 0 state.clock front (next ∷ rest) state.list many (omega arith))
    ∙ (ap (λ (l : LogModel). slice_get l.entries place)
    (fold_joined (after_record rules.timers) first.acts later.acts log)
    ∙ subst (λ (now : ℕ). slice_get (fold (after_record rules.timers) told
    (effect_then (step rules many now next first.list)
    (run_from rules (many + 1) now rest (step rules many now next first.list).list)).acts).entries place
    ≡ Some numbered) same
    (acts_leave rules time first.list whole.acts (last_clock time (next ∷ rest)) whole.list
    (run_turn rules many time (next ∷ rest) first.list) told place numbered at ended))
