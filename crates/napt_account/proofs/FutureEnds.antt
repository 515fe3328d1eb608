-- After each leg the binding that it went through has an end in the future.
use Rattle.std.proofs.lemmas.{Grind.common_steps, Bool.Decides.nat_tests}
use Rattle.std.proofs.Common.{◌≡◌, ℕ, true, List, Option, Some, None, sym, ◌∙◌, arith}
use Rattle.napt_rules.specs.Prelude.{Protocol, Way, Rules, AreTimers, Timers}
use Rattle.napt_binding.{specs.Ends.{end_of, is_before, EndsAreFirst}}
use Rattle.napt_rules.specs.{declared.{Leg.Leg, End.End}, Prelude.{BindingUse, Binding, purge, act, LegAct}}
use Rattle.napt_laws.proofs.{FreshBindings.{IsFresh, fresh_purged}, Lists.find_passes, RunInduction.{IsTurn}}
use Rattle.napt_sequential.specs.{declared.passage.Passage.{Passage, TheVariants.{Made, Out, In}}, Traces.{passage_by, passage_of}}
use Rattle.napt_account.proofs.BindingChanges.{of_moves}

-- The binding of a leg has an end in the future.
abbrev pub LeavesOpen : ℕ → Passage → Type 0
LeavesOpen now (Made timed) = is_before now timed.end ≡ true
LeavesOpen now (Out timed) = is_before now timed.end ≡ true
LeavesOpen now (In timed) = is_before now timed.end ≡ true
LeavesOpen now _ = Unit {0}

abbrev pub Opens : Timers → ℕ → Option BindingUse → Type 0
Opens timers now None = Unit {0}
Opens timers now (Some went) = is_before now (end_of timers went.binding) ≡ true

by_leaves : (timers : Timers) (way : Way) (protocol : Option Protocol) (host : ℕ) (end : End) (went : Option BindingUse)
    (now : ℕ) → Opens timers now went → LeavesOpen now (passage_by timers way protocol host end went)
by_leaves timers way protocol host end went now h = grind (arith, common_steps, nat_tests)

module _ (first : EndsAreFirst) (rules : Rules) (t : AreTimers rules.timers) where
  fresh_open : (now : ℕ) (b : Binding) → IsFresh rules.timers now b → is_before now (end_of rules.timers b) ≡ true
  fresh_open now b fresh = sym (first rules.timers t now b) ∙ fresh.live

  pub act_opens : (address : ℕ) (leg : Leg) (list : List Binding) →
      Opens rules.timers leg.now (act rules address leg list).through
  act_opens address leg list =
      let own : List Binding = purge rules.timers leg.now list in
      of_moves rules t address leg list (λ went left. Opens rules.timers leg.now went) tt
      (λ p f b found same keeps. fresh_open leg.now (f b) (keeps b (find_passes p (IsFresh rules.timers leg.now) own b
      (fresh_purged rules.timers leg.now list) found).1))
      (λ new out is others. fresh_open leg.now new is)

  pub turn_leaves : (clock : ℕ) (list : List Binding) (a : LegAct) → IsTurn rules clock list a → (now : ℕ) →
      a.leg.now ≡ now →
      LeavesOpen now (passage_of rules.timers a)
  turn_leaves clock list a turn now same = grind (arith, common_steps, nat_tests, by_leaves, act_opens)
