-- A run with its log takes one more input.
use Rattle.std.proofs.lemmas.{Grind.common_steps, Bool.Decides.nat_tests}
use Rattle.std.proofs.Common.{◌≡◌, ◌↔◌, ℕ, ◌+◌, ◌^◌, ◌<◌, ◌≤◌, max, List, [], ◌∷◌, ◌++◌, length, Result, Err, sym, ◌∙◌, ap, arith}
use Rattle.napt_rules.specs.Prelude.{Arrival, Rules, State, last_clock}
use Rattle.napt_laws.proofs.OneMoreInput.{clock_more}
use Rattle.napt_sequential.specs.{Traces.traces_of, declared.{fault.RunFault.{RunFault, TheVariants.{TooMany, Memory}}, passage.Trace.Trace}}
use Rattle.napt_account.specs.{Effects.{EffectsAreTheLog, AreNextEffects, log_after}, Log.{LogModel, after_input, log_on}, LogBuilders.{IsBuilderFault, LogBuilderModel, taken_in}, LogParts.part_between, ResumedLogRuns.part_of}
use Rattle.napt_account.proofs.{ContinuedLogs.fold_joined, Lists.map_joined}

module _ (are : EffectsAreTheLog) (rules : Rules) (state : State) (log : LogModel) (before : List Arrival)
    (input : Arrival) (effects : Trace)
    (more : traces_of rules state (before ++ input ∷ []) ≡ traces_of rules state before ++ effects ∷ []) where
  -- The log of the run with the input.
  pub log_next : after_input (log_on rules state log before) effects ≡ log_on rules state log (before ++ input ∷ [])
  log_next =
      ap (λ (l : LogModel). after_input l effects) (sym (are rules state log before))
      ∙ (sym (fold_joined after_input (traces_of rules state before) (effects ∷ []) log)
      ∙ (ap (log_after log) (sym more) ∙ are rules state log (before ++ input ∷ [])))

  -- The part that the input adds.
  pub part_next : effects.now ≡ last_clock state.clock (before ++ input ∷ []) →
      part_between (last_clock state.clock before) effects.now (log_on rules state log before)
      (after_input (log_on rules state log before) effects) ≡ part_of rules state log before input
  part_next time =
      let was : ℕ = last_clock state.clock before in
      let now : effects.now ≡ max was input.clock = time ∙ clock_more state.clock before input in
      λ i. part_between was (now i) (log_on rules state log before) (log_next i)

-- A log takes more inputs than a run does, and the effects of each input of the run.
pub log_fault : (builder : LogBuilderModel) (many : ℕ) → builder.taken ≡ many → many + 1 < 2 ^ 32 → (effects : Trace) →
    AreNextEffects builder.clock builder.log effects → (fault : RunFault) → IsBuilderFault builder effects fault →
    fault ≡ Memory
log_fault builder many is few effects next fault j = grind (arith, common_steps, nat_tests)

pub not_many : {T : Type 0} (inputs : List Arrival) → length inputs + 1 < 2 ^ 32 → (fault : RunFault) → fault ≡ Memory →
    ((let r : Result T RunFault = Err fault in r ≡ Err TooMany) ↔ (2 ^ 32 ≤ length inputs + 1))
not_many inputs few fault memory = (λ e. cc (e, memory), λ many. absurd (omega (arith, many, few)))

-- A ghost log of what was taken, with one more value.
pub taken_more : {X : Type 0} (past : List (ℕ × X)) (n : ℕ) (x : X) → taken_in (past ++ (n, x) ∷ []) ≡
    taken_in past ++ x ∷ []
taken_more past n x = map_joined (λ (taken : ℕ × _). taken.1) past ((n, x) ∷ [])
