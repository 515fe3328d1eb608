-- A log that is built input by input.
use Rattle.std.specs.Prelude.{◌≡◌, ℕ, ◌+◌, ◌*◌, ◌^◌, ◌<◌, ◌≤◌, Bool, List, [], ◌∷◌, map}
use Rattle.napt_config.specs.Rules.{Rules}
use Rattle.napt_rules.specs.Prelude.{Each}
use Rattle.napt_sequential.specs.declared.{fault.RunFault.RunFault, passage.Trace.Trace}
use Rattle.napt_sequential.specs.declared.fault.RunFault.TheVariants as reasons
use Rattle.napt_account.specs.{declared.{log_builder.InputPart.InputPart, open_entries.OpenEntries.OpenEntries}, Effects.{AreNextEffects, log_after}, Log.LogModel, OpenEntries.{AreKeyed, OpenEntriesShow}, LogParts.{IsNumbered, LogDelta, NumbersAscend, kept_at}}

pub record LogBuilderModel : Type 0 where
  pub rules : Rules
  -- The time of the last input; before the first input, the time at which the log began.
  pub clock : ℕ
  -- The log so far.
  pub log : LogModel
  -- The number of inputs so far.
  pub taken : ℕ
  -- True if an input was refused.
  pub is_stopped : Bool

-- A builder can begin with this log at a time, in ns: all of its entries are open then, their external endpoints are
-- distinct, and its counts are small enough for any further run.
pub record IsStart (now : ℕ) (log : LogModel) : Type 0 where
  pub kept : kept_at now log ≡ log
  pub numbered : IsNumbered log
  pub rises : NumbersAscend 1 log.entries
  pub keyed : AreKeyed (map (λ n. n.entry.binding) log.entries)
  pub made : log.made ≤ 2 ^ 62
  pub packets : Each (λ n. (n.entry.sent ≤ 2 ^ 61) × (n.entry.received ≤ 2 ^ 61)) log.entries

-- Returns the inputs in a ghost log.
abbrev pub taken_in : {X : Type 0} → List (ℕ × X) → List X
taken_in past = map (λ taken. taken.1) past

-- Returns the log in a ghost log, or the given one if there is none.
abbrev pub built_from : LogModel → List (ℕ × LogModel) → LogModel
built_from none [] = none
built_from none (kept ∷ more) = kept.1

abbrev pub built : List (ℕ × LogModel) → List (ℕ × Trace) → LogModel
built begun past =
    log_after (built_from (record { made = 0; entries = []; shortages = [] }) begun) (taken_in past)

-- The entries that a builder stores are the open entries of its log.
pub record IsBuilt (model : LogBuilderModel) (kept : OpenEntries) : Type 0 where
  pub entries : OpenEntriesShow model.clock (2 ^ 61 + 2 * model.taken) model.log kept
  pub few : model.log.made ≤ 2 ^ 62 + 2 * model.taken

-- Returns the part that an input adds to the log, as lists.
abbrev pub part_in : InputPart → LogDelta
part_in part = record { ended = part.ended.items; made = part.made.items; refused = part.refused.items }

-- An input is refused because there were too many before it, because memory is refused, or because no run has it next.
abbrev pub IsBuilderFault : LogBuilderModel → Trace → RunFault → Type 0
IsBuilderFault model effects reasons.TooMany = 2 ^ 62 ≤ model.taken + 1
IsBuilderFault model effects reasons.Memory = model.taken + 1 < 2 ^ 62
IsBuilderFault model effects (reasons.Pool fault) =
    (model.taken + 1 < 2 ^ 62) × (¬ AreNextEffects model.clock model.log effects)
