-- The counts of a report, which are updated with each outcome.
use Rattle.std.specs.Prelude.{◌≡◌, ℕ, List, length, count_by, slice_index}
use denote.Enum.Declared.{tag_of}
use Rattle.napt_wire.specs.{contracts.Cause.the_type, declared.Cause.Cause}
use Rattle.napt_rules.specs.declared.Outcome.{Outcome}
use Rattle.napt_records.specs.{declared.report.OutcomeCounts.OutcomeCounts, Report.{is_to_outside, is_to_inside, is_dropped}}

-- Returns the index of a cause in the declaration of `Cause`, from 0.
abbrev pub cause_place : Cause → ℕ
cause_place = tag_of the_type

-- The counts are the number of outcomes and the number of outcomes of each kind.
pub record AreCountsOf (outcomes : List Outcome) (counts : OutcomeCounts) : Type 0 where
  pub packets : counts.packets ≡ length outcomes
  pub to_outside : counts.to_outside ≡ count_by is_to_outside outcomes
  pub to_inside : counts.to_inside ≡ count_by is_to_inside outcomes
  pub dropped : (cause : Cause) → slice_index counts.dropped (cause_place cause) ≡ count_by (is_dropped cause) outcomes
