-- The slots of a binding, as contracts see them.
use Rattle.std.specs.Prelude.{ℕ, List, Option}
use Rattle.napt_rules.specs.declared.Flow.{Flow}

pub record FlowSlotsModel : Type 0 where
  pub slots : List (Option Flow)
  -- The number of further slots that fit without growth.
  pub room : ℕ
