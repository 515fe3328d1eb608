-- What contracts see of an input of a run, without its place in memory. The number of an input is its index, from 0.
use Rattle.std.specs.Prelude.{ℕ, List}
use Rattle.napt_wire.specs.declared.Side.{Side}

pub record Arrival : Type 0 where
  pub side : Side
  -- The arrival time of the input's record, in ns.
  pub time : ℕ
  -- The greatest arrival time so far, in ns.
  pub clock : ℕ
  pub bytes : List ℕ
