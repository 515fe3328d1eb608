-- last_moment_of: one flow is live until `last`, and none of the flows so far is live later.
use Rattle.std.{proofs.Common.{◌≡◌, ℕ, ◌≤◌, ◌<◌, ◌^◌, true, take}, specs.List.list_any}
use Rattle.napt_rules.specs.Life as life
use Rattle.napt_binding.proofs.flows.flow_list.last_moment_of.Given as goal

abbrev pub invariant-loop-flow : goal.invariant-loop-flow
invariant-loop-flow l = record {
  later : l.now ≤ l.last;
  lives : (t : ℕ) → t ≤ l.last → list_any (life.is_live_flow l.timers t) l.flows ≡ true;
  far : (t : ℕ) → t < 2 ^ 64 → list_any (life.is_live_flow l.timers t) (take l.flow-index l.flows) ≡ true → t ≤ l.last;
}
