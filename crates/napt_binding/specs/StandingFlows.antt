-- The flows of a binding that stand, that is, have an effect.
use Rattle.std.specs.Prelude.{ℕ, Bool, not, ◌||◌, ◌&&◌}
use Rattle.napt_rules.specs.{declared.Flow.Flow, Prelude.{is_tcp, is_live_flow, is_flow_of, Protocol, Timers, Endpoint}}

-- Returns whether a flow stands: a TCP flow if it is live, a flow of any other protocol always.
abbrev pub is_standing : Timers → ℕ → Protocol → Flow → Bool
is_standing timers now protocol flow = not (is_tcp protocol) || is_live_flow timers now flow

-- Returns whether a flow is of the remote and stands at a time, in ns.
abbrev pub standing_flow_of : Timers → ℕ → Protocol → Endpoint → Flow → Bool
standing_flow_of timers now protocol remote flow = is_standing timers now protocol flow && is_flow_of remote flow
