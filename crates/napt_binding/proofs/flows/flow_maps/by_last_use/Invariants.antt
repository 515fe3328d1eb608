-- by_last_use: the entries are the flows so far with their places.
use Rattle.std.proofs.Common.{◌≡◌, ◌<◌, ℕ, Some, slice_get, All, Contains}
use Rattle.napt_rules.specs.declared.Flow.{Flow}
use Rattle.napt_binding.proofs.flows.flow_maps.by_last_use.Given as goal

abbrev pub invariant-loop-place : goal.invariant-loop-place
invariant-loop-place l =
    All (λ (entry : ℕ × Flow). slice_get l.flows entry.0 ≡ Some entry.1) l.entries.items
    × ((place : ℕ) (flow : Flow) → place < l.place → slice_get l.flows place ≡ Some flow →
    Contains l.entries.items (place, flow))
