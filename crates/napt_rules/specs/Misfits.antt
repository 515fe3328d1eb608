-- Which states a configuration takes, and how a run under it begins with a state.
--
-- The configuration may differ from the one under which the state was saved. Bindings that are neither live nor held
-- under its timers are not checked, and a host keeps its bindings even if they exceed the quota. Where hosts have no
-- blocks, a number of any class is accepted, so that blocks can be given up without cutting connections.
use Rattle.std.specs.{Prelude.{ℕ, ◌==◌, nat_lt, Bool, true, false, not, ◌&&◌, ◌||◌, cond, List, [], ◌∷◌, ◌++◌, filter, Option, Some, None}, List.list_any}
use Rattle.napt_wire.specs.declared.Protocol.{Protocol, TheVariants.Icmp}
use Rattle.napt_config.specs.{Rules.{Rules, pair_of, block_of, is_inside, block_has_number}, declared.settings.PortBlock.PortBlock}
use Rattle.napt_rules.specs.{Bindings.{Binding, same_protocol, same_endpoint}, FlowUpdates.is_flow_of, Opening.opening, Sequential.{State, taken_at_clock}}
use Rattle.napt_rules.specs.declared.{Flow.Flow, Row.Row, Misfit.{Misfit, TheVariants.{NotInside, NotPaired, BadNumber, UsedLater, FlowsShareRemote, Redirected, EndpointShared}}}

-- UNDER A CONFIGURATION

-- The bindings of a state that are live or held at its clock and are not redirects.
abbrev pub dynamic_bindings : Rules → State → List Binding
dynamic_bindings rules state = filter (λ b. not b.row.fixed) (taken_at_clock rules state).list

-- The state as a run begins with it: the redirects of the configuration, and then those bindings.
abbrev pub with_redirects : Rules → State → State
with_redirects rules state = record state { list = opening rules ++ dynamic_bindings rules state }

-- ONE BINDING

-- Returns whether a number is valid for its protocol: a port of UDP or TCP is not 0.
abbrev pub is_number : Protocol → ℕ → Bool
is_number protocol number = same_protocol protocol Icmp || nat_lt 0 number

-- Returns whether a number is in the host's block, or the host has no block.
abbrev pub is_its_number : Option PortBlock → ℕ → Bool
is_its_number None number = true
is_its_number (Some block) number = block_has_number block number

abbrev pub is_numbered : Rules → Row → Bool
is_numbered rules row =
    is_number row.protocol row.inside.number && (is_number row.protocol row.external.number
    && is_its_number (block_of rules row.inside.address) row.external.number)

-- Returns whether the binding, or one of its flows, was last used after the clock.
abbrev pub is_used_after : ℕ → Binding → Bool
is_used_after clock binding =
    nat_lt clock binding.last || list_any (λ flow. nat_lt clock flow.last) binding.flows

abbrev pub flows_share : List Flow → Bool
flows_share [] = false
flows_share (flow ∷ flows) = list_any (is_flow_of flow.remote) flows || flows_share flows

-- Returns whether two rows of one protocol have the same external endpoint or the same inside endpoint.
abbrev pub clashes : Row → Row → Bool
clashes row other =
    same_protocol row.protocol other.protocol
    && (same_endpoint row.external other.external || same_endpoint row.inside other.inside)

abbrev pub clashes_with_any : Row → List Binding → Bool
clashes_with_any row list = list_any (λ b. clashes row b.row) list

-- Returns the first reason why a binding does not fit, given the bindings after it in the state, or none if it fits.
abbrev pub misfit_of : Rules → ℕ → Binding → List Binding → Option Misfit
misfit_of rules clock binding rest =
    let row : Row = binding.row in
    cond (not (is_inside rules row.inside.address)) (Some NotInside)
    (cond (not (row.external.address == pair_of rules row.inside.address)) (Some NotPaired)
    (cond (not (is_numbered rules row)) (Some BadNumber)
    (cond (is_used_after clock binding) (Some UsedLater)
    (cond (flows_share binding.flows) (Some FlowsShareRemote)
    (cond (clashes_with_any row (opening rules)) (Some Redirected)
    (cond (clashes_with_any row rest) (Some EndpointShared) None))))))

-- ALL BINDINGS

abbrev pub misfit_or : Row → Option Misfit → Option (Row × Misfit) → Option (Row × Misfit)
misfit_or row (Some why) others = Some (row, why)
misfit_or row None others = others

abbrev pub misfit_in : Rules → ℕ → List Binding → Option (Row × Misfit)
misfit_in rules clock [] = None
misfit_in rules clock (binding ∷ rest) =
    misfit_or binding.row (misfit_of rules clock binding rest) (misfit_in rules clock rest)

-- Returns the row of the first binding of a state that does not fit, with the reason, or none if all fit.
abbrev pub misfit : Rules → State → Option (Row × Misfit)
misfit rules state = misfit_in rules state.clock (dynamic_bindings rules state)
