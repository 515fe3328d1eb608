-- The place to which a packet is routed, and the step of an input in terms of it.
use Rattle.std.proofs.Common.{◌≡◌, ℕ, false, List, Option, Some, None, Result, Ok, Err, IsSome, refl, ◌∙◌, ap, ok_or, is_some, not}
use Rattle.napt_config.proofs.Pools.{paired_in_pool, position_of_member}
use Rattle.napt_rules.specs.Prelude.{Binding, side_refusal, way_from, served_at, routed_by_refusal, route, Arrival, admission_from, admission_as, refused_effect, admitted_effect, first_leg, step_as, step, Side, Inside, Outside, Outgoing, Cause, Spoofed, NotOurs, destination, local_end, Rules, RulesInvariant, pair_of, pool_place, reading}
use Rattle.napt_laws.proofs.Lists.{passed}

-- ROUTES

-- The external address of a host is in the pool.
pair_in_pool : (rules : Rules) → RulesInvariant rules → (host : ℕ) → IsSome (pool_place rules (pair_of rules host))
pair_in_pool rules keeps host = position_of_member rules.pool (pair_of rules host)
    (paired_in_pool rules.block rules.inside rules.pool rules.pairs host keeps.pool.some keeps.pairs.externals)

some_is : (o : Option ℕ) → not (is_some o) ≡ false → IsSome o
some_is (Some x) h = refl
some_is None h = cc

-- The address that serves a packet that is not refused is in the pool.
served_in_pool : (rules : Rules) → RulesInvariant rules → (side : Side) (packet : List ℕ) →
    side_refusal rules side packet
    ≡ None → IsSome (pool_place rules (served_at rules (way_from side) packet))
served_in_pool rules keeps Inside packet h = pair_in_pool rules keeps (local_end Outgoing packet).address
served_in_pool rules keeps Outside packet h = some_is (pool_place rules (destination packet).address)
    (passed _ NotOurs _ (passed _ Spoofed _ h).1).0

routed_ok : (rules : Rules) (address : ℕ) (refused : Option Cause) (place : ℕ) → routed_by_refusal rules address refused
    ≡ Ok place → refused ≡ None
routed_ok rules address (Some cause) place h = cc
routed_ok rules address None place h = refl

placed : (o : Option ℕ) (cause : Cause) → IsSome o → ok_or o NotOurs ≡ Err cause → ⊥
placed (Some place) cause some h = cc
placed None cause some h = cc

routed_err : (rules : Rules) (address : ℕ) (refused : Option Cause) (cause : Cause) →
    (refused ≡ None → IsSome (pool_place rules address)) → routed_by_refusal rules address refused ≡ Err cause →
    refused ≡ Some cause
routed_err rules address (Some other) cause served h = cc
routed_err rules address None cause served h = absurd (placed (pool_place rules address) cause (served refl) h)

pub route_ok : (rules : Rules) (side : Side) (packet : List ℕ) (place : ℕ) → route rules side packet ≡ Ok place →
    side_refusal rules side packet ≡ None
unfolding route
route_ok rules side packet place h = routed_ok rules (served_at rules (way_from side) packet)
    (side_refusal rules side packet) place h

pub route_err : (rules : Rules) → RulesInvariant rules → (side : Side) (packet : List ℕ) (cause : Cause) →
    route rules side packet ≡ Err cause → side_refusal rules side packet ≡ Some cause
unfolding route
route_err rules keeps side packet cause h = routed_err rules (served_at rules (way_from side) packet)
    (side_refusal rules side packet) cause (served_in_pool rules keeps side packet) h

-- ONE INPUT

pub step_unread : (rules : Rules) (number now : ℕ) (input : Arrival) (list : List Binding) (cause : Cause) →
    reading input.side input.bytes ≡ Err cause → step rules number now input list ≡ refused_effect cause list
step_unread rules number now input list cause reads = ap (λ (r : Result (List ℕ) Cause).
    step_as rules (first_leg number now input.side) (admission_as rules input.side r) list) reads

module _ (rules : Rules) (number now : ℕ) (input : Arrival) (list : List Binding) (packet : List ℕ)
    (reads : reading input.side input.bytes ≡ Ok packet) where
  judged : (cause : Option Cause) → side_refusal rules input.side packet ≡ cause → step rules number now input list
      ≡ step_as rules (first_leg number now input.side) (admission_from packet cause) list
  judged cause is = ap (λ (r : Result (List ℕ) Cause). step_as rules (first_leg number now input.side) r list)
      (ap (admission_as rules input.side) reads ∙ ap (admission_from packet) is)

  pub step_refused : (cause : Cause) → side_refusal rules input.side packet ≡ Some cause →
      step rules number now input list ≡ refused_effect cause list
  step_refused cause against = judged (Some cause) against

  pub step_admitted : side_refusal rules input.side packet ≡ None → step rules number now input list
      ≡ admitted_effect rules (served_at rules (way_from input.side) packet) (first_leg number now input.side packet)
      list
  step_admitted free = judged None free
