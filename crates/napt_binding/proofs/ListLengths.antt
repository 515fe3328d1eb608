-- The length of a list of few flows.
use Rattle.std.proofs.lemmas.Grind.{common_steps}
use Rattle.std.proofs.Common.{◌≡◌, ◌≤◌, ◌<◌, ◌+◌, ℕ, Bool, false, not, ◌&&◌, List, [], ◌∷◌, ◌++◌, length, ap, arith, filter, position, is_some, nat_le}
use Rattle.std.{specs.List.list_any, proofs.lemmas.{List.length_push, Bool.Decides.nat_tests}}
use Rattle.napt_config.specs.declared.settings.Timers.{Timers}
use Rattle.napt_rules.specs.declared.{Flow.Flow, OutboundPacket.OutboundPacket}
use Rattle.napt_binding.{specs.{StandingFlows.{is_standing, standing_flow_of}, OutboundFlows.standing_at, FlowStores.{most_listed, is_full}}, proofs.{StandingFlows.standing, Lists.some_place}}

pub short_filter : {X : Type 0} (p : X → Bool) (xs : List X) → length (filter p xs) ≤ length xs
short_filter p [] = omega arith
short_filter p (x ∷ xs) = grind (arith, common_steps, nat_tests, short_filter p xs)

module _ (timers : Timers) (sent : OutboundPacket) where
  pub all_standing : (flows : List Flow) → standing_at timers sent flows
      ≡ filter (is_standing timers sent.now sent.protocol) flows
  all_standing flows = standing timers sent.now sent.protocol flows

  pub short_standing : (flows : List Flow) → length (standing_at timers sent flows) ≤ length flows
  short_standing flows = rw (all_standing flows) (short_filter (is_standing timers sent.now sent.protocol) flows)

  pub never_full : (flows : List Flow) → length flows < most_listed → is_full timers sent flows ≡ false
  never_full flows lt =
      let short : length (standing_at timers sent flows) ≤ length flows = short_standing flows in
      let no : nat_le most_listed (length (standing_at timers sent flows))
      ≡ false = grind (arith, nat_tests, short, lt) in
      ap (λ v. v && not (list_any (standing_flow_of timers sent.now sent.protocol sent.remote) flows)) no

  pub full_where : (flows : List Flow) (many : ℕ) (none : Bool) → many ≡ length (standing_at timers sent flows) →
      most_listed ≤ many → is_some (position (standing_flow_of timers sent.now sent.protocol sent.remote) flows)
      ≡ not none →
      none ≡ is_full timers sent flows
  full_where flows many none is le place = grind (arith, common_steps, nat_tests, some_place)

  -- The standing flows of a list that is not full, and one more, fit into a list.
  pub fits : (flows : List Flow) (flow : Flow) → is_full timers sent flows ≡ false →
      list_any (standing_flow_of timers sent.now sent.protocol sent.remote) flows ≡ false →
      length (standing_at timers sent flows ++ flow ∷ []) ≤ most_listed
  fits flows flow room none = grind (arith, common_steps, nat_tests, length_push)
