-- last_moment_of: the invariant holds at the start, and with each further flow.
use Rattle.std.{proofs.{lemmas.Grind.common_steps, Common.{◌≡◌, ◌≤◌, ◌<◌, ⊎_elim, true, false, ltb, refl, sym, ◌∙◌, arith}}, specs.List.list_any}
use Rattle.std.proofs.lemmas.{Bool.{or_cases, Decides.nat_tests}, List.Folds.{list_any_at, list_any_more}}
use Rattle.napt_rules.specs.Life as life
use Rattle.napt_rules.proofs.{Lists.any_weaker, Life.lived_flow}
use Rattle.napt_binding.proofs.flows.flow_list.last_moment_of.Goals as goal

pub loop-flow-init : goal.loop-flow-init
loop-flow-init c = grind (arith, common_steps, nat_tests, any_weaker, lived_flow)

pub loop-flow-preserved : goal.loop-flow-preserved
loop-flow-preserved c =
    let inv = c.loop-flow.invariant in
    let e = c.max-last.ensures in
    let i = c.loop-flow.flow-index in record {
      later = omega arith;
      lives = λ t le. elim (ltb c.loop-flow.last t) as (λ v. ltb c.loop-flow.last t ≡ v →
          list_any (life.is_live_flow c.args.timers t) c.args.flows.now ≡ true) [
            | true ↦ λ s.
                let past : c.loop-flow.last < t = grind (arith, nat_tests) in
                let within : t ≤ c.flow_moment.result = omega arith in
                list_any_at (life.is_live_flow c.args.timers t) c.args.flows.now i _ c.loop-flow-test.true
                (c.flow_moment.ensures.lives t within)
            | false ↦ λ s. let within : t ≤ c.loop-flow.last = grind (arith, nat_tests) in inv.lives t within
          ] refl;
      far = λ t small h. ⊎_elim (λ before. let within = inv.far t small before in omega arith)
          (λ here. let within = c.flow_moment.ensures.far t small here in omega arith)
          (or_cases _ _ (sym (list_any_more (life.is_live_flow c.args.timers t) c.args.flows.now i _
          c.loop-flow-test.true) ∙ h));
    }
