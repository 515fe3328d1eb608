-- step_all: one more input can be translated, and its outcome is appended.
use Rattle.std.proofs.{Common.{◌≡◌, ℕ, ◌+◌, List, [], ◌∷◌, ◌++◌, take, length, sym, ◌∙◌, ap, subst, arith}, lemmas.List.{take_more, length-take-le}}
use Rattle.napt_config.specs.Rules.{Rules}
use Rattle.napt_rules.specs.{Prelude.{opening, Arrival, initial_state, run}, declared.Outcome.Outcome}
use Rattle.napt_sequential.specs.SequentialRuns.{IsRunFromOpening}
use Rattle.napt_sequential.proofs.run.step_all.Goals as goal

pub advance-requires-clause-few : goal.advance-requires-clause-few
advance-requires-clause-few c =
    let n : ℕ = c.loop-input.input-index in
    let lt = c.loop-input-test.true in
    let long : length (take n c.args.inputs.now) ≡ n = length-take-le n c.args.inputs.now (omega arith) in
    let few = c.requires.few in
    (initial_state c.args.config.now, (take n c.args.inputs.now, c.loop-input.invariant.stands, omega arith))

pub loop-input-preserved : goal.loop-input-preserved
loop-input-preserved c =
    let rules : Rules = c.args.config.now in
    let n : ℕ = c.loop-input.input-index in
    let inputs : List Arrival = c.args.inputs.now in
    let before : List Arrival = take n inputs in
    let input : Arrival = c.input-item.result in
    let so_far = c.loop-input.invariant in
    let told = c.in_ok-stepped.stepped in
    let tells = c.in_ok-stepped.ensures.tells (initial_state rules) before so_far.stands in
    let more : take (n + 1) inputs ≡ before ++ input ∷ [] =
    take_more inputs n input c.loop-input-test.true ∙ ap (λ (x : Arrival). before ++ x ∷ []) (sym c.input-item.is) in
    record {
      stands = subst (λ (done : List Arrival). IsRunFromOpening rules done c.advance.new.self) (sym more)
          (c.in_ok-stepped.ensures.stands (initial_state rules) before so_far.stands);
      outcomes = c.in_ok-push.ensures.items
          ∙ (ap (λ (os : List Outcome). os ++ told.outcome ∷ []) so_far.outcomes
          ∙ (sym tells.outcome ∙ ap (λ (done : List Arrival). (run rules done (opening rules)).outcomes) (sym more)));
    }
