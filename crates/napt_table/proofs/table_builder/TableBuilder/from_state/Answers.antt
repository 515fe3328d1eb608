-- `from_state`: each binding of the state may be added, since the configuration accepts the state.
use Rattle.std.proofs.Common.{◌≡◌, ◌≤◌, ◌<◌, List, [], ◌∷◌, ◌++◌, map, length, get_or, sym, ◌∙◌, ap, subst}
use Rattle.napt_config.specs.Rules.{Rules}
use Rattle.napt_rules.specs.Prelude.{Binding, Each, AreFlowsOwn, State, row, AreBindingsApart}
use Rattle.napt_table.{specs.{Beginnings.state_bindings_at, Tables.{TableModel}}, proofs.ResumedTables.{begun_to, next_apart, next_last, next_flows}}
use Rattle.napt_table.proofs.table_builder.TableBuilder.from_state.Goals as goal

pub restore-requires-clause-apart : goal.restore-requires-clause-apart
restore-requires-clause-apart c =
    let k = c.loop-binding.binding-index in
    let x = c.binding-item.result in
    let config : Rules = c.args.config.now in
    let state : State = c.args.state.now in
    let list = c.deref-binding-items.ensures.value ∙ ap (λ (s : State). s.list) c.state.view_is in
    let is : get_or state.list k x ≡ x = sym (c.binding-item.is ∙ ap (λ (l : List Binding). get_or l k x) list) in
    let below : k < length state.list = rw (← list) c.loop-binding-test.true in
    subst (λ (s : TableModel). AreBindingsApart (map row
    (s.list ++ state_bindings_at s.timers s.at s.address (x ∷ []))))
    (sym c.loop-binding.invariant)
    (subst (λ (y : Binding). AreBindingsApart (map row (begun_to config c.args.address state k
    ++ state_bindings_at config.timers state.clock c.args.address (y ∷ [])))) is
    (next_apart config c.args.address state k x below c.in_ok-beginning.ensures.rules c.requires))

pub restore-requires-clause-last : goal.restore-requires-clause-last
restore-requires-clause-last c =
    let k = c.loop-binding.binding-index in
    let x = c.binding-item.result in
    let config : Rules = c.args.config.now in
    let state : State = c.args.state.now in
    let list = c.deref-binding-items.ensures.value ∙ ap (λ (s : State). s.list) c.state.view_is in
    let is : get_or state.list k x ≡ x = sym (c.binding-item.is ∙ ap (λ (l : List Binding). get_or l k x) list) in
    let below : k < length state.list = rw (← list) c.loop-binding-test.true in
    subst (λ (s : TableModel). Each (λ b. b.last ≤ s.at) (state_bindings_at s.timers s.at s.address (x ∷ [])))
    (sym c.loop-binding.invariant)
    (subst (λ (y : Binding). Each (λ b. b.last ≤ state.clock)
    (state_bindings_at config.timers state.clock c.args.address (y ∷ []))) is
    (next_last config c.args.address state k x below c.in_ok-beginning.ensures.rules c.requires))

pub restore-requires-clause-flows : goal.restore-requires-clause-flows
restore-requires-clause-flows c =
    let k = c.loop-binding.binding-index in
    let x = c.binding-item.result in
    let config : Rules = c.args.config.now in
    let state : State = c.args.state.now in
    let list = c.deref-binding-items.ensures.value ∙ ap (λ (s : State). s.list) c.state.view_is in
    let is : get_or state.list k x ≡ x = sym (c.binding-item.is ∙ ap (λ (l : List Binding). get_or l k x) list) in
    let below : k < length state.list = rw (← list) c.loop-binding-test.true in
    subst (λ (s : TableModel). Each (λ b. AreFlowsOwn s.at b.flows)
    (state_bindings_at s.timers s.at s.address (x ∷ [])))
    (sym c.loop-binding.invariant)
    (subst (λ (y : Binding). Each (λ b. AreFlowsOwn state.clock b.flows)
    (state_bindings_at config.timers state.clock c.args.address (y ∷ []))) is
    (next_flows config c.args.address state k x below c.in_ok-beginning.ensures.rules c.requires))
