-- `state_bindings`: a round of the loop that adds a live binding preserves the invariant.
use Rattle.std.{proofs.{Common.{◌≡◌, ◌++◌, ◌∷◌, [], Bool, true, cond, List, map, filter, sym, ◌∙◌, ap}, lemmas.List.append_assoc}, specs.Map.Iter.deref}
use Rattle.std.proofs.lemmas.{List.Elements.All-push, Map.Iter.rest_more}
use Rattle.napt_rules.specs.Prelude.{Binding, is_live, with_live_flows}
use Rattle.napt_binding.specs.Slots.{AreDistinct}
use Rattle.napt_table.proofs.bindings.binding_index.BindingIndex.state_bindings.Goals as goal

pub loop-binding-preserved-in_ok-push : goal.loop-binding-preserved-in_ok-push
loop-binding-preserved-in_ok-push c =
    let before = c.loop-binding.invariant in
    let items : List Binding = c.loop-binding.made.items in
    let live : Binding → Bool = is_live c.args.timers c.args.ago in
    let binding : Binding = c.in-Some.binding.now in
    let next : List Binding = c.next.new.self in
    let told : List Binding → List Binding = map (with_live_flows c.args.timers c.args.ago) in
    let made : Binding = c.in_ok-to_state.field-0 in
    let step : c.loop-binding.binding-iterator ≡ binding ∷ next =
    rest_more deref _ _ c.next.result c.in-Some.binding c.in-Some.is c.next.ensures.steps in
    let lives : live binding ≡ true = sym c.is_live.ensures ∙ c.if-is_live.true in
    let left : items ++ told (filter live c.loop-binding.binding-iterator) ≡ items ++ made ∷ told (filter live next) =
    ap (λ (l : List Binding). items ++ told (filter live l)) step
    ∙ (ap (λ v. items ++ told (cond v (binding ∷ filter live next) (filter live next))) lives
    ∙ ap (λ (b : Binding). items ++ b ∷ told (filter live next)) (sym c.in_ok-to_state.ensures.binding)) in
    record {
      rest = ap (λ (l : List Binding). l ++ told (filter live next)) c.in_ok-push.ensures.items
          ∙ (append_assoc items (made ∷ []) (told (filter live next)) ∙ (sym left ∙ before.rest));
      distinct = rw c.in_ok-push.ensures.items (All-push (λ b. AreDistinct b.flows) items made before.distinct
          c.in_ok-to_state.ensures.distinct);
    }
