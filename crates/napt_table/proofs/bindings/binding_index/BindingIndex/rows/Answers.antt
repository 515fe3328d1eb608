-- `rows`: a round of the loop that adds the row of a live binding preserves the invariant.
use Rattle.std.{proofs.{Common.{◌≡◌, ◌++◌, ◌∷◌, [], Bool, true, cond, List, map, filter, sym, ◌∙◌, ap}, lemmas.List.append_assoc}, specs.Map.Iter.deref}
use Rattle.std.proofs.lemmas.{List.Elements.All-push, Map.Iter.rest_more}
use Rattle.napt_rules.specs.{Prelude.{Binding, is_live, row}, declared.Row.Row}
use Rattle.napt_table.specs.HeldRows.{HasPortNumber}
use Rattle.napt_table.proofs.bindings.binding_index.BindingIndex.rows.Goals as goal

pub loop-binding-preserved-in-Continue-1 : goal.loop-binding-preserved-in-Continue-1
loop-binding-preserved-in-Continue-1 c =
    let before = c.loop-binding.invariant in
    let items : List Row = c.loop-binding.made.items in
    let live : Binding → Bool = is_live c.args.timers c.args.now in
    let binding : Binding = c.in-Some.binding.now in
    let next : List Binding = c.next.new.self in
    let made : Row = c.row.result in
    let step : c.loop-binding.binding-iterator ≡ binding ∷ next =
    rest_more deref _ _ c.next.result c.in-Some.binding c.in-Some.is c.next.ensures.steps in
    let lives : live binding ≡ true = sym c.is_live.ensures ∙ c.if-is_live.true in
    let left : items ++ map row (filter live c.loop-binding.binding-iterator) ≡ items ++ made
    ∷ map row (filter live next) =
    ap (λ (l : List Binding). items ++ map row (filter live l)) step
    ∙ (ap (λ v. items ++ map row (cond v (binding ∷ filter live next) (filter live next))) lives
    ∙ ap (λ (r : Row). items ++ r ∷ map row (filter live next)) (sym c.row.ensures.row)) in
    record {
      rest = ap (λ (l : List Row). l ++ map row (filter live next)) c.in_ok-push.ensures.items
          ∙ (append_assoc items (made ∷ []) (map row (filter live next)) ∙ (sym left ∙ before.rest));
      small = rw c.in_ok-push.ensures.items (All-push HasPortNumber items made before.small c.row.ensures.small);
    }
