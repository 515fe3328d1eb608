-- by_last_use: the entries are the flows with their places, in ascending order of their last use.
use Rattle.std.proofs.Common.{rules, ◌≡◌, ◌<◌, ℕ, inl, inr, [], ◌∷◌, ◌++◌, get_or, Some, slice_get, length, sym, ◌∙◌, ap, subst, arith, Contains}
use Rattle.std.proofs.lemmas.{Bool.cases_eq, List.Elements.{All-push, Contains-push, Contains-append_left}}
use Rattle.std.proofs.lemmas.List.Sorted.{answers_always, All-permutation, Contains-permutation, IsNonDecreasingBy-from_sort}
use Rattle.std.proofs.lemmas.Option.{same_Some, slice_get-get_or, slice_get_within}
use Rattle.napt_rules.specs.declared.Flow.{Flow}
use Rattle.napt_binding.proofs.RestoredFlows.{nothing}
use Rattle.napt_binding.proofs.flows.flow_maps.by_last_use.Goals as goal

pub loop-place-preserved : goal.loop-place-preserved
loop-place-preserved c =
    let flows = c.args.flows.now in
    let before = c.loop-place.entries.items in
    let n = c.loop-place.place in
    let e : ℕ × Flow = (n, get_or flows n nothing) in
    let at : slice_get flows n ≡ Some e.1 = slice_get-get_or flows n nothing c.loop-place-test.true in
    rw c.in_ok-push.ensures.items (
      All-push (λ (x : ℕ × Flow). slice_get flows x.0 ≡ Some x.1) before e c.loop-place.invariant.0 at,
      λ place flow lt h. elim (cases_eq place n) [
        | inl same ↦
            let flow_is : e.1 ≡ flow = same_Some e.1 flow (sym at ∙ (ap (slice_get flows) (sym same) ∙ h)) in
            let is : e ≡ (place, flow) = ap (λ (k : ℕ). let x : ℕ × Flow = (k, e.1) in x) (sym same)
            ∙ ap (λ (f : Flow). let x : ℕ × Flow = (place, f) in x) flow_is in
            subst (Contains (before ++ e ∷ [])) is (Contains-push before e)
        | inr other ↦ Contains-append_left before (e ∷ []) (place, flow)
            (c.loop-place.invariant.1 place flow (omega (arith, lt, other)) h)
      ],
    )

pub returns : goal.returns
returns c =
    let moved = c.sort_unstable_by_key.ensures.permutation in
    let last : ℕ × Flow → ℕ = λ e. e.1.last in record {
      rising = IsNonDecreasingBy-from_sort last _ (c.sort_unstable_by_key.ensures.sorted last
          (answers_always _ _ _ (λ f a r next called. search rules)));
      each = λ place flow h.
          let within : place < length c.args.flows.now = slice_get_within c.args.flows.now place flow h in
          Contains-permutation c.loop-place.entries.items _ (place, flow) moved
          (c.loop-place.invariant.1 place flow (omega (arith, within, c.loop-place-test.false)) h);
      known = All-permutation (λ (x : ℕ × Flow). slice_get c.args.flows.now x.0 ≡ Some x.1)
          c.loop-place.entries.items _ moved c.loop-place.invariant.0;
    }
