-- `remove`: the index then lacks only the binding, and its invariant is preserved.
use Rattle.std.{proofs.{Common.{ℕ, ◌≡◌, ◌+◌, ◌-◌, ◌&&◌, not, cond, Some, None, refl, sym, ap, ◌∙◌, arith}, lemmas.Option.same_Some}, specs.Map.lookup}
use Rattle.napt_rules.specs.Prelude.{Binding}
use Rattle.napt_table.{specs.{NumbersInUse.is_in_use, Keys.{key_eq, inside_key, inside_eq}, HeldModels.number_of_inside}, proofs.IndexConsistency.{same_held, step_held}}
use Rattle.napt_table.proofs.Keys.{key_itself, other_key}
use Rattle.napt_table.proofs.bindings.binding_index.BindingIndex.remove.Goals as goal

pub invariant_of-self : goal.invariant_of-self
invariant_of-self c = same_held c.self.inside _ c.self.invariant refl refl
    (λ k. ap (lookup (key_eq k)) c.in_default.ensures.unchanged) (λ q e. refl) refl refl (λ host. refl)

count_less : (count then now one : ℕ) → count ≡ then - one → now + one ≡ then + 0 → count ≡ now
count_less count then now one less moved = omega arith

pub invariant_of-self-2 : goal.invariant_of-self-2
invariant_of-self-2 c =
    let is = c.self.invariant in
    let key = c.args.key in
    let dead = c.in-Some.binding in
    let there = sym c.in-Some.ensures.value in
    let ends = c.inside_key.ensures ∙ λ i. inside_key ((c.protocol.ensures ∙ is.named.protocol_is key dead there) i)
    (c.inside.ensures i) in
    step_held c.self.inside _ is key (is.named.small key dead there) dead.row.inside (Some dead) None there
    (λ k. c.swap_remove_full.ensures.updates.0 k)
    (λ q e. c.remove.ensures.updates.0 (inside_key q e)
    ∙ λ i. cond (inside_eq (ends i) (inside_key q e)) None (number_of_inside c.self.inside q e))
    (λ b h. ap (λ (x : Binding). x.row.inside) (same_Some b dead (sym h)))
    (λ n h. same_Some n key.number (sym h ∙ is.inside_is key dead there)) (λ b h. cc) refl refl
    c.remove-2.ensures.by_protocol
    (c.remove-2.ensures.used key (is.named.small key dead there)
    ∙ ap (λ v. not v && is_in_use c.self.inside.numbers key) (key_itself key))
    (λ k lt d. c.remove-2.ensures.used k lt ∙ ap (λ v. not v && is_in_use c.self.inside.numbers k) (other_key k key d))
    c.decrement.ensures.counted (λ on host n moved. count_less _ _ n _ (c.decrement.ensures.counts host) moved)

pub returns-clause-held : goal.returns-clause-held
returns-clause-held c = rw (← c.self.view_is) (λ k. c.swap_remove_full.ensures.updates.0 k)
