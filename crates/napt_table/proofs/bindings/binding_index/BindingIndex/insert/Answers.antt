-- `insert`: the index then has the binding too, and its invariant is preserved.
use Rattle.std.proofs.{Common.{ℕ, ◌≡◌, ◌∙◌, ◌+◌, ◌||◌, ap, refl, sym, subst, cond, Some, None, arith}, lemmas.Option.same_Some}
use Rattle.napt_wire.specs.declared.Protocol.{Protocol}
use Rattle.napt_table.specs.{declared.bindings.keys.ExternalNumberKey.ExternalNumberKey, NumbersInUse.is_in_use, HeldModels.{holdings_of, number_of_inside}}
use Rattle.napt_table.specs.{BindingIndexes.{BindingIndexModel, held_binding, HasNoInside}, Keys.{key_eq, key_of, inside_key, inside_eq}}
use Rattle.napt_table.proofs.{IndexConsistency.{held_in, hosts_few, step_held, IsAt}, Keys.{key_itself, other_key}}
use Rattle.napt_table.proofs.bindings.binding_index.BindingIndex.insert.Goals as goal

pub increment-requires-clause-fits : goal.increment-requires-clause-fits
increment-requires-clause-fits c =
    let few = hosts_few c.self.inside c.self.invariant c.args.binding.row.inside.address in
    omega (arith, few)

count_more : (count then now one : ℕ) → count ≡ then + one → now + 0 ≡ then + one → count ≡ now
count_more count then now one more moved = omega arith

pub invariant_of-self : goal.invariant_of-self
invariant_of-self c =
    let is = c.self.invariant in
    let fresh = c.args.binding in
    let key = c.key_of-key.result in
    let key_is : key ≡ key_of fresh = c.key_of-key.ensures.value in
    let free : held_in c.self.inside key ≡ None =
    subst (λ (x : ExternalNumberKey). held_in c.self.inside x ≡ None) (sym key_is)
    (subst (λ (h : BindingIndexModel). held_binding h (key_of fresh) ≡ None) (sym c.self.view_is) c.requires.free) in
    let absent : HasNoInside (holdings_of c.self.inside) fresh.row.protocol fresh.row.inside =
    subst (λ (h : BindingIndexModel). HasNoInside h fresh.row.protocol fresh.row.inside) (sym c.self.view_is)
    c.requires.absent in
    let protocol : fresh.row.protocol ≡ key.protocol = sym (ap (λ (x : ExternalNumberKey). x.protocol) key_is) in
    let ends = c.inside_key-inside.ensures ∙ λ i. inside_key ((c.protocol.ensures ∙ protocol) i) (c.inside.ensures i) in
    step_held c.self.inside _ is key c.key_of-key.ensures.small fresh.row.inside None (Some fresh) free
    (λ k. c.in-Ok-insert.ensures.updates.0 k)
    (λ q e. c.in-Ok.ensures.updates.0 (inside_key q e)
    ∙ λ i. cond (inside_eq (ends i) (inside_key q e)) (Some key.number) (number_of_inside c.self.inside q e))
    (λ b h. cc)
    (λ n h. let o = is.number_is key.protocol fresh.row.inside n h in
    absurd (absent n o.0 (ap (λ (p : Protocol). held_in c.self.inside (record { number = n; protocol = p })) protocol
    ∙ o.1) o.2))
    (λ b h. subst (IsAt _ key fresh.row.inside) (same_Some fresh b h) (
      protocol,
      λ i. record {
        address = (subst (λ (h : BindingIndexModel). fresh.row.external.address ≡ h.address) (sym c.self.view_is)
            c.requires.at) i;
        number = (sym (ap (λ (x : ExternalNumberKey). x.number) key_is)) i;
      },
      refl,
    )) refl refl c.insert-3.ensures.by_protocol
    (c.insert-3.ensures.used key c.key_of-key.ensures.small
    ∙ ap (λ v. v || is_in_use c.self.inside.numbers key) (key_itself key))
    (λ k lt d. c.insert-3.ensures.used k lt ∙ ap (λ v. v || is_in_use c.self.inside.numbers k) (other_key k key d))
    c.increment.ensures.counted (λ on host n moved. count_more _ _ n _ (c.increment.ensures.counts on host) moved)

pub returns-clause-held : goal.returns-clause-held
returns-clause-held c = λ k. c.in-Ok-insert.ensures.updates.0 k
    ∙ λ i. cond (key_eq (c.key_of-key.ensures.value i) k) (Some c.args.binding) (held_binding (c.self.view_is i) k)
