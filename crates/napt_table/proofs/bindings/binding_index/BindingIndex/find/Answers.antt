-- `find`: the binding that is found has the key, and is at the index that is returned.
use Rattle.std.proofs.{Common.{◌≡◌, Some, sym, ap, ◌∙◌}, lemmas.Map.Made.lookup_key_passes}
use Rattle.napt_rules.specs.Prelude.{Binding}
use Rattle.napt_table.specs.{declared.bindings.{keys.ExternalNumberKey.ExternalNumberKey, binding_index.BindingIndex.TheInside.Inside}, HeldModels.IsHeld, Keys.{key_eq, key_of}}
use Rattle.napt_table.proofs.{IndexConsistency.held_in, Keys.key_is}
use Rattle.napt_table.proofs.bindings.binding_index.BindingIndex.find.Goals as goal

-- A stored binding has the protocol and number of its key.
own_key : (it : Inside) → IsHeld it → (key : ExternalNumberKey) (b : Binding) → held_in it key ≡ Some b → key ≡ key_of b
own_key it is key b h = λ i. record {
  number = (sym (is.named.external_is key b h) i).number;
  protocol = (sym (is.named.protocol_is key b h)) i;
}

pub returns-in-Some-clause-value : goal.returns-in-Some-clause-value
returns-in-Some-clause-value c =
    let is = own_key c.self.inside c.self.invariant _ c.in-Some.binding.now c.in-Some.ensures.value
    ∙ (sym c.key_of.ensures.value ∙ key_is c.key_of.result c.args.key (sym c.eq.ensures ∙ c.if-eq.true)) in
    rw (← c.self.view_is) (sym (ap (held_in c.self.inside) (sym is) ∙ c.in-Some.ensures.value))

pub returns-in-Some-clause-entry : goal.returns-in-Some-clause-entry
returns-in-Some-clause-entry c =
    let b = c.in-Some.binding.now in
    let is = own_key c.self.inside c.self.invariant _ b c.in-Some.ensures.value
    ∙ (sym c.key_of.ensures.value ∙ key_is c.key_of.result c.args.key (sym c.eq.ensures ∙ c.if-eq.true)) in
    rw (← c.self.view_is) (sym c.in-Some.ensures.entry ∙ ap (λ (k : ExternalNumberKey). Some (k, b)) is)

pub returns-in-Some-get_full-clause-entry : goal.returns-in-Some-get_full-clause-entry
returns-in-Some-get_full-clause-entry c =
    let b = c.in-Some-get_full.binding.now in
    let found : ExternalNumberKey = c.in-Some-get_full.field-0-1.now in
    let is : c.args.key ≡ found = key_is c.args.key found
    (lookup_key_passes (key_eq c.args.key) c.self.inside.by_number.entries found
    (sym c.in-Some-get_full.ensures.key)) in
    rw (← c.self.view_is) (c.in-Some-get_full.ensures.entry ∙ ap (λ (k : ExternalNumberKey). Some (k, b)) (sym is))
