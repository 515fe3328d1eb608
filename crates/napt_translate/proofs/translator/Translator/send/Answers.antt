-- send: a packet from inside goes out through the binding that the definition gives it, or is dropped for its cause.
use Rattle.std.{proofs.Common.{◌≡◌, ◌↔◌, ℕ, Bool, true, false, not, List, Option, Some, None, Result, Ok, Err, OnOk, refl, sym, ◌∙◌, ap, subst}, specs.Option.is_some}
use Rattle.napt_wire.specs.declared.{Cause.Cause, Endpoint.Endpoint}
use Rattle.napt_config.specs.Rules.{RulesInvariant, block_of}
use Rattle.napt_rules.specs.{declared.OutboundPacket.OutboundPacket, Prelude.{BindingUse, Binding, OutboundEffect, step_out, assignment_rules}}
use Rattle.napt_laws.{specs.BindingUses.BindingUseIsSaid, proofs.BindingUseLaws.out_says_its_binding}
use Rattle.napt_translate.specs.Translators.{TranslatorModel, is_made, outbound_at}
use Rattle.napt_translate.proofs.translator.Translator.send.Goals as goal
use Rattle.napt_translate.proofs.translator.Translator.send.Goals.{in-Ok, in-Err}

on_ok : {A E P : Type 0} (r : Result A E) → P → OnOk r P
on_ok (Ok x) p = p
on_ok (Err e) p = tt

by_before : (made : Bool) (before : Option Binding) → (made ≡ true) ↔ (before ≡ None) → made ≡ not (is_some before)
by_before true None h = refl
by_before true (Some b) h = let never : Some b ≡ None = h.0 refl in cc
by_before false None h = let never : false ≡ true = h.1 refl in cc
by_before false (Some b) h = refl

-- a packet that was translated made its binding if there was none, and one that was refused made none
made_ok : (number : Result ℕ Cause) (before after : Option Binding) (through : Option BindingUse) →
    BindingUseIsSaid number before after through → (n : ℕ) → number ≡ Ok n → is_made through ≡ not (is_some before)
made_ok (Ok m) before after through says n e = ap is_made says.is ∙ by_before says.went.made before says.made
made_ok (Err cause) before after through says n e = cc

made_err : (number : Result ℕ Cause) (before after : Option Binding) (through : Option BindingUse) →
    BindingUseIsSaid number before after through → (cause : Cause) → number ≡ Err cause → is_made through ≡ false
made_err (Ok m) before after through says cause e = cc
made_err (Err other) before after through says cause e = ap is_made says

pub returns-clause-made : goal.returns-clause-made
returns-clause-made c =
    let state : TranslatorModel = c.args.self.now in
    let packet : Endpoint → Endpoint → OutboundPacket = λ s r. record {
      protocol = c.args.protocol;
      inside = s;
      remote = r;
      flags = c.args.flags;
      now = c.args.now;
      block = block_of state.rules s.address;
    } in
    let out : Endpoint → Endpoint → OutboundEffect = λ s r. step_out state.rules.timers (assignment_rules state.rules) state.table.address
    (packet s r) state.table.list in
    let keeps : RulesInvariant state.rules =
    subst RulesInvariant (ap (λ (s : TranslatorModel). s.rules) c.in_ok-answer.ensures.out.left)
    (subst (λ (s : TranslatorModel). RulesInvariant s.rules) c.self.view_is c.self.invariant.rules) in
    let says = out_says_its_binding state.rules.timers keeps.timers (assignment_rules state.rules) state.table.address
    (packet c.source-source.result c.destination-remote.result) state.table.list in
    let moved : is_made (out c.source-source.result c.destination-remote.result).through
    ≡ is_made (outbound_at state c.args.now c.args.protocol c.args.flags c.args.packet).through =
    λ i. is_made (out (c.source-source.ensures.value i) (c.destination-remote.ensures i)).through in
    let answered = c.in_ok-answer.ensures.out.answered in
    on_ok c.match-answer.result (elim c.match-answer.branch [
      | in-Ok w ↦ w.made-is ∙ (c.in_ok-answer.ensures.is_new
          ∙ (sym (made_ok _ _ _ _ says w.in-Ok.number (sym answered ∙ w.in-Ok.is)) ∙ moved))
      | in-Err w ↦ w.made-is ∙ (sym (made_err _ _ _ _ says w.in-Err.cause (sym answered ∙ w.in-Err.is)) ∙ moved)
    ])
