-- `outbound`: the translator still satisfies `IsTranslator` after a packet through a known binding.
use Rattle.std.{proofs.Common.{◌∙◌, ℕ, Option, None, Ok, ap, subst}, specs.Prelude.IfSome}
use Rattle.napt_config.specs.declared.settings.PortBlock.{PortBlock}
use Rattle.napt_table.specs.Tables.{TableModel, OutboundPost}
use Rattle.napt_translate.proofs.translator.Translator.outbound.Goals as goal

pub invariant_of-self-in-Some : goal.invariant_of-self-in-Some
invariant_of-self-in-Some c =
    let old : TableModel = c.self.inside.table in
    let new : TableModel = c.outbound_if_bound.new.self in
    let known = subst (λ (found : Option ℕ). IfSome found (λ number. (block : Option PortBlock) →
    OutboundPost (record c.args.sent { block = block }) old new (Ok number))) c.in-Some.is
    c.in_ok-number.ensures.known in
    let left = (known None).left in
    let is = c.self.invariant in
    record {
      place = is.place;
      rules = is.rules;
      address = ap (λ (t : TableModel). t.address) left ∙ is.address;
      timers = ap (λ (t : TableModel). t.timers) left ∙ is.timers;
      assignment = ap (λ (t : TableModel). t.assignment) left ∙ is.assignment;
      inbound = ap (λ (t : TableModel). t.inbound) left ∙ is.inbound;
    }
