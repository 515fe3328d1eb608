-- saved_binding: a binding that is not live has ended by the clock, so that its end is a number of 64 bits.
use Rattle.std.proofs.lemmas.{Bool.true≢false, Bool.Decides.nat_tests}
use Rattle.std.proofs.Common.{◌≡◌, ◌≤◌, ◌-◌, ◌^◌, ◌∙◌, ℕ, Bool, true, false, cond, min, Option, Some, None, sym, ap, subst, arith}
use Rattle.napt_config.specs.Rules.{AreTimers}
use Rattle.napt_rules.specs.Prelude.{Binding, Timers, is_live}
use Rattle.napt_account.specs.declared.account.Account.{Account}
use Rattle.napt_binding.{specs.Ends.{end_by_protocol, is_before}, proofs.FirstEnds.ends_are_first}
use Rattle.napt_state.specs.Saved.{saved_binding}
use Rattle.napt_state.specs.declared.saved_bindings.SavedBinding.TheVariants as bindings
use Rattle.napt_state.proofs.saved_bindings.saved_binding.Goals as goal

past : (fixed : Bool) (clock end : ℕ) → is_before clock (cond fixed None (Some end)) ≡ false → end ≤ clock
past true clock end over = absurd (true≢false over)
past false clock end over = grind (arith, nat_tests)

small : (end clock most : ℕ) → end ≤ clock → clock ≤ most → min end most ≡ end
small end clock most over fits = omega (arith, over, fits)

ended : (timers : Timers) → AreTimers timers → (clock most : ℕ) → clock ≤ most →
    (b : Binding) (account : Option Account) →
    is_live timers clock b ≡ false → (end : ℕ) → end ≡ min (end_by_protocol b.row.protocol timers b) most →
    bindings.Ended b.row end ≡ saved_binding timers clock b account
ended timers are clock most fits b account dead end is =
    let last : ℕ = end_by_protocol b.row.protocol timers b in
    let over : last ≤ clock = past b.row.fixed clock last (sym (ends_are_first timers are clock b) ∙ dead) in
    ap (bindings.Ended b.row) (is ∙ small last clock most over fits)
    ∙ ap (λ v. cond v (bindings.Live b account) (bindings.Ended b.row last)) (sym dead)

pub returns-else-is_live : goal.returns-else-is_live
returns-else-is_live c =
    let timers = c.args.config.now.timers in
    let are = subst (λ (t : Timers). AreTimers t) c.from_config.ensures c.are_within_limits.ensures in
    let row = ap (λ (b : Binding). b.row) c.binding.view_is in
    let fits = c.ranges.clock.fits in
    ap (λ r. bindings.Ended r c.end_of.result) row
    ∙ ended timers are c.args.clock (2 ^ 64 - 1) (omega (arith, fits)) c.args.binding c.args.account
    (sym c.is_live.ensures ∙ c.if-is_live.false) c.end_of.result c.end_of.ensures
