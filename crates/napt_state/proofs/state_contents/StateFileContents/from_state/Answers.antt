-- of: one more binding is saved, with the account at its place.
use Rattle.std.proofs.Common.{◌≡◌, List, [], ◌∷◌, ◌++◌, Option, length, sym, ◌∙◌, ap, arith}
use Rattle.std.specs.Vec.Iter.{into_iter_items}
use Rattle.napt_rules.specs.Prelude.{Binding}
use Rattle.napt_account.specs.LogStarts.{account_in}
use Rattle.napt_account.specs.declared.account.Account.{Account}
use Rattle.napt_state.specs.declared.saved_bindings.SavedBinding.{SavedBinding}
use Rattle.napt_state.specs.Saved.{saved_binding, saved_bindings}
use Rattle.napt_state.proofs.RestoredBindings.{saved_long, saved_more, split_next}
use Rattle.napt_state.proofs.state_contents.StateFileContents.from_state.Goals as goal

pub loop-binding-preserved : goal.loop-binding-preserved
loop-binding-preserved c =
    let timers = c.args.config.now.timers in
    let clock = c.state.inside.clock in
    let accounts : List (Option Account) = c.position_of-position.result.1.items in
    let seen : List Binding = c.loop-binding.yielded in
    let binding : Binding = c.in-Some.binding in
    let was = c.loop-binding.invariant in
    let long = ap length was.so_far ∙ saved_long timers clock seen accounts in
    let place : c.len-in-loop-binding.result ≡ length seen =
    (let len = c.len-in-loop-binding.ensures in let ok = c.loop-binding.bindings.ok.0 in omega (arith, long)) in
    let account = c.account_in-account.ensures
    ∙ ap (λ (l : List (Option Account)). account_in l c.len-in-loop-binding.result) c.deref.ensures.value
    ∙ ap (account_in accounts) place in
    let one = c.saved_binding.ensures ∙ ap (saved_binding timers clock binding) account in
    record {
      split = split_next seen binding (into_iter_items c.next.new.self)
          (into_iter_items c.loop-binding.binding-iterator) _ was.split c.in-Some.ensures.steps.0;
      so_far = c.in_ok-push.ensures.items
          ∙ ap (λ (l : List SavedBinding). l ++ c.saved_binding.result ∷ []) was.so_far
          ∙ ap (λ (s : SavedBinding). saved_bindings timers clock seen accounts ++ s ∷ []) one
          ∙ sym (saved_more timers clock seen binding accounts);
    }
