-- resumed_entries: one more binding gives its entry if it has an account, and otherwise none.
use Rattle.std.proofs.Common.{rules, vec_items, vec_len, ◌≡◌, ℕ, ◌<◌, List, [], ◌∷◌, ◌++◌, None, Some, Option, Vec, length, get_or, map, take, sym, ◌∙◌, ap, arith, append-nil}
use Rattle.napt_rules.specs.Prelude.{Binding, Rules, State}
use Rattle.napt_account.specs.declared.{account.Account.Account, log.LogEntry.LogEntry}
use Rattle.napt_account.specs.LogStarts.{account_in, accounted, resumed_entry, with_account}
use Rattle.napt_account.proofs.{Accounts.{seen_next, some_binding}, Lists.map_joined, LogStarts.Kept, Redirects.entry_is}
use Rattle.napt_account.proofs.log_start.resumed_entries.Goals as goal
use Rattle.napt_account.proofs.log_start.resumed_entries.Goals.{in-Some+in_ok-push, in_default}

pub loop-place-preserved : goal.loop-place-preserved
loop-place-preserved c =
    let own : Rules = c.args.config.now in
    let state : State = c.args.state.now in
    let accounts : List (Option Account) = c.args.saved.now.accounts in
    let k : ℕ = c.loop-place.place in
    let long : length (vec_items c.state.inside.list) ≡ vec_len c.state.inside.list = search rules in
    let many = c.len-place-end.ensures ∙ (sym long ∙ ap length (ap (λ (s : State). s.list) c.state.view_is)) in
    let test = c.loop-place-test.true in
    let below : k < length state.list = omega (arith, many, test) in
    let f : Kept → LogEntry = resumed_entry own state.clock in
    let seen : List Kept = accounted (take k state.list) accounts in
    elim c.match-account.branch [
      | in-Some+in_ok-push w ↦
          let b : Binding = w.index-binding.result.now in
          let a : Account = w.in-Some.account in
          let is : get_or state.list k b ≡ b =
          sym (w.index-binding.ensures ∙ ap (λ (l : List Binding). get_or l k b)
          (ap (λ (s : State). s.list) c.state.view_is)) in
          let some : account_in accounts k ≡ Some a = sym c.account.ensures ∙ w.in-Some.is in
          let more = seen_next state.list accounts k b below
          ∙ (λ i. seen ++ with_account (is i) (some i) []) in
          let entry = w.resumed_entry.ensures ∙ entry_is own c.in_ok-redirects.redirects c.in_ok-redirects.ensures
          c.timers-timers.result c.timers-timers.ensures.timers c.state.inside.clock state.clock
          (ap (λ (s : State). s.clock) c.state.view_is) b a in
          ap (λ (v : Vec LogEntry _). v.items) w.all-is
          ∙ (w.in_ok-push.ensures.items
          ∙ (ap (λ (l : LogEntry). c.loop-place.all.items ++ l ∷ []) entry
          ∙ (ap (λ (ls : List LogEntry). ls ++ f (b, a) ∷ []) c.loop-place.invariant
          ∙ (sym (map_joined f seen ((b, a) ∷ [])) ∙ ap (map f) (sym more)))))
      | in_default w ↦
          let none : account_in accounts k ≡ None = sym c.account.ensures ∙ w.in_default.is in
          let more = seen_next state.list accounts k some_binding below
          ∙ (ap (λ (o : Option Account). seen ++ with_account (get_or state.list k some_binding) o []) none
          ∙ append-nil seen) in
          ap (λ (v : Vec LogEntry _). v.items) w.all-is
          ∙ (c.loop-place.invariant ∙ ap (map f) (sym more))
    ]
