-- saved: the map finds the account of each open entry, and a binding gets the account at its endpoint.
use Rattle.std.proofs.Common.{◌≡◌, ℕ, ◌+◌, ◌<◌, ◌≤◌, List, [], ◌∷◌, ◌++◌, None, false, Option, length, get_or, map, take, sym, ◌∙◌, ap, subst}
use Rattle.std.proofs.lemmas.List.{take_all, take_more}
use Rattle.std.specs.HashMap as hash
use Rattle.napt_wire.specs.declared.Protocol.TheVariants.{Icmp}
use Rattle.napt_rules.specs.{declared.Row.Row, Prelude.{Binding, State}}
use Rattle.napt_account.specs.{declared.{account.Account.Account, log.LogEntry.LogEntry}, Log.{LogModel, unused_entry}, LogStarts.account_at, OpenEntries.{entry_key, external_eq}}
use Rattle.napt_account.proofs.{Lists.map_joined, OpenLogs.{IsMap, accounts_are, map_more, map_same}}
use Rattle.napt_account.proofs.open_log.OpenLog.saved.Goals as goal
use Rattle.napt_account.proofs.open_log.OpenLog.saved.Goals.{then-not-contains_key+in_ok-insert, else-not-contains_key}

abbrev nobodys : Row
nobodys = record {
  protocol = Icmp;
  inside = record { address = 0; number = 0 };
  external = record { address = 0; number = 0 };
  fixed = false;
}

abbrev none : LogEntry
none = record { number = 0; entry = unused_entry nobodys 0 None }

pub loop-numbered-preserved : goal.loop-numbered-preserved
loop-numbered-preserved c =
    let entries : List LogEntry = c.args.self.now.entries in
    let items : List LogEntry = c.deref-numbered-items.result.now in
    let same : items ≡ entries = c.deref-numbered-items.ensures.value ∙
    ap (λ (s : LogModel). s.entries) c.self.view_is in
    let k : ℕ = c.loop-numbered.numbered-index in
    let below : k < length items = c.loop-numbered-test.true in
    let old : IsMap (take k items) c.loop-numbered.by_key =
    subst (λ (es : List LogEntry). IsMap (take k es) c.loop-numbered.by_key) (sym same) c.loop-numbered.invariant in
    subst (λ (es : List LogEntry). IsMap (take (k + 1) es) c.if-not-contains_key.by_key) same
    (elim c.if-not-contains_key.branch [
      | then-not-contains_key+in_ok-insert w ↦
          subst (IsMap (take (k + 1) items)) (sym w.by_key-is)
          (map_more items k none below c.loop-numbered.by_key old c.external_key-key.result
          c.external_key-key.ensures.key
          (sym c.contains_key.ensures ∙ w.if-not-contains_key.true) w.insert.new.self w.from_entry.result
          w.from_entry.ensures w.in_ok-insert.ensures.updates.0)
      | else-not-contains_key w ↦
          subst (IsMap (take (k + 1) items)) (sym w.by_key-is)
          (map_same items k none below c.loop-numbered.by_key old c.external_key-key.result
          c.external_key-key.ensures.key
          (sym c.contains_key.ensures ∙ w.if-not-contains_key.false))
    ])

pub loop-binding-preserved : goal.loop-binding-preserved
loop-binding-preserved c =
    let state : State = c.args.state.now in
    let list : List Binding = state.list in
    let same = c.deref-binding-items.ensures.value ∙ ap (λ (s : State). s.list) c.state.view_is in
    let k : ℕ = c.loop-binding.binding-index in
    let b : Binding = c.binding-item.result in
    let is : get_or list k b ≡ b = sym (c.binding-item.is ∙ ap (λ (l : List Binding). get_or l k b) same) in
    let below : k < length list = rw (← same) c.loop-binding-test.true in
    let under : Binding → Option Account = λ b. hash.get external_eq c.loop-numbered.by_key (entry_key b.row) in
    c.in_ok-push.ensures.items
    ∙ (ap (λ (o : Option Account). c.loop-binding.accounts.items ++ o ∷ []) (c.account_under.ensures
    ∙ ap under c.binding.view_is)
    ∙ (ap (λ (os : List (Option Account)). os ++ under b ∷ []) c.loop-binding.invariant
    ∙ (sym (map_joined under (take k list) (b ∷ []))
    ∙ ap (map under) (ap (λ (x : Binding). take k list ++ x ∷ []) (sym is) ∙ sym (take_more list k b below)))))

pub returns : goal.returns
returns c = λ now kept.
    let log : LogModel = c.args.self.now in
    let state : State = c.args.state.now in
    let all : IsMap log.entries c.loop-numbered.by_key =
    (let same = c.deref-numbered-items.ensures.value ∙ ap (λ (s : LogModel). s.entries) c.self.view_is in
    let past : length log.entries ≤ c.loop-numbered.numbered-index = rw (← same) c.loop-numbered-test.false in
    subst (λ (es : List LogEntry). IsMap es c.loop-numbered.by_key)
    (take_all c.loop-numbered.numbered-index log.entries past) c.loop-numbered.invariant) in
    let under : Binding → Option Account = λ b. hash.get external_eq c.loop-numbered.by_key (entry_key b.row) in
    let same = c.deref-binding-items.ensures.value ∙ ap (λ (s : State). s.list) c.state.view_is in
    let past : length state.list ≤ c.loop-binding.binding-index = rw (← same) c.loop-binding-test.false in
    let accounts : c.loop-binding.accounts.items ≡ map (λ b. account_at now log b.row) state.list =
    c.loop-binding.invariant ∙ (ap (map under) (take_all c.loop-binding.binding-index state.list past)
    ∙ accounts_are log c.loop-numbered.by_key all now kept state.list) in
    let made = ap (λ (s : LogModel). s.made) c.self.view_is in
    λ i. record { made = made i; accounts = accounts i }
