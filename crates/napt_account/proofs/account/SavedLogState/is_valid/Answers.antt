-- is_valid: an account is apart from all before it exactly if neither set has its number or endpoint.
use Rattle.std.proofs.Common.{rules, vec_items, vec_len, ◌≡◌, ℕ, ◌<◌, ◌==◌, Bool, true, false, not, ◌&&◌, ◌||◌, List, None, Some, length, get_or, take, refl, sym, ◌∙◌, ap, subst, arith}
use Rattle.std.specs.{List.list_any, Prelude.nat_le}
use Rattle.napt_rules.specs.Prelude.{Binding, State}
use Rattle.napt_account.specs.declared.account.Account.{Account}
use Rattle.napt_account.specs.LogStarts.{SavedLogStateModel, account_in, accounted, are_apart, is_account, most_saved}
use Rattle.napt_account.specs.OpenEntries.{entry_key, external_eq}
use Rattle.napt_account.proofs.{Accounts.{HasEndpoints, HasNumbers, any_apart, checked_none, checked_some, endpoints_more, numbers_more, seen_more, seen_same, some_binding, unchecked}, LogStarts.Kept}
use Rattle.napt_account.proofs.account.SavedLogState.is_valid.Goals as goal
use Rattle.napt_account.proofs.account.SavedLogState.is_valid.Goals.{then-not-is_within-via-then-not-is_within, then-not-is_within-via-else-not-is_within+then-contains, then-not-is_within-via-else-not-is_within+else-contains+then-contains-2}

pub loop-place-preserved-in_default : goal.loop-place-preserved-in_default
loop-place-preserved-in_default c =
    let state : State = c.args.state.now in
    let saved : SavedLogStateModel = c.args.self.now in
    let k : ℕ = c.loop-place.place in
    let long : length (vec_items c.state.inside.list) ≡ vec_len c.state.inside.list = search rules in
    let many = c.len-place-end.ensures ∙ (sym long ∙ ap length (ap (λ (s : State). s.list) c.state.view_is)) in
    let test = c.loop-place-test.true in
    let below : k < length state.list = omega (arith, many, test) in
    let none : account_in saved.accounts k ≡ None = sym c.account.ensures ∙ c.in_default.is in
    let i = c.loop-place.invariant in
    let same = seen_same saved.made state.clock state.list saved.accounts k some_binding below i.checked none in
    record {
      numbers = λ x. i.numbers x ∙ ap (list_any (λ j. j.1.number == x)) (sym same);
      endpoints = λ x. i.endpoints x ∙ ap (list_any (λ j. external_eq (entry_key j.0.row) x)) (sym same);
      checked = checked_none saved.made state.clock state.list saved.accounts k some_binding below i.checked none;
    }

or_false : (a b : Bool) → a ≡ false → b ≡ false → (a || b) ≡ false
or_false true b h g = cc
or_false false true h g = cc
or_false false false h g = refl

pub loop-place-preserved : goal.loop-place-preserved
loop-place-preserved c =
    let state : State = c.args.state.now in
    let saved : SavedLogStateModel = c.args.self.now in
    let k : ℕ = c.loop-place.place in
    let long : length (vec_items c.state.inside.list) ≡ vec_len c.state.inside.list = search rules in
    let many = c.len-place-end.ensures ∙ (sym long ∙ ap length (ap (λ (s : State). s.list) c.state.view_is)) in
    let test = c.loop-place-test.true in
    let below : k < length state.list = omega (arith, many, test) in
    let b : Binding = c.index.result.now in
    let a : Account = c.in-Some.account in
    let is : get_or state.list k b ≡ b =
    sym (c.index.ensures ∙ ap (λ (l : List Binding). get_or l k b) (ap (λ (s : State). s.list) c.state.view_is)) in
    let some : account_in saved.accounts k ≡ Some a = sym c.account.ensures ∙ c.in-Some.is in
    let i = c.loop-place.invariant in
    let kept : Kept = (get_or state.list k b, a) in
    let more = seen_more saved.made state.clock state.list saved.accounts k b below i.checked a some in
    let key = c.external_key-key.ensures.key ∙
    ap (λ (x : Binding). entry_key x.row) (c.behind-state.view_is ∙ sym is) in
    let made_is = ap (λ (s : SavedLogStateModel). s.made) c.self.view_is in
    let clock_is = ap (λ (s : State). s.clock) c.state.view_is in
    let within : is_account saved.made state.clock a ≡ true =
    sym (λ j. is_account (made_is j) (clock_is j) a)
    ∙ (sym c.is_within.ensures ∙ c.if-not-is_within.false) in
    let seen : List Kept = accounted (take k state.list) saved.accounts in
    let number : list_any (λ j. j.1.number == a.number) seen ≡ false =
    sym (i.numbers a.number) ∙ (sym c.contains.ensures ∙ c.if-contains.false) in
    let endpoint : list_any (λ j. external_eq (entry_key j.0.row) (entry_key kept.0.row)) seen ≡ false =
    ap (λ x. list_any (λ j. external_eq (entry_key j.0.row) x) seen) (sym key)
    ∙ (sym (i.endpoints c.external_key-key.result) ∙ (sym c.contains-else-contains.ensures ∙ c.if-contains-2.false)) in
    let apart : list_any (λ o. not (are_apart kept o)) seen ≡ false = any_apart kept seen
    ∙ or_false _ _ number endpoint in
    record {
      numbers = subst (λ (ks : List Kept). HasNumbers ks c.insert.new.self) (sym more)
          (numbers_more seen kept c.loop-place.numbers c.insert.new.self i.numbers c.in_ok-insert.ensures.updates.0);
      endpoints = subst (λ (ks : List Kept). HasEndpoints ks c.insert-in-loop-place.new.self) (sym more)
          (endpoints_more seen kept c.external_key-key.result key c.loop-place.endpoints c.insert-in-loop-place.new.self
          i.endpoints c.in_ok-insert-2.ensures.updates.0);
      checked = checked_some saved.made state.clock state.list saved.accounts k b below i.checked a some within apart;
    }

or_true : (a b : Bool) → b ≡ true → (a || b) ≡ true
or_true true b h = refl
or_true false b h = h

and_false : (a b : Bool) → b ≡ false → (a && b) ≡ false
and_false true b h = h
and_false false b h = refl

pub returns-then-not-is_within : goal.returns-then-not-is_within
returns-then-not-is_within c =
    let state : State = c.args.state.now in
    let saved : SavedLogStateModel = c.args.self.now in
    let k : ℕ = c.loop-place.place in
    let long : length (vec_items c.state.inside.list) ≡ vec_len c.state.inside.list = search rules in
    let many = c.len-place-end.ensures ∙ (sym long ∙ ap length (ap (λ (s : State). s.list) c.state.view_is)) in
    let test = c.loop-place-test.true in
    let below : k < length state.list = omega (arith, many, test) in
    let b : Binding = c.index.result.now in
    let a : Account = c.in-Some.account in
    let is : get_or state.list k b ≡ b =
    sym (c.index.ensures ∙ ap (λ (l : List Binding). get_or l k b) (ap (λ (s : State). s.list) c.state.view_is)) in
    let some : account_in saved.accounts k ≡ Some a = sym c.account.ensures ∙ c.in-Some.is in
    let i = c.loop-place.invariant in
    let kept : Kept = (get_or state.list k b, a) in
    let key = c.external_key-key.ensures.key ∙
    ap (λ (x : Binding). entry_key x.row) (c.behind-state.view_is ∙ sym is) in
    let made_is = ap (λ (s : SavedLogStateModel). s.made) c.self.view_is in
    let clock_is = ap (λ (s : State). s.clock) c.state.view_is in
    let within : is_account saved.made state.clock a ≡ c.is_within.result =
    sym (λ j. is_account (made_is j) (clock_is j) a) ∙ sym c.is_within.ensures in
    let seen : List Kept = accounted (take k state.list) saved.accounts in
    let fails : (is_account saved.made state.clock a && not (list_any (λ o. not (are_apart kept o)) seen)) ≡ false =
    elim c.then-not-is_within.branch [
      | then-not-is_within-via-then-not-is_within w ↦
          ap (λ v. v && not (list_any (λ o. not (are_apart kept o)) seen)) (within ∙ w.if-not-is_within.true)
      | then-not-is_within-via-else-not-is_within+then-contains w ↦
          let number : list_any (λ j. j.1.number == a.number) seen ≡ true =
          sym (i.numbers a.number) ∙ (sym w.contains.ensures ∙ w.if-contains.true) in
          and_false _ _ (ap not (any_apart kept seen
          ∙ ap (λ v. v || list_any (λ j. external_eq (entry_key j.0.row) (entry_key kept.0.row)) seen) number))
      | then-not-is_within-via-else-not-is_within+else-contains+then-contains-2 w ↦
          let endpoint : list_any (λ j. external_eq (entry_key j.0.row) (entry_key kept.0.row)) seen ≡ true =
          ap (λ x. list_any (λ j. external_eq (entry_key j.0.row) x) seen) (sym key)
          ∙ (sym (i.endpoints c.external_key-key.result) ∙
          (sym w.contains-else-contains.ensures ∙ w.if-contains-2.true)) in
          and_false _ _ (ap not (any_apart kept seen ∙ or_true _ _ endpoint))
    ] in
    sym (and_false (nat_le saved.made most_saved) _
    (unchecked saved.made state.clock state.list saved.accounts k b below i.checked a some fails))
