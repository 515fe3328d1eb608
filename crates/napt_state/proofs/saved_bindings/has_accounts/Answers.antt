-- has_accounts: an account is apart from all before it exactly if neither set has its number or endpoint.
use Rattle.std.proofs.Common.{◌≡◌, ◌<◌, ◌≤◌, ◌==◌, ◌^◌, Bool, true, false, not, ◌&&◌, ◌||◌, List, [], ◌∷◌, ◌++◌, None, Some, get_or, length, refl, sym, ◌∙◌, ap, subst, arith}
use Rattle.std.specs.{List.list_any, Prelude.nat_le}
use Rattle.napt_rules.specs.Prelude.{Binding}
use Rattle.napt_account.specs.declared.account.Account.{Account}
use Rattle.napt_account.specs.LogStarts.{are_apart, is_account}
use Rattle.napt_account.proofs.{Accounts.{HasNumbers, any_apart, numbers_more}, LogStarts.Kept}
use Rattle.napt_state.specs.StateFiles.{StateFileModel}
use Rattle.napt_state.specs.Saved.{accounted_in, made_so_far}
use Rattle.napt_state.specs.StateReaders.{state_external_key, state_key_eq}
use Rattle.napt_state.specs.declared.saved_bindings.SavedBinding.{SavedBinding}
use Rattle.napt_state.specs.declared.saved_bindings.SavedBinding.TheVariants as bindings
use Rattle.napt_state.proofs.SavedAccounts.{HasKeys, fits, has_not, keys_more, le_by, late, looked_ended, looked_none, looked_some, misplaced, or_false, or_true, seen, seen_next, seen_same}
use Rattle.napt_state.proofs.saved_bindings.has_accounts.Goals as goal
use Rattle.napt_state.proofs.saved_bindings.has_accounts.Goals.{then-not-is_within-via-then-not-is_within, then-not-is_within-via-else-not-is_within+then-contains, then-not-is_within-via-else-not-is_within+else-contains+then-contains-2}

pub loop-binding-preserved-in_default : goal.loop-binding-preserved-in_default
loop-binding-preserved-in_default c =
    let s : StateFileModel = c.args.contents.now in
    let made = c.made_so_far-made.result in
    let k = c.loop-binding.binding-index in
    let x : SavedBinding = c.binding-item.result in
    let list_is = c.deref-binding-items.ensures.value ∙ ap (λ (m : StateFileModel). m.bindings) c.contents.view_is in
    let below : k < length s.bindings =
    omega (arith, c.loop-binding-test.true, ap (length {A = SavedBinding}) list_is) in
    let here : get_or s.bindings k x ≡ x =
    sym (c.binding-item.is ∙ ap (λ (l : List SavedBinding). get_or l k x) list_is) in
    let i = c.loop-binding.invariant in
    let b : Binding = c.in-Live.binding in
    let is = c.in-Live.is ∙ ap (bindings.Live b) c.in_default.is in
    let same = seen_same made s.clock s.bindings k x below here i.looked
    (ap (λ (y : SavedBinding). accounted_in (y ∷ [])) is) in
    record {
      numbers = λ n. i.numbers n ∙ ap (list_any (λ (j : Kept). j.1.number == n)) (sym same);
      endpoints = λ y. i.endpoints y
          ∙ ap (list_any (λ (j : Kept). state_key_eq (state_external_key j.0.row) y)) (sym same);
      looked = looked_none made s.clock s.bindings k x below here i.looked b is;
    }

pub loop-binding-preserved-in-Ended : goal.loop-binding-preserved-in-Ended
loop-binding-preserved-in-Ended c =
    let s : StateFileModel = c.args.contents.now in
    let made = c.made_so_far-made.result in
    let k = c.loop-binding.binding-index in
    let x : SavedBinding = c.binding-item.result in
    let list_is = c.deref-binding-items.ensures.value ∙ ap (λ (m : StateFileModel). m.bindings) c.contents.view_is in
    let below : k < length s.bindings =
    omega (arith, c.loop-binding-test.true, ap (length {A = SavedBinding}) list_is) in
    let here : get_or s.bindings k x ≡ x =
    sym (c.binding-item.is ∙ ap (λ (l : List SavedBinding). get_or l k x) list_is) in
    let i = c.loop-binding.invariant in
    let is = c.in-Ended.is in
    let same = seen_same made s.clock s.bindings k x below here i.looked
    (ap (λ (y : SavedBinding). accounted_in (y ∷ [])) is) in
    let clock_is = ap (λ (m : StateFileModel). m.clock) c.contents.view_is in
    let by : c.in-Ended.end ≤ s.clock = omega (arith, c.if-contents-end.false, clock_is) in
    record {
      numbers = λ n. i.numbers n ∙ ap (list_any (λ (j : Kept). j.1.number == n)) (sym same);
      endpoints = λ y. i.endpoints y
          ∙ ap (list_any (λ (j : Kept). state_key_eq (state_external_key j.0.row) y)) (sym same);
      looked = looked_ended made s.clock s.bindings k x below here i.looked _ c.in-Ended.end is (le_by _ _ by);
    }

pub loop-binding-preserved : goal.loop-binding-preserved
loop-binding-preserved c =
    let s : StateFileModel = c.args.contents.now in
    let made = c.made_so_far-made.result in
    let k = c.loop-binding.binding-index in
    let x : SavedBinding = c.binding-item.result in
    let list_is = c.deref-binding-items.ensures.value ∙ ap (λ (m : StateFileModel). m.bindings) c.contents.view_is in
    let below : k < length s.bindings =
    omega (arith, c.loop-binding-test.true, ap (length {A = SavedBinding}) list_is) in
    let here : get_or s.bindings k x ≡ x =
    sym (c.binding-item.is ∙ ap (λ (l : List SavedBinding). get_or l k x) list_is) in
    let i = c.loop-binding.invariant in
    let b : Binding = c.in-Live.binding in
    let a : Account = c.in-Some.account in
    let is = c.in-Live.is ∙ ap (bindings.Live b) c.in-Some.is in
    let kept : Kept = (b, a) in
    let more = seen_next made s.clock s.bindings k x below here i.looked (kept ∷ [])
    (ap (λ (y : SavedBinding). accounted_in (y ∷ [])) is) in
    let key = c.external_key-key.ensures ∙ ap (λ (y : Binding). state_external_key y.row) c.binding.view_is in
    let clock_is = ap (λ (m : StateFileModel). m.clock) c.contents.view_is in
    let within : is_account made s.clock a ≡ true = sym (ap (λ t. is_account made t a) clock_is)
    ∙ (sym c.is_within.ensures ∙ c.if-not-is_within.false) in
    let so_far : List Kept = seen made s.clock s.bindings k in
    let number : list_any (λ (j : Kept). j.1.number == a.number) so_far ≡ false =
    sym (i.numbers a.number) ∙ (sym c.contains.ensures ∙ c.if-contains.false) in
    let endpoint : list_any (λ (j : Kept). state_key_eq (state_external_key j.0.row) (state_external_key b.row)) so_far
    ≡ false = ap (λ y. list_any (λ (j : Kept). state_key_eq (state_external_key j.0.row) y) so_far) (sym key)
    ∙ (sym (i.endpoints c.external_key-key.result) ∙ (sym c.contains-else-contains.ensures ∙ c.if-contains-2.false)) in
    let apart : list_any (λ o. not (are_apart kept o)) so_far ≡ false = any_apart kept so_far
    ∙ or_false _ _ number endpoint in
    record {
      numbers = subst (λ (ks : List Kept). HasNumbers ks c.insert.new.self) (sym more)
          (numbers_more so_far kept c.loop-binding.numbers c.insert.new.self i.numbers
          c.in_ok-insert.ensures.updates.0);
      endpoints = subst (λ (ks : List Kept). HasKeys ks c.insert-in-loop-binding.new.self) (sym more)
          (keys_more so_far kept c.external_key-key.result key c.loop-binding.endpoints
          c.insert-in-loop-binding.new.self i.endpoints c.in_ok-insert-2.ensures.updates.0);
      looked = looked_some made s.clock s.bindings k x below here i.looked b a is within apart;
    }

and_false : (a b : Bool) → b ≡ false → (a && b) ≡ false
and_false true b h = h
and_false false b h = refl

pub returns-then-not-is_within : goal.returns-then-not-is_within
returns-then-not-is_within c =
    let s : StateFileModel = c.args.contents.now in
    let made = c.made_so_far-made.result in
    let k = c.loop-binding.binding-index in
    let x : SavedBinding = c.binding-item.result in
    let list_is = c.deref-binding-items.ensures.value ∙ ap (λ (m : StateFileModel). m.bindings) c.contents.view_is in
    let below : k < length s.bindings =
    omega (arith, c.loop-binding-test.true, ap (length {A = SavedBinding}) list_is) in
    let here : get_or s.bindings k x ≡ x =
    sym (c.binding-item.is ∙ ap (λ (l : List SavedBinding). get_or l k x) list_is) in
    let i = c.loop-binding.invariant in
    let b : Binding = c.in-Live.binding in
    let a : Account = c.in-Some.account in
    let is = c.in-Live.is ∙ ap (bindings.Live b) c.in-Some.is in
    let kept : Kept = (b, a) in
    let key = c.external_key-key.ensures ∙ ap (λ (y : Binding). state_external_key y.row) c.binding.view_is in
    let clock_is = ap (λ (m : StateFileModel). m.clock) c.contents.view_is in
    let within : is_account made s.clock a ≡ c.is_within.result = sym (ap (λ t. is_account made t a) clock_is)
    ∙ sym c.is_within.ensures in
    let so_far : List Kept = seen made s.clock s.bindings k in
    let wrong : (is_account made s.clock a && not (list_any (λ o. not (are_apart kept o)) so_far)) ≡ false =
    elim c.then-not-is_within.branch [
      | then-not-is_within-via-then-not-is_within w ↦
          ap (λ v. v && not (list_any (λ o. not (are_apart kept o)) so_far)) (within ∙ w.if-not-is_within.true)
      | then-not-is_within-via-else-not-is_within+then-contains w ↦
          let number : list_any (λ (j : Kept). j.1.number == a.number) so_far ≡ true =
          sym (i.numbers a.number) ∙ (sym w.contains.ensures ∙ w.if-contains.true) in
          and_false _ _ (ap not (any_apart kept so_far ∙ ap (λ v. v || list_any (λ (j : Kept).
          state_key_eq (state_external_key j.0.row) (state_external_key b.row)) so_far) number))
      | then-not-is_within-via-else-not-is_within+else-contains+then-contains-2 w ↦
          let endpoint : list_any (λ (j : Kept). state_key_eq (state_external_key j.0.row) (state_external_key b.row))
          so_far ≡ true = ap (λ y. list_any (λ (j : Kept). state_key_eq (state_external_key j.0.row) y) so_far)
          (sym key)
          ∙ (sym (i.endpoints c.external_key-key.result)
          ∙ (sym w.contains-else-contains.ensures ∙ w.if-contains-2.true)) in
          and_false _ _ (ap not (any_apart kept so_far ∙ or_true _ _ endpoint))
    ] in
    let made_is : made ≡ made_so_far s.log =
    c.made_so_far-made.ensures ∙ ap (λ (m : StateFileModel). made_so_far m.log) c.contents.view_is in
    sym (has_not s made made_is
    (misplaced made s.clock s.bindings k x below here i.looked b a is wrong))
