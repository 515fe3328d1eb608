-- The conversion of the bindings of a saved state, one after another.
use Rattle.std.proofs.lemmas.{Grind.flat_map-append, List.map-append}
use Rattle.std.proofs.Common.{◌≡◌, ℕ, zero, suc, length, ◌-◌, ◌*◌, ◌^◌, ◌≤◌, Bool, true, false, ◌&&◌, cond, List, [], ◌∷◌, ◌++◌, map, flat_map, Option, Some, None, refl, sym, ◌∙◌, ap, arith, append_assoc, append-nil}
use Rattle.std.specs.Prelude.{nat_le}
use Rattle.napt_config.specs.Rules.{Rules}
use Rattle.napt_rules.specs.{Prelude.{AreTimers, Binding, Each, Timers, Protocol, Icmp, Tcp, Udp, is_live, ns_per_second}, Misfits.misfit, declared.{Misfit.Misfit, Row.Row}}
use Rattle.napt_binding.specs.Ends.{end_by_protocol, end_of}
use Rattle.napt_account.specs.declared.account.Account.{Account}
use Rattle.napt_account.specs.LogStarts.{account_in, accounted, are_accounts, is_saved_log_state, with_account}
use Rattle.napt_state.proofs.EndedBindings.{accounts_stay}
use Rattle.napt_state.specs.StateFiles.{StateFileModel}
use Rattle.napt_state.specs.declared.{saved_bindings.SavedBinding.SavedBinding, state_contents.TakenState.TakenState}
use Rattle.napt_state.specs.declared.saved_bindings.SavedBinding.TheVariants as bindings
use Rattle.napt_state.specs.Saved.{HasAccounts, IsTakenFrom, StaysEnded, accounted_in, binding_until, have_ended, log_taken, made_so_far, one_flow, saved_binding, saved_bindings, state_taken, taken_binding, taken_of, timer_of}

abbrev Taken : Type 0
Taken = Binding × Option Account

abbrev pub taken_in : Timers → ℕ → List SavedBinding → List Taken
taken_in timers clock list = flat_map (taken_binding timers clock) list

pub record TakesSoFar (timers : Timers) (clock : ℕ) (seen : List SavedBinding) (list : List Binding)
    (accounts : List (Option Account)) : Type 0 where
  pub list_is : list ≡ map (λ it. it.0) (taken_in timers clock seen)
  pub accounts_are : accounts ≡ map (λ it. it.1) (taken_in timers clock seen)

module _ (timers : Timers) (clock : ℕ) (seen : List SavedBinding) (x : SavedBinding) (list : List Binding)
    (accounts : List (Option Account)) (so_far : TakesSoFar timers clock seen list accounts) where
  more : (got : List Taken) → taken_binding timers clock x ≡ got →
      taken_in timers clock (seen ++ x ∷ []) ≡ taken_in timers clock seen ++ got
  more got is = flat_map-append (taken_binding timers clock) seen (x ∷ [])
      ∙ ap (λ l. taken_in timers clock seen ++ l) (append-nil (taken_binding timers clock x) ∙ is)

  pub taken_pushed : (b : Binding) (a : Option Account) → taken_binding timers clock x ≡ (b, a) ∷ [] →
      (bs : List Binding) (os : List (Option Account)) → bs ≡ list ++ b ∷ [] → os ≡ accounts ++ a ∷ [] →
      TakesSoFar timers clock (seen ++ x ∷ []) bs os
  taken_pushed b a is bs os bs_are os_are = record {
    list_is = bs_are ∙ ap (λ l. l ++ b ∷ []) so_far.list_is
        ∙ sym (ap (map (λ (it : Taken). it.0)) (more ((b, a) ∷ []) is)
        ∙ map-append (λ (it : Taken). it.0) (taken_in timers clock seen) ((b, a) ∷ []));
    accounts_are = os_are ∙ ap (λ l. l ++ a ∷ []) so_far.accounts_are
        ∙ sym (ap (map (λ (it : Taken). it.1)) (more ((b, a) ∷ []) is)
        ∙ map-append (λ (it : Taken). it.1) (taken_in timers clock seen) ((b, a) ∷ []));
  }

  pub taken_none : taken_binding timers clock x ≡ [] → TakesSoFar timers clock (seen ++ x ∷ []) list accounts
  taken_none is =
      let same : taken_in timers clock (seen ++ x ∷ []) ≡ taken_in timers clock seen =
      more [] is ∙ append-nil (taken_in timers clock seen) in
      record {
        list_is = so_far.list_is ∙ sym (ap (map (λ (it : Taken). it.0)) same);
        accounts_are = so_far.accounts_are ∙ sym (ap (map (λ (it : Taken). it.1)) same);
      }

-- One more item of a list is yielded.
pub split_next : {X : Type 0} (seen : List X) (x : X) (rest old all : List X) → seen ++ old ≡ all → old ≡ x ∷ rest →
    (seen ++ x ∷ []) ++ rest ≡ all
split_next seen x rest old all split is =
    append_assoc seen (x ∷ []) rest ∙ ap (λ l. seen ++ l) (sym is) ∙ split

-- WHAT A LOG CAN BEGIN WITH

held_none : (is : Bool) (b : Binding) (others : List Taken) →
    accounted (map (λ it. it.0) (cond is [] ((b, None) ∷ []) ++ others))
    (map (λ it. it.1) (cond is [] ((b, None) ∷ []) ++ others))
    ≡ accounted (map (λ it. it.0) others) (map (λ it. it.1) others)
held_none true b others = refl
held_none false b others = refl

-- The bindings that are taken have the accounts that were saved.
accounts_taken : (timers : Timers) (clock : ℕ) (list : List SavedBinding) →
    accounted (map (λ it. it.0) (taken_in timers clock list)) (map (λ it. it.1) (taken_in timers clock list))
    ≡ accounted_in list
accounts_taken timers clock [] = refl
accounts_taken timers clock (bindings.Live b account ∷ list) =
    ap (with_account b account) (accounts_taken timers clock list)
accounts_taken timers clock (bindings.Ended row end ∷ list) =
    held_none (is_live timers clock (binding_until timers row end)) (binding_until timers row end)
    (taken_in timers clock list) ∙ accounts_taken timers clock list

both : (a b c : Bool) → (a && (b && c)) ≡ true → (a && c) ≡ true
both true true c h = h
both true false c h = cc
both false b c h = cc

pub log_can_begin : (timers : Timers) (saved : StateFileModel) → HasAccounts saved →
    is_saved_log_state (state_taken timers saved) (log_taken timers saved) ≡ true
log_can_begin timers saved has =
    ap (λ (ks : List (Binding × Account)). nat_le (made_so_far saved.log) (2 ^ 61)
    && are_accounts (made_so_far saved.log) saved.clock [] ks) (accounts_taken timers saved.clock saved.bindings)
    ∙ both (nat_le (made_so_far saved.log) (2 ^ 61)) (have_ended saved.clock saved.bindings)
    (are_accounts (made_so_far saved.log) saved.clock [] (accounted_in saved.bindings)) has

started_can_begin : (ends : Bool) (rules : Rules) (saved : StateFileModel) → HasAccounts saved →
    is_saved_log_state (taken_of ends rules saved).state (taken_of ends rules saved).log ≡ true
started_can_begin false rules saved has = log_can_begin rules.timers saved has
started_can_begin true rules saved has = accounts_stay rules (state_taken rules.timers saved)
    (log_taken rules.timers saved)
    ∙ log_can_begin rules.timers saved has

pub taken_up : (ends : Bool) (rules : Rules) (saved : StateFileModel) (taken : TakenState) →
    taken ≡ taken_of ends rules saved → (found : Option (Row × Misfit)) → found ≡ misfit rules taken.state →
    found ≡ None → IsTakenFrom ends rules saved taken
taken_up ends rules saved taken is found found_is none = record {
  whole = is;
  fits = sym found_is ∙ none;
  accounts = λ has. ap (λ (t : TakenState). is_saved_log_state t.state t.log) is ∙
      started_can_begin ends rules saved has;
}

pub not_taken : (ends : Bool) (rules : Rules) (saved : StateFileModel) (taken : TakenState) →
    taken ≡ taken_of ends rules saved → (found : Option (Row × Misfit)) → found ≡ misfit rules taken.state →
    (one : Row × Misfit) → found ≡ Some one → misfit rules (taken_of ends rules saved).state ≡ Some one
not_taken ends rules saved taken is found found_is one some =
    sym (ap (λ (t : TakenState). misfit rules t.state) is) ∙ sym found_is ∙ some

-- WHAT HAD ENDED

dead_if : (timers : Timers) (clock : ℕ) (b : Binding) (is : Bool) → is_live timers clock b ≡ is →
    Each {X = Taken} (λ it. is_live timers clock it.0 ≡ false) (cond is [] ((b, None) ∷ []))
dead_if timers clock b true is = tt
dead_if timers clock b false is = (is, tt)

held_if : (timers : Timers) (b : Binding) (end : ℕ) (is : Bool) → end_of timers b ≡ Some end →
    Each {X = Taken} (λ it. end_of timers it.0 ≡ Some end) (cond is [] ((b, None) ∷ []))
held_if timers b end true is = tt
held_if timers b end false is = (is, tt)

ends_then : (timers : Timers) (row : Row) (protocol : Protocol) → row.protocol ≡ protocol → (end : ℕ) →
    timer_of protocol timers * ns_per_second ≤ end → end_by_protocol protocol timers
    (record {
      row = row;
      last = end - timer_of protocol timers * ns_per_second;
      flows = one_flow protocol (end - timer_of protocol timers * ns_per_second);
    }) ≡ end
ends_then timers row Icmp is end by = omega (arith, by)
ends_then timers row Udp is end by = omega (arith, by)
ends_then timers row Tcp is end by = omega (arith, by)

ends_at : (timers : Timers) (row : Row) (end : ℕ) → timer_of row.protocol timers * ns_per_second ≤ end →
    row.fixed ≡ false → end_of timers (binding_until timers row end) ≡ Some end
ends_at timers row end by loose =
    ap (λ v. cond v None (Some (end_by_protocol row.protocol timers (binding_until timers row end)))) loose
    ∙ ap Some (ends_then timers row row.protocol refl end by)

pub stays_ended : (timers : Timers) → AreTimers timers → (clock : ℕ) (row : Row) (end : ℕ) →
    StaysEnded timers clock row end
stays_ended timers are clock row end = record {
  dead = dead_if timers clock (binding_until timers row end) (is_live timers clock (binding_until timers row end)) refl;
  held = λ by loose earlier. held_if timers (binding_until timers row end) end
      (is_live timers clock (binding_until timers row end)) (ends_at timers row end by loose);
}

-- WHAT IS SAVED, one binding after another

none_in : (place : ℕ) → account_in [] place ≡ None
none_in zero = refl
none_in (suc place) = refl

pub saved_more : (timers : Timers) (clock : ℕ) (list : List Binding) (b : Binding) (accounts : List (Option Account)) →
    saved_bindings timers clock (list ++ b ∷ []) accounts ≡ saved_bindings timers clock list accounts
    ++ saved_binding timers clock b (account_in accounts (length list)) ∷ []
saved_more timers clock [] b [] = refl
saved_more timers clock [] b (a ∷ accounts) = refl
saved_more timers clock (x ∷ list) b [] = ap (λ l. saved_binding timers clock x None ∷ l)
    (saved_more timers clock list b []
    ∙ ap (λ o. saved_bindings timers clock list [] ++ saved_binding timers clock b o ∷ []) (none_in (length list)))
saved_more timers clock (x ∷ list) b (a ∷ accounts) =
    ap (λ l. saved_binding timers clock x a ∷ l) (saved_more timers clock list b accounts)

pub saved_long : (timers : Timers) (clock : ℕ) (list : List Binding) (accounts : List (Option Account)) →
    length (saved_bindings timers clock list accounts) ≡ length list
saved_long timers clock [] accounts = refl
saved_long timers clock (x ∷ list) [] = ap suc (saved_long timers clock list [])
saved_long timers clock (x ∷ list) (a ∷ accounts) = ap suc (saved_long timers clock list accounts)
