-- The redirects of a configuration, found by a key of their protocol and both endpoints.
use Rattle.std.proofs.lemmas.{Grind.common_steps, Bool.Decides.nat_tests}
use Rattle.std.proofs.Common.{◌≡◌, ℕ, ◌+◌, ◌<◌, Bool, true, false, Some, None, ◌||◌, cond, List, [], ◌∷◌, ◌++◌, length, get_or, map, take, refl, sym, ◌∙◌, ap, arith}
use Rattle.std.specs.{List.list_any, HashSet.HashSet}
use Rattle.std.specs.HashSet as hash
use Rattle.std.proofs.lemmas.List.{take_more}
use denote.Enum.Bare.{sameb}
use Rattle.napt_wire.specs.{contracts.Protocol.the_type, declared.Protocol.{Protocol, TheVariants.{Udp, Tcp, Icmp}}}
use Rattle.napt_config.specs.{Rules.{Rules}, declared.settings.Timers.{Timers}}
use Rattle.napt_binding.specs.Ends.{end_of}
use Rattle.napt_rules.specs.{declared.Row.Row, Prelude.{Binding, opening, row, same_protocol}}
use Rattle.napt_table.specs.{declared.TimedRow.TimedRow, TimedRows.timed_row}
use Rattle.napt_account.specs.{Attribution.has_ends, LogStarts.{entry_by_account, has_redirect, resumed_entry}, Redirects.{binding_key, binding_key_eq, entry_among, is_among}, declared.{account.Account.Account, binding_end.{BindingKey.BindingKey, Redirects.Redirects}}}
use Rattle.napt_account.proofs.Lists.{any_seen_of}

protocol_same : (p q : Protocol) → sameb the_type p q ≡ same_protocol q p
protocol_same Icmp Icmp = refl
protocol_same Icmp Tcp = refl
protocol_same Icmp Udp = refl
protocol_same Tcp Icmp = refl
protocol_same Tcp Tcp = refl
protocol_same Tcp Udp = refl
protocol_same Udp Icmp = refl
protocol_same Udp Tcp = refl
protocol_same Udp Udp = refl

-- Two keys are the same if their protocols and endpoints are.
key_has_ends : (r s : Row) → binding_key_eq (binding_key r) (binding_key s) ≡ has_ends s.protocol s.inside s.external r
key_has_ends r s = grind (arith, common_steps, nat_tests, protocol_same)

any_agrees : {X : Type 0} (p q : X → Bool) (xs : List X) → ((x : X) → p x ≡ q x) → list_any p xs ≡ list_any q xs
any_agrees p q [] same = refl
any_agrees p q (x ∷ xs) same = grind (arith, same x, any_agrees p q xs same)

any_joined : {X : Type 0} (p : X → Bool) (xs : List X) (x : X) → list_any p (xs ++ x ∷ []) ≡ (p x || list_any p xs)
any_joined p [] x = refl
any_joined p (y ∷ xs) x = grind (arith, common_steps, any_joined p xs x)

-- The keys of a set are those of the first rows.
abbrev pub AreKeys : {S : Type 0} → List TimedRow → HashSet BindingKey S → Type 0
AreKeys rows keys = (x : BindingKey) →
    hash.contains binding_key_eq keys x ≡ list_any (λ timed. binding_key_eq (binding_key timed.row) x) rows

pub keys_more : {S : Type 0} (rows : List TimedRow) (k : ℕ) (d : TimedRow) → k < length rows →
    (old new : HashSet BindingKey S) → AreKeys (take k rows) old → (key : BindingKey) →
    key ≡ binding_key (get_or rows k d).row → ((x : BindingKey) → hash.contains binding_key_eq new x
    ≡ cond (binding_key_eq key x) true (hash.contains binding_key_eq old x)) → AreKeys (take (k + 1) rows) new
keys_more rows k d below old new are key is updates x =
    updates x ∙ (ap (λ (y : BindingKey). cond (binding_key_eq y x) true (hash.contains binding_key_eq old x)) is
    ∙ (as_or (binding_key_eq (binding_key (get_or rows k d).row) x) (hash.contains binding_key_eq old x)
    ∙ (ap (λ v. binding_key_eq (binding_key (get_or rows k d).row) x || v) (are x)
    ∙ (sym (any_joined (λ timed. binding_key_eq (binding_key timed.row) x) (take k rows) (get_or rows k d))
    ∙ ap (list_any (λ timed. binding_key_eq (binding_key timed.row) x)) (sym (take_more rows k d below))))))
  where
    as_or : (a b : Bool) → cond a true b ≡ (a || b)
    as_or true b = refl
    as_or false b = refl

pub keys_all : {S : Type 0} (rules : Rules) (rows : List TimedRow) → rows ≡
    map (timed_row rules.timers) (opening rules) →
    (keys : HashSet BindingKey S) → AreKeys rows keys → (wanted : Row) →
    hash.contains binding_key_eq keys (binding_key wanted) ≡ has_redirect rules wanted
keys_all rules rows is keys are wanted =
    are (binding_key wanted)
    ∙ (ap (list_any (λ timed. binding_key_eq (binding_key timed.row) (binding_key wanted))) is
    ∙ (any_seen_of (λ (timed : TimedRow). binding_key_eq (binding_key timed.row) (binding_key wanted))
    (timed_row rules.timers) (opening rules)
    ∙ any_agrees _ (λ b. has_ends wanted.protocol wanted.inside wanted.external (row b)) (opening rules)
    (λ b. key_has_ends (row b) wanted)))

-- The entry that is made with them is the one by which the log goes on.
pub entry_is : (rules : Rules) (redirects : Redirects) →
    ((wanted : Row) → is_among redirects wanted ≡ has_redirect rules wanted) →
    (timers : Timers) → timers ≡ rules.timers → (now clock : ℕ) → now ≡ clock → (b : Binding) (account : Account) →
    entry_among redirects timers now b account ≡ resumed_entry rules clock (b, account)
entry_is rules redirects are timers timers_are now clock is b account =
    λ i. entry_by_account b.row (cond b.row.fixed (cond (are b.row i) None (Some (is i))) (end_of (timers_are i) b))
    account
