-- The part of a state with which a run continues, and the endpoints of its bindings.
use Rattle.std.proofs.lemmas.{Grind.common_steps, Bool.Decides.nat_tests}
use Rattle.std.proofs.Common.{◌≡◌, ℕ, zero, suc, ◌==◌, ◌<◌, ◌≤◌, Bool, true, false, not, ◌&&◌, ◌||◌, cond, List, [], ◌∷◌, ◌++◌, ◌-◌, map, drop, get_or, length, refl, sym, ◌∙◌, ap, subst, arith, filter}
use Rattle.std.proofs.Math.Seq.{drop-cons}
use Rattle.std.specs.{List.{retain_mut, Retain.RetainsInTurn}, HashSet.HashSet}
use Rattle.std.specs.HashSet as hash
use denote.Enum.Bare.{sameb}
use Rattle.napt_wire.specs.contracts.Protocol.{the_type}
use Rattle.napt_rules.specs.declared.{Flow.Flow, Row.Row}
use Rattle.napt_rules.specs.Prelude.{Binding, Protocol, Icmp, Tcp, Udp, Timers, Rules, State, same_protocol, is_live, with_live_flows, purge, hold_ago, live_and_held, dynamic_bindings, with_redirects, opening, flows_share, clashes, is_flow_of}
use Rattle.napt_rules.proofs.Lists.{each_filter, filter_all}
use Rattle.napt_laws.proofs.{Lists.{filter_map, filter_swap}, Purges.purge_purge}
use Rattle.napt_state.specs.declared.endpoints.{EndpointKey.EndpointKey, Endpoints.Endpoints}
use Rattle.napt_state.specs.StateReaders.{state_external_key, state_inside_key, state_key_eq, clash, AreEndpointsOf, AreRemotes}
use Rattle.napt_binding.specs.Lists.{pair_eq}

-- LOOSE BINDINGS

abbrev is_loose : Binding → Bool
is_loose b = not b.row.fixed

-- `retain_mut` of a function, if each call returns and changes what the function says and does not change the closure.
pub retained : {S X : Type 0} (R : S → X → Bool → S → X → Type 0) (test : X → Bool) (change : X → X) (f : S) →
    ((x : X) (b : Bool) (t : S) (y : X) → R f x b t y → (t ≡ f) × (b ≡ test x) × (y ≡ change x)) → (s : S) → s ≡ f →
    (xs ys : List X) → RetainsInTurn R s xs ys → ys ≡ retain_mut test change xs
retained R test change f h s is [] ys k = k
retained R test change f h s is (x ∷ xs) ys k =
    let said = h x k.0 k.1 k.2 (subst (λ (q : _). R q x k.0 k.1 k.2) is k.3) in
    let rest = retained R test change f h k.1 said.0 xs k.4 k.5 in
    k.6 ∙ (λ i. cond (said.1 i) (said.2 i ∷ rest i) (rest i))

pub loose_is : (timers : Timers) (now : ℕ) (xs : List Binding) →
    retain_mut (λ b. not b.row.fixed && is_live timers now b) (with_live_flows timers now) xs
    ≡ filter is_loose (purge timers now xs)
loose_is timers now [] = refl
loose_is timers now (b ∷ xs) = grind (arith, common_steps, loose_is timers now xs)

loose_purge : (timers : Timers) (now : ℕ) (xs : List Binding) → purge timers now (filter is_loose xs)
    ≡ filter is_loose (purge timers now xs)
loose_purge timers now xs = sym (filter_map is_loose (with_live_flows timers now) (filter (is_live timers now) xs)
    (λ b. refl) ∙ ap (map (with_live_flows timers now)) (filter_swap is_loose (is_live timers now) xs))

pub loose_twice : (rules : Rules) (state : State) →
    dynamic_bindings rules (record state { list = dynamic_bindings rules state }) ≡ dynamic_bindings rules state
loose_twice rules state =
    let now : ℕ = hold_ago rules.timers state.clock in
    let kept : List Binding = live_and_held rules.timers state.clock state.list in
    ap (filter is_loose) (loose_purge rules.timers now kept
    ∙ ap (filter is_loose) (purge_purge rules.timers now now (omega arith) state.list))
    ∙ filter_all is_loose (filter is_loose kept) (each_filter is_loose kept)

under_same : (rules : Rules) (state : State) → with_redirects rules
    (record state { list = dynamic_bindings rules state })
    ≡ with_redirects rules state
under_same rules state = ap (λ (list : List Binding). record state { list = opening rules ++ list })
    (loose_twice rules state)

pub kept_loose : (rules : Rules) (old new : State) → new ≡ record old { list = dynamic_bindings rules old } →
    (dynamic_bindings rules new ≡ new.list) × (with_redirects rules new ≡ with_redirects rules old)
kept_loose rules old new is = subst (λ (s : State). (dynamic_bindings rules s ≡ s.list) ×
    (with_redirects rules s ≡ with_redirects rules old))
    (sym is) (loose_twice rules old, under_same rules old)

-- ENDPOINTS

same_either : (a b : ℕ) → (a == b) ≡ (b == a)
same_either a b = grind (arith, nat_tests)

protocol_either : (p q : Protocol) → sameb the_type p q ≡ same_protocol q p
protocol_either Icmp Icmp = refl
protocol_either Icmp Tcp = refl
protocol_either Icmp Udp = refl
protocol_either Tcp Icmp = refl
protocol_either Tcp Tcp = refl
protocol_either Tcp Udp = refl
protocol_either Udp Icmp = refl
protocol_either Udp Tcp = refl
protocol_either Udp Udp = refl

pub cond_or : (a b : Bool) → cond a true b ≡ (a || b)
cond_or true b = refl
cond_or false b = refl

either : (a b c d p x y : Bool) → (cond (a && (b && p)) true x || cond (c && (d && p)) true y)
    ≡ ((p && ((a && b) || (c && d))) || (x || y))
either a b c d p x y = grind arith

keys : (row other : Row) (x y : Bool) → (cond (state_key_eq (state_external_key row) (state_external_key other)) true x
    || cond (state_key_eq (state_inside_key row) (state_inside_key other)) true y) ≡ (clashes other row || (x || y))
keys row other x y = rw (
  protocol_either row.protocol other.protocol,
  same_either row.external.address other.external.address,
  same_either row.external.number other.external.number,
  same_either row.inside.address other.inside.address,
  same_either row.inside.number other.inside.number,
) (either (other.external.address == row.external.address) (other.external.number == row.external.number)
    (other.inside.address == row.inside.address) (other.inside.number == row.inside.number)
    (same_protocol other.protocol row.protocol) x y)

pub clash_more : (old new : Endpoints) (row : Row) (external inside : EndpointKey) → external ≡ state_external_key row →
    inside ≡ state_inside_key row →
    ((k : EndpointKey) → hash.contains state_key_eq new.external k
    ≡ cond (state_key_eq external k) true (hash.contains state_key_eq old.external k)) →
    ((k : EndpointKey) → hash.contains state_key_eq new.inside k
    ≡ cond (state_key_eq inside k) true (hash.contains state_key_eq old.inside k)) →
    (other : Row) → clash new other ≡ (clashes other row || clash old other)
clash_more old new row external inside is its outer inner other =
    ap (λ b. b || hash.contains state_key_eq new.inside (state_inside_key other)) (outer (state_external_key other)
    ∙ ap (λ (k : EndpointKey). cond (state_key_eq k (state_external_key other)) true
    (hash.contains state_key_eq old.external (state_external_key other))) is)
    ∙ ap (λ b. cond (state_key_eq (state_external_key row) (state_external_key other)) true
    (hash.contains state_key_eq old.external (state_external_key other)) || b) (inner (state_inside_key other)
    ∙ ap (λ (k : EndpointKey). cond (state_key_eq k (state_inside_key other)) true
    (hash.contains state_key_eq old.inside (state_inside_key other))) its)
    ∙ keys row other (hash.contains state_key_eq old.external (state_external_key other))
    (hash.contains state_key_eq old.inside (state_inside_key other))

pub are_more : (list : List Binding) (b : Binding) (row : Row) (old new : Endpoints) → row ≡ b.row →
    AreEndpointsOf list old → ((other : Row) → clash new other ≡ (clashes other row || clash old other)) →
    AreEndpointsOf (b ∷ list) new
are_more list b row old new is are more other =
    more other ∙ ap (λ (r : Row). clashes other r || clash old other) is
    ∙ ap (λ v. clashes other b.row || v) (are other)

pub told_true : (told b : Bool) → told ≡ not b → told ≡ false → b ≡ true
told_true told true is h = refl
told_true told false is h = sym h ∙ is

pub told_false : (told b : Bool) → told ≡ not b → told ≡ true → b ≡ false
told_false told true is h = sym h ∙ is
told_false told false is h = refl

-- PLACES, from the last to the first

pub drop_before : {X : Type 0} (xs : List X) (left : ℕ) (d : X) → 0 < left → left ≤ length xs →
    drop (left - 1) xs ≡ get_or xs (left - 1) d ∷ drop left xs
drop_before xs left d some within =
    let next : suc (left - 1) ≡ left = omega arith in
    drop-cons xs (left - 1) d (omega arith)
    ∙ ap (λ n. get_or xs (left - 1) d ∷ drop n xs) next
