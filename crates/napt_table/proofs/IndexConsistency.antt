-- The index stays consistent when a binding is stored, removed or changed: found by both keys, and counted.
use Rattle.std.proofs.Common.{◌≡◌, ◌≢◌, ℕ, zero, suc, ◌+◌, ◌*◌, ◌<◌, ◌≤◌, ◌^◌, Bool, true, false, not, ◌&&◌, cond, List, [], ◌∷◌, Option, Some, None, refl, sym, ◌∙◌, ap, subst, arith, eqb}
use Rattle.std.{specs.{Prelude.{find, slice_get, IfSome}, Option.{is_some, option_map}, Map.{lookup, values_of}}, proofs.lemmas.Bool.true≢false}
use Rattle.std.proofs.lemmas.Option.{same_Some}
use Rattle.indexmap.{specs.IndexMap.{with_value_at, IsUnique}, proofs.CallerLemmas.updates-with_value_at}
use Rattle.napt_config.specs.{Rules.IsPortBlock, declared.settings.{PortBlock.PortBlock, Timers.Timers}}
use Rattle.napt_wire.specs.declared.{Protocol.{Protocol, TheVariants.{Icmp, Tcp, Udp}}, Endpoint.Endpoint}
use Rattle.napt_rules.specs.{declared.{AssignmentRules.AssignmentRules, Row.Row}, Prelude.{NumberAssignment, Each, Binding, is_live, with_live_flows, row, candidates}}
use Rattle.napt_binding.specs.declared.address_counts.AddressCounts.{AddressCounts}
use Rattle.napt_table.specs.{declared.bindings.{keys.ExternalNumberKey.ExternalNumberKey, binding_index.BindingIndex.TheInside.Inside}, Counts.{are_counted, count_by, count_in}}
use Rattle.napt_table.specs.{Hosts.{held_counts_for, count_held}, HeldLists.seen_binding, BindingIndexes.{BindingIndexModel, held_binding, held_at, count_all, IsNumberOf, HoldsSame, ChangesOne}}
use Rattle.napt_table.specs.{HeldModels.{holdings_of, number_of_inside, IsHeld}, NumbersInUse.{is_in_use, AreByProtocol}, Keys.{key_eq, inside_eq, external_key, inside_key}}
use Rattle.napt_table.proofs.{InBlock.each_small, Hosts.{count_same, count_changed, count_none, count_few}, SeenBindings.{seen_is, seen_live}}
use Rattle.napt_table.proofs.Keys.{by_key, at_key, past_key, by_inside, inside_same, key_equiv}

-- COUNTS

sum_changed : (f g : Protocol → ℕ) (p : Protocol) (x y : ℕ) → ((q : Protocol) → q ≢ p → f q ≡ g q) →
    f p + x ≡ g p + y → ((f Icmp + f Tcp) + f Udp) + x ≡ ((g Icmp + g Tcp) + g Udp) + y
sum_changed f g Icmp x y same changed =
    let t = same Tcp (λ (e : Tcp ≡ Icmp). cc) in let u = same Udp (λ (e : Udp ≡ Icmp). cc) in omega arith
sum_changed f g Tcp x y same changed =
    let i = same Icmp (λ (e : Icmp ≡ Tcp). cc) in let u = same Udp (λ (e : Udp ≡ Tcp). cc) in omega arith
sum_changed f g Udp x y same changed =
    let i = same Icmp (λ (e : Icmp ≡ Udp). cc) in let t = same Tcp (λ (e : Tcp ≡ Udp). cc) in omega arith

count_all_changed : (old new : BindingIndexModel) (host : ℕ) (key : ExternalNumberKey) → key.number < 2 ^ 16 →
    ((other : ExternalNumberKey) → other ≢ key → held_binding new other ≡ held_binding old other) →
    count_all new host + cond {A = ℕ} (held_counts_for host (held_binding old key)) 1 0
    ≡ count_all old host + cond {A = ℕ} (held_counts_for host (held_binding new key)) 1 0
count_all_changed old new host key small others =
    sum_changed (λ q. count_held (held_at new q) host) (λ q. count_held (held_at old q) host) key.protocol
    (cond {A = ℕ} (held_counts_for host (held_binding old key)) 1 0)
    (cond {A = ℕ} (held_counts_for host (held_binding new key)) 1 0)
    (λ q d. count_same (held_at old q) (held_at new q) host (λ n lt. ap (held_counts_for host)
    (others (external_key q n) (λ e. d (ap (λ (x : ExternalNumberKey). x.protocol) e)))))
    (count_changed (held_at old key.protocol) (held_at new key.protocol) host key.number small
    (λ n d. others (external_key key.protocol n) (λ e. d (ap (λ (x : ExternalNumberKey). x.number) e))))

count_all_same : (old new : BindingIndexModel) (host : ℕ) →
    ((key : ExternalNumberKey) → held_binding new key ≡ held_binding old key) →
    count_all new host ≡ count_all old host
count_all_same old new host same =
    let each : (q : Protocol) → count_held (held_at new q) host ≡ count_held (held_at old q) host =
    λ q. count_same (held_at old q) (held_at new q) host (λ n lt. ap (held_counts_for host) (same (external_key q n)))
    in
    λ i. (each Icmp i + each Tcp i) + each Udp i

count_all_few : (all : BindingIndexModel) (host : ℕ) → count_all all host ≤ 3 * 2 ^ 16
count_all_few all host =
    let i = count_few (held_at all Icmp) host in let t = count_few (held_at all Tcp) host in
    let u = count_few (held_at all Udp) host in omega (arith, i, t, u)

not_counted_by : (o : Option AddressCounts) (host : ℕ) → is_some o ≡ false → count_by o host ≡ 0
not_counted_by None host off = refl
not_counted_by (Some counts) host off = cc

-- A host's count is at most the number of all external numbers.
pub hosts_few : (it : Inside) → IsHeld it → (host : ℕ) → count_in it.hosts host ≤ 3 * 2 ^ 16
hosts_few it is host = elim (are_counted it.hosts) as (λ v. are_counted it.hosts ≡ v → count_in it.hosts host
    ≤ 3 * 2 ^ 16) [
      | true ↦ λ on. subst (λ (n : ℕ). n ≤ 3 * 2 ^ 16) (sym (is.counted on host)) (count_all_few (holdings_of it) host)
      | false ↦ λ off. subst (λ (n : ℕ). n ≤ 3 * 2 ^ 16) (sym (not_counted_by it.hosts.counts host off)) (omega arith)
    ] refl

abbrev pub held_in : Inside → ExternalNumberKey → Option Binding
held_in it key = held_binding (holdings_of it) key

at_address : (a b n : ℕ) → a ≡ b → (x : Endpoint) → x ≡ record { address = b; number = n } → x ≡ record {
  address = a;
  number = n;
}
at_address a b n e x h = h ∙ ap (λ (z : ℕ). let y : Endpoint = record { address = z; number = n } in y) (sym e)

-- A LOOK-UP

pub number_found : (it : Inside) → IsHeld it → (protocol : Protocol) (inside : Endpoint) →
    IsNumberOf (holdings_of it) protocol inside (number_of_inside it protocol inside)
number_found it is protocol inside number = (
  is.number_is protocol inside number,
  λ has. ap (number_of_inside it protocol) (sym has.2) ∙ is.inside_is (external_key protocol number) has.0 has.1,
)

-- A STEP AT ONE NUMBER: the binding there, with its inside endpoint, is replaced

-- An optional binding that has a number.
numbered : (o : Option Binding) (m n : ℕ) → option_map (λ b. m) o ≡ Some n → (b : Binding) × (o ≡ Some b) × (m ≡ n)
numbered None m n h = cc
numbered (Some b) m n h = (b, refl, same_Some m n h)

-- The binding has the protocol and number of the key, and the inside endpoint.
abbrev pub IsAt : ℕ → ExternalNumberKey → Endpoint → Binding → Type 0
IsAt address key inside b = (b.row.protocol ≡ key.protocol)
    × (b.row.external ≡ record { address = address; number = key.number }) × (b.row.inside ≡ inside)

module _ (old new : Inside) (is : IsHeld old) (key : ExternalNumberKey) (small : key.number < 2 ^ 16)
    (inside : Endpoint)
    (was left : Option Binding) (there : held_in old key ≡ was)
    (holds : (k : ExternalNumberKey) → held_in new k ≡ cond (key_eq key k) left (held_in old k))
    (insides : (q : Protocol) (e : Endpoint) → number_of_inside new q e
    ≡ cond (inside_eq (inside_key key.protocol inside) (inside_key q e)) (option_map (λ b. key.number) left)
    (number_of_inside old q e))
    (had : (b : Binding) → was ≡ Some b → b.row.inside ≡ inside)
    (only : (n : ℕ) → number_of_inside old key.protocol inside ≡ Some n → n ≡ key.number)
    (fits : (b : Binding) → left ≡ Some b → IsAt new.address key inside b)
    (address : new.address ≡ old.address) (assignment : new.assignment ≡ old.assignment) where
  here : held_in new key ≡ left
  here = holds key ∙ at_key key left (held_in old key)

  others : (k : ExternalNumberKey) → k ≢ key → held_in new k ≡ held_in old k
  others k d = holds k ∙ past_key key left (held_in old k) k d

  step_by : (P : ExternalNumberKey → Binding → Type 0) → ((b : Binding) → left ≡ Some b → P key b) →
      ((k : ExternalNumberKey) (b : Binding) → k ≢ key → held_in old k ≡ Some b → P k b) →
      (k : ExternalNumberKey) (b : Binding) → held_in new k ≡ Some b → P k b
  step_by P at_it rest k = by_key key k (λ n. (b : Binding) → held_in new n ≡ Some b → P n b)
      (λ b h. at_it b (sym here ∙ h)) (λ d b h. rest k b d (sym (others k d) ∙ h))

  inside_here : number_of_inside new key.protocol inside ≡ option_map (λ b. key.number) left
  inside_here = insides key.protocol inside ∙ ap (λ v. cond v (option_map (λ b. key.number) left)
      (number_of_inside old key.protocol inside)) (inside_same key.protocol key.protocol inside inside refl refl)

  inside_others : (q : Protocol) (e : Endpoint) → inside_eq (inside_key key.protocol inside) (inside_key q e) ≡ false →
      number_of_inside new q e ≡ number_of_inside old q e
  inside_others q e t = insides q e ∙ ap (λ v. cond v (option_map (λ b. key.number) left) (number_of_inside old q e)) t

  step_inside : (k : ExternalNumberKey) (b : Binding) → k ≢ key → held_in old k ≡ Some b →
      number_of_inside new k.protocol b.row.inside ≡ Some k.number
  step_inside k b d h = by_inside key.protocol k.protocol inside b.row.inside (λ q e. q ≡ k.protocol →
      number_of_inside old q e ≡ Some k.number → number_of_inside new q e ≡ Some k.number)
      (λ p g. absurd (d (λ i. record { number = only k.number g i; protocol = (sym p) i })))
      (λ t p g. inside_others k.protocol b.row.inside t ∙ g) refl (is.inside_is k b h)

  step_number : (q : Protocol) (e : Endpoint) (n : ℕ) → number_of_inside new q e ≡ Some n →
      (b : Binding) × (held_in new (external_key q n) ≡ Some b) × (b.row.inside ≡ e)
  step_number q e n = by_inside key.protocol q inside e (λ q e. number_of_inside new q e ≡ Some n →
      (b : Binding) × (held_in new (external_key q n) ≡ Some b) × (b.row.inside ≡ e))
      (λ h. let s = numbered left key.number n (sym inside_here ∙ h) in
      (s.0, ap (λ (m : ℕ). held_in new (external_key key.protocol m)) (sym s.2) ∙ (here ∙ s.1), (fits s.0 s.1).2))
      (λ t h. let o = is.number_is q e n (sym (inside_others q e t) ∙ h) in
      let differs : external_key q n ≢ key = λ x. true≢false (sym (inside_same key.protocol q inside e
      (sym (ap (λ (y : ExternalNumberKey). y.protocol) x)) (sym (had o.0 (sym there ∙ (ap (held_in old) (sym x) ∙ o.1)))
      ∙ o.2)) ∙ t) in
      (o.0, others (external_key q n) differs ∙ o.1, o.2))

  pub step_held : AreByProtocol new.numbers → is_in_use new.numbers key ≡ is_some left →
      ((k : ExternalNumberKey) → k.number < 2 ^ 16 → k ≢ key → is_in_use new.numbers k ≡ is_in_use old.numbers k) →
      are_counted new.hosts ≡ are_counted old.hosts →
      (are_counted old.hosts ≡ true → (host n : ℕ) → n + cond {A = ℕ} (held_counts_for host was) 1 0
      ≡ count_in old.hosts host + cond {A = ℕ} (held_counts_for host left) 1 0 → count_in new.hosts host ≡ n) →
      IsHeld new
  step_held by_protocol used_here used_others counting counts = record {
    named = record {
      protocol_is = step_by (λ k b. b.row.protocol ≡ k.protocol) (λ b h. (fits b h).0)
          (λ k b d h. is.named.protocol_is k b h);
      external_is = step_by (λ k b. b.row.external ≡ record { address = new.address; number = k.number })
          (λ b h. (fits b h).1)
          (λ k b d h. at_address new.address old.address k.number address b.row.external (is.named.external_is k b h));
      small = step_by (λ k b. k.number < 2 ^ 16) (λ b h. small) (λ k b d h. is.named.small k b h);
    };
    inside_is = step_by (λ k b. number_of_inside new k.protocol b.row.inside ≡ Some k.number)
        (λ b h. ap (number_of_inside new key.protocol) (fits b h).2
        ∙ (inside_here ∙ ap (option_map (λ (x : Binding). key.number)) h)) step_inside;
    number_is = step_number;
    by_protocol = by_protocol;
    used_is = λ k. by_key key k (λ n. n.number < 2 ^ 16 → is_in_use new.numbers n ≡ is_some (held_in new n))
        (λ lt. used_here ∙ sym (ap is_some here))
        (λ d lt. used_others k lt d ∙ (is.used_is k lt ∙ sym (ap is_some (others k d))));
    counting = counting ∙ (is.counting ∙ ap (λ (g : AssignmentRules). is_some g.quota) (sym assignment));
    counted = λ on host. counts (sym counting ∙ on) host (count_all (holdings_of new) host)
        (ap (λ (o : Option Binding). count_all (holdings_of new) host + cond {A = ℕ} (held_counts_for host o) 1 0)
        (sym there)
        ∙ (count_all_changed (holdings_of old) (holdings_of new) host key small others
        ∙ λ i. (sym (is.counted (sym counting ∙ on) host)) i + cond {A = ℕ} (held_counts_for host (here i)) 1 0));
  }

-- NOTHING CHANGES

pub same_held : (old new : Inside) → IsHeld old → new.address ≡ old.address → new.assignment ≡ old.assignment →
    ((k : ExternalNumberKey) → held_in new k ≡ held_in old k) →
    ((q : Protocol) (e : Endpoint) → number_of_inside new q e ≡ number_of_inside old q e) →
    new.numbers ≡ old.numbers → are_counted new.hosts ≡ are_counted old.hosts →
    ((host : ℕ) → count_in new.hosts host ≡ count_in old.hosts host) → IsHeld new
same_held old new is address assignment holds insides numbers counting counts = record {
  named = record {
    protocol_is = λ k b h. is.named.protocol_is k b (sym (holds k) ∙ h);
    external_is = λ k b h. at_address new.address old.address k.number address b.row.external
        (is.named.external_is k b (sym (holds k) ∙ h));
    small = λ k b h. is.named.small k b (sym (holds k) ∙ h);
  };
  inside_is = λ k b h. insides k.protocol b.row.inside ∙ is.inside_is k b (sym (holds k) ∙ h);
  number_is = λ q e n h. let o = is.number_is q e n (sym (insides q e) ∙ h) in
      (o.0, holds (external_key q n) ∙ o.1, o.2);
  by_protocol = subst AreByProtocol (sym numbers) is.by_protocol;
  used_is = λ k lt. ap (λ (u : _). is_in_use u k) numbers ∙ (is.used_is k lt ∙ ap is_some (sym (holds k)));
  counting = counting ∙ (is.counting ∙ ap (λ (g : AssignmentRules). is_some g.quota) (sym assignment));
  counted = λ on host. counts host ∙ (is.counted (sym counting ∙ on) host
      ∙ sym (count_all_same (holdings_of old) (holdings_of new) host holds));
}

-- NOTHING IS STORED

pub none_held : (it : Inside) → it.by_number.entries ≡ [] → it.by_inside.entries ≡ [] → AreByProtocol it.numbers →
    ((key : ExternalNumberKey) → is_in_use it.numbers key ≡ false) →
    are_counted it.hosts ≡ is_some it.assignment.quota →
    ((host : ℕ) → count_in it.hosts host ≡ 0) → IsHeld it
none_held it no_numbers no_insides by_protocol unused counting no_counts =
    let none : (key : ExternalNumberKey) → held_in it key ≡ None = λ key. ap (lookup (key_eq key)) no_numbers in
    let zero : (q : Protocol) (host : ℕ) → count_held (held_at (holdings_of it) q) host ≡ 0 =
    λ q host. count_none (held_at (holdings_of it) q) host (λ n. none (external_key q n)) in
    record {
      named = record {
        protocol_is = λ k b h. let z : None ≡ Some b = sym (none k) ∙ h in cc;
        external_is = λ k b h. let z : None ≡ Some b = sym (none k) ∙ h in cc;
        small = λ k b h. let z : None ≡ Some b = sym (none k) ∙ h in cc;
      };
      inside_is = λ k b h. let z : None ≡ Some b = sym (none k) ∙ h in cc;
      number_is = λ q e n h.
          let z : None ≡ Some n = sym (ap (lookup (inside_eq (inside_key q e))) no_insides) ∙ h in cc;
      by_protocol = by_protocol;
      used_is = λ k lt. unused k ∙ sym (ap is_some (none k));
      counting = counting;
      counted = λ on host. no_counts host
          ∙ sym (λ i. (zero Icmp host i + zero Tcp host i) + zero Udp host i);
    }

-- A CHOICE

find_agree_each : (p q : ℕ → Bool) (xs : List ℕ) → Each (λ n. p n ≡ q n) xs → find p xs ≡ find q xs
find_agree_each p q [] same = refl
find_agree_each p q (x ∷ xs) same =
    ap (λ v. cond v (Some x) (find p xs)) same.0
    ∙ ap (λ (o : Option ℕ). cond (q x) (Some x) o) (find_agree_each p q xs same.1)

-- A number is in use if and only if a binding has it.
pub choice_held : (it : Inside) → IsHeld it → (choosing : NumberAssignment) (block : Option PortBlock) →
    IfSome block IsPortBlock →
    (protocol : Protocol) (inside : Endpoint) →
    find (λ n. not (is_in_use it.numbers (external_key protocol n))) (candidates choosing block protocol inside)
    ≡ find (λ n. not (is_some (held_at (holdings_of it) protocol n))) (candidates choosing block protocol inside)
choice_held it is choosing block keeps protocol inside =
    let p = λ (n : ℕ). not (is_in_use it.numbers (external_key protocol n)) in
    let q = λ (n : ℕ). not (is_some (held_at (holdings_of it) protocol n)) in
    find_agree_each p q (candidates choosing block protocol inside) (each_small choosing block keeps (λ n. p n ≡ q n)
    protocol inside (λ n small. ap not (is.used_is (external_key protocol n) small)))

-- A BINDING CHANGES, and keeps its endpoints

count_kept : (then now one other : ℕ) → one ≡ other → now + one ≡ then + other → then ≡ now
count_kept then now one other alike moved = omega arith

module _ (old new : Inside) (key : ExternalNumberKey) (is : IsHeld old) (b w : Binding)
    (there : held_in old key ≡ Some b)
    (holds : (k : ExternalNumberKey) → held_in new k ≡ cond (key_eq key k) (Some w) (held_in old k))
    (address : new.address ≡ old.address) (assignment : new.assignment ≡ old.assignment) where
  written_there : held_in new key ≡ Some w
  written_there = holds key ∙ at_key key (Some w) (held_in old key)

  written_others : (k : ExternalNumberKey) → k ≢ key → held_in new k ≡ held_in old k
  written_others k d = holds k ∙ past_key key (Some w) (held_in old k) k d

  -- Each inside endpoint still has its number.
  found_again : (q : Protocol) (e : Endpoint) → number_of_inside old q e
      ≡ cond (inside_eq (inside_key key.protocol b.row.inside) (inside_key q e)) (Some key.number)
      (number_of_inside old q e)
  found_again q e = by_inside key.protocol q b.row.inside e (λ q e. number_of_inside old q e
      ≡ cond (inside_eq (inside_key key.protocol b.row.inside) (inside_key q e)) (Some key.number)
      (number_of_inside old q e))
      (is.inside_is key b there ∙ sym (ap (λ v. cond v (Some key.number)
      (number_of_inside old key.protocol b.row.inside))
      (inside_same key.protocol key.protocol b.row.inside b.row.inside refl refl)))
      (λ t. sym (ap (λ v. cond v (Some key.number) (number_of_inside old q e)) t))

  written_held : row w ≡ row b → ((q : Protocol) (e : Endpoint) → number_of_inside new q e ≡ number_of_inside old q e) →
      new.numbers ≡ old.numbers → new.hosts ≡ old.hosts → IsHeld new
  written_held rows insides numbers hosts = step_held old new is key (is.named.small key b there) b.row.inside
      (Some b) (Some w) there holds (λ q e. insides q e ∙ found_again q e)
      (λ x h. ap (λ (y : Binding). y.row.inside) (same_Some x b (sym h)))
      (λ n h. same_Some n key.number (sym h ∙ is.inside_is key b there))
      (λ x h. subst (IsAt new.address key b.row.inside) (same_Some w x h) (
        ap (λ (r : Row). r.protocol) rows ∙ is.named.protocol_is key b there,
        at_address new.address old.address key.number address w.row.external
            (ap (λ (r : Row). r.external) rows ∙ is.named.external_is key b there),
        ap (λ (r : Row). r.inside) rows,
      )) address assignment (subst AreByProtocol (sym numbers) is.by_protocol)
      (ap (λ (u : _). is_in_use u key) numbers ∙ (is.used_is key (is.named.small key b there) ∙ ap is_some there))
      (λ k lt d. ap (λ (u : _). is_in_use u k) numbers) (ap are_counted hosts)
      (λ on host n moved. ap (λ (h : _). count_in h host) hosts ∙ count_kept (count_in old.hosts host) n
      (cond {A = ℕ} (held_counts_for host (Some b)) 1 0) (cond {A = ℕ} (held_counts_for host (Some w)) 1 0)
      (ap (λ (r : Row). cond {A = ℕ} (eqb r.inside.address host && not r.fixed) 1 0) (sym rows)) moved)

  written_one : ChangesOne key (holdings_of old) (holdings_of new)
  written_one = record { place = record { address_is = address; assignment_is = assignment }; others = written_others }

  written_same : w ≡ b → HoldsSame (holdings_of old) (holdings_of new)
  written_same e = record {
    place = record { address_is = address; assignment_is = assignment };
    held_same = λ k. by_key key k (λ n. held_in new n ≡ held_in old n)
        (written_there ∙ (ap (λ (x : Binding). Some x) e ∙ sym there)) (written_others k);
  }

-- A BINDING CHANGES AT ITS INDEX

value_at : (es : List (ExternalNumberKey × Binding)) (i : ℕ) (key : ExternalNumberKey) (b : Binding) →
    slice_get es i ≡ Some (key, b) → slice_get (values_of es) i ≡ Some b
value_at [] i key b h = cc
value_at (e ∷ es) zero key b h = ap (option_map (λ (x : ExternalNumberKey × Binding). x.1)) h
value_at (e ∷ es) (suc i) key b h = value_at es i key b h

module _ (it : Inside) (all : BindingIndexModel) (view : holdings_of it ≡ all) (key : ExternalNumberKey) (place : ℕ)
    (found : Binding)
    (there : Some found ≡ held_binding all key) (at : slice_get all.entries place ≡ Some (key, found)) where
  entry_at : slice_get it.by_number.entries place ≡ Some (key, found)
  entry_at = ap (λ (h : BindingIndexModel). slice_get h.entries place) view ∙ at

  pub lent_at : slice_get (values_of it.by_number.entries) place ≡ Some found
  lent_at = value_at it.by_number.entries place key found entry_at

  pub found_there : held_in it key ≡ Some found
  found_there = ap (λ (h : BindingIndexModel). held_binding h key) view ∙ sym there

  -- The binding that is borrowed at the index is the one that was found.
  module _ (b : Binding) (lent : Some b ≡ slice_get (values_of it.by_number.entries) place) where
    lent_is : found ≡ b
    lent_is = same_Some found b (sym lent_at ∙ sym lent)

    pub lent_there : held_in it key ≡ Some b
    lent_there = found_there ∙ ap (λ (x : Binding). Some x) lent_is

    -- It is visible if the one that was found is live.
    pub lent_seen : (timers : Timers) (now : ℕ) → is_live timers now found ≡ true →
        seen_binding timers now (held_in it key)
        ≡ Some (with_live_flows timers now b)
    lent_seen timers now live = ap (seen_binding timers now) lent_there
        ∙ seen_live timers now b _ (ap (is_live timers now) (sym lent_is) ∙ live) refl

    module _ (is : IsHeld it) (unique : IsUnique key_eq it.by_number) (w : Binding) where
      abbrev after : Inside
      after = record it { by_number = with_value_at it.by_number place w }

      changed_at : (k : ExternalNumberKey) → held_in after k ≡ cond (key_eq key k) (Some w) (held_in it k)
      changed_at k = (updates-with_value_at it.by_number place w key_equiv unique key found entry_at).0 k

      pub held_at_place : row w ≡ row b → IsHeld after
      held_at_place rows = written_held it after key is b w lent_there changed_at refl refl rows (λ q e. refl) refl refl

      pub one_at_place : ChangesOne key (holdings_of it) (holdings_of after)
      one_at_place = written_one it after key is b w lent_there changed_at refl refl

      pub same_at_place : w ≡ b → HoldsSame (holdings_of it) (holdings_of after)
      same_at_place = written_same it after key is b w lent_there changed_at refl refl

      pub left_at_place : held_in after key ≡ Some w
      left_at_place = written_there it after key is b w lent_there changed_at refl refl

-- NO LIVE BINDING OF AN INSIDE ENDPOINT

module _ (it : Inside) (is : IsHeld it) (timers : Timers) (now : ℕ) (q : Protocol) (inside : Endpoint) where
  seen_number : (n : ℕ) (b : Binding) → seen_binding timers now (held_in it (external_key q n)) ≡ Some b → b.row.inside
      ≡ inside →
      number_of_inside it q inside ≡ Some n
  seen_number n b s e =
      let c = seen_is timers now (held_in it (external_key q n)) b s in
      ap (number_of_inside it q) (sym (ap (λ (x : Binding). x.row.inside) c.3 ∙ e))
      ∙ is.inside_is (external_key q n) c.0 c.1

  pub none_seen : number_of_inside it q inside ≡ None → (n : ℕ) (b : Binding) →
      seen_binding timers now (held_in it (external_key q n)) ≡ Some b → b.row.inside ≢ inside
  none_seen none n b s e = let z : None ≡ Some n = sym none ∙ seen_number n b s e in cc

  pub dead_seen : (number : ℕ) → number_of_inside it q inside ≡ Some number →
      seen_binding timers now (held_in it (external_key q number)) ≡ None → (n : ℕ) (b : Binding) →
      seen_binding timers now (held_in it (external_key q n)) ≡ Some b → b.row.inside ≢ inside
  dead_seen number found dead n b s e =
      let m : number ≡ n = same_Some number n (sym found ∙ seen_number n b s e) in
      let z : None ≡ Some b = sym dead ∙ (ap (λ (k : ℕ). seen_binding timers now (held_in it (external_key q k))) m
      ∙ s) in cc
