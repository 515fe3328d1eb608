-- A binding is live before its end, and not from then on.
use Rattle.std.proofs.lemmas.Grind.{common_steps}
use Rattle.std.proofs.Common.{◌≡◌, ℕ, ◌+◌, ◌<◌, ◌≤◌, ◌++◌, length, take, get_or, max, Bool, true, false, ◌||◌, cond, List, [], ◌∷◌, Option, Some, None, refl, sym, ◌∙◌, ap, arith, nat_lt, nat_le}
use Rattle.std.{specs.List.list_any, proofs.lemmas.{Bool.Decides.nat_tests, List.take_more}}
use Rattle.napt_rules.specs.declared.{SessionMarks.SessionMarks, Flow.Flow}
use Rattle.napt_rules.specs.Prelude.{Binding, is_established, idle, is_recent, is_live_flow, is_live_by, is_live, with_live_flows, Protocol, Icmp, Tcp, Udp, AreTimers, Timers}
use Rattle.napt_rules.proofs.Life.{lived, live_same}
use Rattle.napt_binding.specs.Ends.{end_after, last_end, end_by_protocol, end_of, is_before, EndsAreFirst}

pub recent_before : (now last seconds : ℕ) → 0 < seconds →
    is_recent now last seconds ≡ nat_lt now (end_after last seconds)
recent_before now last seconds some = grind (arith, nat_tests)

pub either_before : (now a b : ℕ) → (nat_lt now a || nat_lt now b) ≡ nat_lt now (max a b)
either_before now a b = grind (arith, nat_tests)

idle_some : (timers : Timers) → AreTimers timers → (marks : SessionMarks) → 0 < idle timers marks
idle_some timers t marks = elim (is_established marks) as (λ v. 0 < cond v timers.established timers.transitory)
    [ true ↦ omega (arith, t.established.low) | false ↦ omega (arith, t.transitory.low) ]

pub flows_before : (timers : Timers) → AreTimers timers → (now : ℕ) (flows : List Flow) →
    list_any (is_live_flow timers now) flows ≡ nat_lt now (last_end timers flows)
flows_before timers t now [] = grind (arith, nat_tests)
flows_before timers t now (flow ∷ flows) =
    grind (arith, common_steps, nat_tests, recent_before, idle_some, either_before, flows_before timers t now flows)

by_before : (protocol : Protocol) (timers : Timers) → AreTimers timers → (now : ℕ) (binding : Binding) →
    is_live_by protocol timers now binding ≡ nat_lt now (end_by_protocol protocol timers binding)
by_before Icmp timers t now binding = recent_before now binding.last timers.icmp (omega (arith, t.icmp.low))
by_before Udp timers t now binding = recent_before now binding.last timers.udp (omega (arith, t.udp.low))
by_before Tcp timers t now binding = flows_before timers t now binding.flows

either_fixed : (fixed : Bool) (now end : ℕ) → (fixed || nat_lt now end) ≡ is_before now (cond fixed None (Some end))
either_fixed true now end = refl
either_fixed false now end = refl

pub ends_are_first : EndsAreFirst
ends_are_first timers t now binding = ap (λ v. binding.row.fixed || v)
    (by_before binding.row.protocol timers t now binding)
    ∙ either_fixed binding.row.fixed now (end_by_protocol binding.row.protocol timers binding)

-- A time that is at most another one, which is before an end, is also before that end.
pub before_sooner : (n m : ℕ) → n ≤ m → (end : Option ℕ) → is_before m end ≡ true → is_before n end ≡ true
before_sooner n m le None h = refl
before_sooner n m le (Some end) h = grind (arith, nat_tests)

-- Two ends are equal if the same times are before both.

pub same_before : (a b : ℕ) → ((t : ℕ) → nat_lt t a ≡ nat_lt t b) → a ≡ b
same_before a b same = let at_a : nat_lt a a ≡ nat_lt a b = same a in let at_b : nat_lt b a ≡ nat_lt b b = same b in
    grind (arith, nat_tests)

pub same_end : (a b : Option ℕ) → ((t : ℕ) → is_before t a ≡ is_before t b) → a ≡ b
same_end None None same = refl
same_end None (Some b) same = let at : true ≡ nat_lt b b = same b in grind (arith, nat_tests)
same_end (Some a) None same = let at : nat_lt a a ≡ true = same a in grind (arith, nat_tests)
same_end (Some a) (Some b) same = ap Some (same_before a b same)

-- The expired flows of a live binding do not change its end.

live_then : (timers : Timers) (now t : ℕ) (b : Binding) → is_live timers now b ≡ true →
    is_live timers t (with_live_flows timers now b) ≡ is_live timers t b
live_then timers now t b live = elim (nat_le now t) as (λ v. nat_le now t ≡ v →
    is_live timers t (with_live_flows timers now b) ≡ is_live timers t b) [
      | true ↦ λ e. let le : now ≤ t = grind (arith, nat_tests) in live_same timers now t le b
      | false ↦ λ e.
          let le : t ≤ now = grind (arith, nat_tests) in
          let here : now ≤ now = omega arith in
          lived timers t now le (with_live_flows timers now b) (live_same timers now now here b ∙ live)
          ∙ sym (lived timers t now le b live)
    ] refl

pub end_without_dead : (timers : Timers) → AreTimers timers → (now : ℕ) (b : Binding) → is_live timers now b ≡ true →
    end_of timers (with_live_flows timers now b) ≡ end_of timers b
end_without_dead timers t now b live =
    same_end (end_of timers (with_live_flows timers now b)) (end_of timers b) (λ at.
    sym (ends_are_first timers t at (with_live_flows timers now b)) ∙ (live_then timers now at b live
    ∙ ends_are_first timers t at b))

-- One more flow.

last_end_joined : (timers : Timers) (flows : List Flow) (flow : Flow) → last_end timers (flows ++ flow ∷ [])
    ≡ max (end_after flow.last (idle timers flow.marks)) (last_end timers flows)
last_end_joined timers [] flow = omega arith
last_end_joined timers (f ∷ flows) flow = let rest = last_end_joined timers flows flow in omega (arith, rest)

pub last_end_more : (timers : Timers) (flows : List Flow) (n : ℕ) (d : Flow) → n < length flows →
    last_end timers (take (n + 1) flows)
    ≡ max (end_after (get_or flows n d).last (idle timers (get_or flows n d).marks)) (last_end timers (take n flows))
last_end_more timers flows n d lt =
    ap (last_end timers) (take_more flows n d lt) ∙ last_end_joined timers (take n flows) (get_or flows n d)

-- The end of two rows of flows is the later of their ends.
pub max_before : (a b : ℕ) (p q l : ℕ → Bool) (end : ℕ) → ((t : ℕ) → p t ≡ nat_lt t a) → ((t : ℕ) → q t ≡ nat_lt t b) →
    ((t : ℕ) → l t ≡ (p t || q t)) → ((t : ℕ) → l t ≡ nat_lt t end) → max a b ≡ end
max_before a b p q l end is_a is_b is_l is_end =
    same_before (max a b) end (λ t. sym (either_before t a b)
    ∙ (ap (λ v. v || nat_lt t b) (sym (is_a t)) ∙ (ap (λ v. p t || v) (sym (is_b t)) ∙ (sym (is_l t) ∙ is_end t))))
