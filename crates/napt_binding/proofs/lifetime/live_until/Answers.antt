-- until: if the binding is live at a time within the least timer from `now` on, that time is at most the result.
use Rattle.std.proofs.{Common.{◌≡◌, ℕ, ◌+◌, ◌*◌, ◌<◌, ◌||◌, true, false, min, subst, sym, ◌∙◌, ap, arith}, lemmas.Bool.Decides.nat_tests}
use Rattle.napt_rules.specs.Prelude.{Binding, ns_per_second, is_recent, is_live_by, is_live, Protocol, Icmp, Tcp, Udp, Timers}
use Rattle.napt_binding.specs.Ends.{least_timer}
use Rattle.napt_binding.proofs.lifetime.live_until.Goals as goal

lives_by : (b : Binding) (timers : Timers) (t : ℕ) (protocol : Protocol) → b.row.fixed ≡ false → b.row.protocol
    ≡ protocol → is_live timers t b ≡ true → is_live_by protocol timers t b ≡ true
lives_by b timers t protocol loose is live =
    ap (λ (p : Protocol). is_live_by p timers t b) (sym is)
    ∙ (ap (λ v. v || is_live_by b.row.protocol timers t b) (sym loose) ∙ live)

-- A time that is sooner after `now` than the least timer is recent.
within : (b : Binding) (timers : Timers) (t now seconds : ℕ) (protocol : Protocol) → b.row.protocol ≡ protocol →
    seconds ≡ least_timer protocol timers → 0 < seconds → t < now + least_timer b.row.protocol timers * ns_per_second →
    is_recent t now seconds ≡ true
within b timers t now seconds protocol is same some h =
    let span : t < now + seconds * ns_per_second =
    rw same (subst (λ (p : Protocol). t < now + least_timer p timers * ns_per_second) is h) in
    grind (arith, nat_tests)

pub returns-in-Icmp-clause-far : goal.returns-in-Icmp-clause-far
returns-in-Icmp-clause-far c loose t small near live =
    let icmp : c.args.binding.now.row.protocol ≡ Icmp = sym c.protocol.ensures ∙ c.in-Icmp.is in
    let span = ap (λ (x : Timers). x.icmp) c.timers.view_is in
    let limits = c.timers.invariant.icmp in
    let first = c.last_moment.ensures.far t small
    (ap (is_recent t c.args.binding.now.last) span
    ∙ lives_by c.args.binding.now c.args.timers t Icmp loose icmp live) in
    let next = c.last_moment-in-Icmp.ensures.far t small
    (within c.args.binding.now c.args.timers t c.args.now _ Icmp icmp span (omega arith) near) in
    omega (arith, c.min.ensures, c.max.ensures)

pub returns-in-Udp-clause-far : goal.returns-in-Udp-clause-far
returns-in-Udp-clause-far c loose t small near live =
    let udp : c.args.binding.now.row.protocol ≡ Udp = sym c.protocol.ensures ∙ c.in-Udp.is in
    let span = ap (λ (x : Timers). x.udp) c.timers-in-Udp.view_is in
    let limits = c.timers-in-Udp.invariant.udp in
    let first = c.last_moment-in-Udp.ensures.far t small
    (ap (is_recent t c.args.binding.now.last) span
    ∙ lives_by c.args.binding.now c.args.timers t Udp loose udp live) in
    let next = c.last_moment-in-Udp-2.ensures.far t small
    (within c.args.binding.now c.args.timers t c.args.now _ Udp udp span (omega arith) near) in
    omega (arith, c.min-in-Udp.ensures, c.max-in-Udp.ensures)

pub returns-in-Tcp-clause-far : goal.returns-in-Tcp-clause-far
returns-in-Tcp-clause-far c loose t small near live =
    let tcp : c.args.binding.now.row.protocol ≡ Tcp = sym c.protocol.ensures ∙ c.in-Tcp.is in
    let shorter = c.min-least.ensures in
    let span = shorter ∙ ap (λ (x : Timers). min x.established x.transitory) c.timers-in-Tcp.view_is in
    let established = c.timers-in-Tcp.invariant.established in
    let transitory = c.timers-in-Tcp.invariant.transitory in
    let first = c.last_moment-in-Tcp.ensures.far t small
    (lives_by c.args.binding.now c.args.timers t Tcp loose tcp live) in
    let next = c.last_moment-in-Tcp-2.ensures.far t small
    (within c.args.binding.now c.args.timers t c.args.now _ Tcp tcp span (omega arith) near) in
    omega (arith, c.min-in-Tcp.ensures)
