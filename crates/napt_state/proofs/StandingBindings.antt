-- The flows and bindings of a state that are live or held at its clock, and the end of the last of a binding's flows.
use Rattle.std.proofs.lemmas.{Grind.common_steps, Bool.Decides.nat_tests}
use Rattle.std.proofs.Common.{◌≡◌, ℕ, zero, suc, ◌<◌, ◌≤◌, ◌-◌, ◌*◌, Bool, true, false, not, ◌&&◌, ◌||◌, cond, min, max, nat_lt, List, [], ◌∷◌, drop, get_or, Option, Some, None, length, refl, sym, ◌∙◌, ap, subst, arith, filter}
use Rattle.std.specs.{List.{list_any, retain_mut}, Ordering.{ord_max, nat_cmp}}
use Rattle.napt_config.specs.Rules.{AreTimers}
use Rattle.napt_rules.specs.declared.{Flow.Flow, SessionMarks.SessionMarks}
use Rattle.napt_rules.specs.Prelude.{Binding, Protocol, Icmp, Tcp, Udp, Timers, Rules, State, is_tcp, is_live, is_live_flow, idle, hold_ago, ns_per_second, with_live_flows, flows_share, dynamic_bindings}
use Rattle.napt_rules.specs.{Life.{live_flows, is_live_by, is_recent}, FlowUpdates.is_flow_of, Misfits.is_used_after}
use Rattle.napt_rules.proofs.{Life.idle_ticks, Lists.filter_all}
use Rattle.napt_binding.specs.StandingFlows.{is_standing}
use Rattle.napt_state.proofs.TakenBindings.{drop_before, loose_is, cond_or}
use Rattle.napt_state.specs.{StateReaders.AreRemotes, Saved.{timer_of, one_flow, binding_until, taken_binding, taken_if}}
use Rattle.napt_state.specs.declared.saved_bindings.SavedBinding.TheVariants as bindings
use Rattle.napt_binding.specs.Ends.{end_after, last_end}
use Rattle.napt_rules.specs.declared.Row.{Row}
use Rattle.std.specs.HashSet.{HashSet}
use Rattle.std.specs.HashSet as hash
use Rattle.napt_binding.specs.Lists.{pair_eq}

-- ENDS

max_min : (a b m : ℕ) → max (min b m) (min a m) ≡ min (max a b) m
max_min a b m = grind (arith, nat_tests)

max_is : (a b : ℕ) → ord_max nat_cmp a b ≡ max a b
max_is a b = grind (arith, common_steps, nat_tests)

pub later_end : (x end after a b m : ℕ) → x ≡ ord_max nat_cmp end after → end ≡ min b m → after ≡ min a m →
    x ≡ min (max a b) m
later_end x end after a b m is was more = is ∙ max_is end after ∙ ap (λ n. max n after) was
    ∙ ap (max (min b m)) more ∙ max_min a b m

pub later_flow : (timers : Timers) (flows : List Flow) (left : ℕ) (d : Flow) → 0 < left → left ≤ length flows →
    (x end after m : ℕ) → x ≡ ord_max nat_cmp end after → end ≡ min (last_end timers (drop left flows)) m →
    after ≡ min (end_after (get_or flows (left - 1) d).last (idle timers (get_or flows (left - 1) d).marks)) m →
    x ≡ min (last_end timers (drop (left - 1) flows)) m
later_flow timers flows left d some within x end after m is was more =
    later_end x end after (end_after (get_or flows (left - 1) d).last (idle timers (get_or flows (left - 1) d).marks))
    (last_end timers (drop left flows)) m is was more
    ∙ sym (ap (λ (l : List Flow). min (last_end timers l) m) (drop_before flows left d some within))

or_false : (b : Bool) → (b || false) ≡ b
or_false true = refl
or_false false = refl

until_live : (timers : Timers) (clock : ℕ) (row : Row) (p : Protocol) (last : ℕ) →
    is_live_by p timers clock (record { row = row; last = last; flows = one_flow p last })
    ≡ is_recent clock last (timer_of p timers)
until_live timers clock row Icmp last = refl
until_live timers clock row Udp last = refl
until_live timers clock row Tcp last = or_false (is_recent clock last timers.transitory)

-- The binding of the state that comes from a saved binding that has ended.
pub ended_is : (timers : Timers) (clock : ℕ) (row : Row) (end seconds last : ℕ) (flows : List Flow) →
    seconds ≡ timer_of row.protocol timers → last ≡ end - seconds * ns_per_second →
    flows ≡ one_flow row.protocol last → row.fixed ≡ false → is_recent clock last seconds ≡ false →
    taken_if (Some (record { row = row; last = last; flows = flows }))
    ≡ taken_binding timers clock (bindings.Ended row end)
ended_is timers clock row end seconds last flows its is are loose past =
    let time : last ≡ end - timer_of row.protocol timers * ns_per_second =
    is ∙ ap (λ (n : ℕ). end - n * ns_per_second) its in
    let all : flows ≡ one_flow row.protocol (end - timer_of row.protocol timers * ns_per_second) =
    are ∙ ap (one_flow row.protocol) time in
    let dead : is_live timers clock (binding_until timers row end) ≡ false =
    ap (λ v. v || is_live_by row.protocol timers clock (binding_until timers row end)) loose
    ∙ until_live timers clock row row.protocol (end - timer_of row.protocol timers * ns_per_second)
    ∙ ap (λ (n : ℕ). is_recent clock n (timer_of row.protocol timers)) (sym time)
    ∙ ap (is_recent clock last) (sym its) ∙ past in
    (λ i. taken_if (Some (record { row = row; last = time i; flows = all i })))
    ∙ ap (λ v. cond v [] (taken_if (Some (binding_until timers row end)))) (sym dead)

-- FLOWS THAT STAND

abbrev pub standing : Timers → ℕ → Protocol → List Flow → List Flow
standing timers now protocol flows = filter (is_standing timers now protocol) flows

every : (flows : List Flow) → filter (λ f. true) flows ≡ flows
every [] = refl
every (flow ∷ flows) = ap (λ (l : List Flow). flow ∷ l) (every flows)

pub standing_live : (timers : Timers) (now : ℕ) (protocol : Protocol) (flows : List Flow) →
    standing timers now protocol flows ≡ live_flows timers now protocol flows
standing_live timers now Icmp flows = every flows
standing_live timers now Udp flows = every flows
standing_live timers now Tcp flows = refl

one_shares : (b : Bool) (flow : Flow) → flows_share (cond b (flow ∷ []) []) ≡ false
one_shares true flow = refl
one_shares false flow = refl

pub few_share : (timers : Timers) (now : ℕ) (protocol : Protocol) (flows : List Flow) → length flows < 2 →
    flows_share (live_flows timers now protocol flows) ≡ false
few_share timers now protocol [] few = ap flows_share (sym (standing_live timers now protocol []))
few_share timers now protocol (flow ∷ []) few = ap flows_share (sym (standing_live timers now protocol (flow ∷ [])))
    ∙ one_shares (is_standing timers now protocol flow) flow
few_share timers now protocol (flow ∷ (other ∷ flows)) few = absurd (omega arith)

-- The flows that stand, with one more place before them.
pub standing_before : (timers : Timers) (now : ℕ) (protocol : Protocol) (flows : List Flow) (left : ℕ) (d : Flow) →
    0 < left → left ≤ length flows → standing timers now protocol (drop (left - 1) flows)
    ≡ cond (is_standing timers now protocol (get_or flows (left - 1) d))
    (get_or flows (left - 1) d ∷ standing timers now protocol (drop left flows))
    (standing timers now protocol (drop left flows))
standing_before timers now protocol flows left d some within =
    ap (standing timers now protocol) (drop_before flows left d some within)

or_true : (b : Bool) → (b || true) ≡ true
or_true true = refl
or_true false = refl

share_more : (b : Bool) (flow : Flow) (flows : List Flow) → flows_share flows ≡ true →
    flows_share (cond b (flow ∷ flows) flows) ≡ true
share_more true flow flows h = rw h (or_true _)
share_more false flow flows h = h

pub standing_share : (timers : Timers) (now : ℕ) (protocol : Protocol) (i : ℕ) (flows : List Flow) →
    flows_share (standing timers now protocol (drop i flows)) ≡ true →
    flows_share (standing timers now protocol flows) ≡ true
standing_share timers now protocol zero flows h = h
standing_share timers now protocol (suc i) [] h = h
standing_share timers now protocol (suc i) (one ∷ flows) h =
    share_more (is_standing timers now protocol one) one (standing timers now protocol flows)
    (standing_share timers now protocol i flows h)

-- The flow before a place.
module _ {S : Type 0} (timers : Timers) (now : ℕ) (protocol : Protocol) (flows : List Flow) (left : ℕ) (d : Flow)
    (all : HashSet (ℕ × ℕ) S) (some : 0 < left) (within : left ≤ length flows)
    (are : AreRemotes (standing timers now protocol (drop left flows)) all) where
  abbrev here : Flow
  here = get_or flows (left - 1) d

  abbrev rest : List Flow
  rest = standing timers now protocol (drop left flows)

  -- If it stands, the flows that stand begin with it.
  pub first_stands : is_standing timers now protocol here ≡ true →
      standing timers now protocol (drop (left - 1) flows) ≡ here ∷ rest
  first_stands stands = standing_before timers now protocol flows left d some within
      ∙ ap (λ b. cond b (here ∷ rest) rest) stands

  pub first_falls : is_standing timers now protocol here ≡ false →
      standing timers now protocol (drop (left - 1) flows) ≡ rest
  first_falls falls = standing_before timers now protocol flows left d some within
      ∙ ap (λ b. cond b (here ∷ rest) rest) falls

  -- A flow whose remote is in the set shares it.
  pub stands_share : is_standing timers now protocol here ≡ true →
      hash.contains pair_eq all (here.remote.address, here.remote.number) ≡ true →
      flows_share (live_flows timers now protocol flows) ≡ true
  stands_share stands has = ap flows_share (sym (standing_live timers now protocol flows))
      ∙ standing_share timers now protocol (left - 1) flows (ap flows_share (first_stands stands)
      ∙ ap (λ b. b || flows_share rest) (sym (are here.remote) ∙ has))

  pub stands_alone : is_standing timers now protocol here ≡ true → flows_share rest ≡ false →
      hash.contains pair_eq all (here.remote.address, here.remote.number) ≡ false →
      flows_share (standing timers now protocol (drop (left - 1) flows)) ≡ false
  stands_alone stands none lacks = ap flows_share (first_stands stands)
      ∙ ap (λ b. b || flows_share rest) (sym (are here.remote) ∙ lacks) ∙ none

  pub stands_more : is_standing timers now protocol here ≡ true → (new : HashSet (ℕ × ℕ) S) →
      ((k : ℕ × ℕ) → hash.contains pair_eq new k
      ≡ cond (pair_eq (here.remote.address, here.remote.number) k) true (hash.contains pair_eq all k)) →
      AreRemotes (standing timers now protocol (drop (left - 1) flows)) new
  stands_more stands new more = subst (λ (l : List Flow). AreRemotes l new) (sym (first_stands stands))
      (λ remote. more (remote.address, remote.number)
      ∙ cond_or (pair_eq (here.remote.address, here.remote.number) (remote.address, remote.number))
      (hash.contains pair_eq all (remote.address, remote.number))
      ∙ ap (λ b. is_flow_of remote here || b) (are remote))

-- USE AFTER THE CLOCK: such a flow is live

later_lives : (timers : Timers) → AreTimers timers → (now clock : ℕ) → now ≤ clock → (flow : Flow) →
    nat_lt clock flow.last ≡ true → is_live_flow timers now flow ≡ true
later_lives timers are now clock within flow later =
    let ticks = idle_ticks timers are flow.marks in
    grind (arith, nat_tests)

later_or : (live later : Bool) (flow : Flow) (flows : List Flow) (clock : ℕ) → nat_lt clock flow.last ≡ later →
    (later ≡ true → live ≡ true) →
    list_any (λ (f : Flow). nat_lt clock f.last) (cond live (flow ∷ flows) flows)
    ≡ (later || list_any (λ (f : Flow). nat_lt clock f.last) flows)
later_or true later flow flows clock is h = ap (λ b. b || list_any (λ (f : Flow). nat_lt clock f.last) flows) is
later_or false true flow flows clock is h = absurd (grind (arith, h refl))
later_or false false flow flows clock is h = refl

pub later_live : (timers : Timers) → AreTimers timers → (now clock : ℕ) → now ≤ clock → (flows : List Flow) →
    list_any (λ (f : Flow). nat_lt clock f.last) (filter (is_live_flow timers now) flows)
    ≡ list_any (λ (f : Flow). nat_lt clock f.last) flows
later_live timers are now clock within [] = refl
later_live timers are now clock within (flow ∷ flows) =
    later_or (is_live_flow timers now flow) (nat_lt clock flow.last) flow (filter (is_live_flow timers now) flows) clock
    refl (later_lives timers are now clock within flow)
    ∙ ap (λ b. nat_lt clock flow.last || b) (later_live timers are now clock within flows)

pub later_standing : (timers : Timers) → AreTimers timers → (now clock : ℕ) → now ≤ clock → (protocol : Protocol)
    (flows : List Flow) → list_any (λ (f : Flow). nat_lt clock f.last) (live_flows timers now protocol flows)
    ≡ list_any (λ (f : Flow). nat_lt clock f.last) flows
later_standing timers are now clock within Icmp flows = refl
later_standing timers are now clock within Udp flows = refl
later_standing timers are now clock within Tcp flows = later_live timers are now clock within flows

not_later : (a b : ℕ) → b ≤ a → nat_lt a b ≡ false
not_later a b within = grind (arith, nat_tests)

pub used_else : (timers : Timers) → AreTimers timers → (clock : ℕ) (b : Binding) → b.last ≤ clock →
    list_any (λ (f : Flow). nat_lt clock f.last) b.flows
    ≡ is_used_after clock (with_live_flows timers (hold_ago timers clock) b)
used_else timers are clock b within =
    sym (later_standing timers are (hold_ago timers clock) clock (omega arith) b.row.protocol b.flows)
    ∙ ap (λ v. v || list_any (λ (f : Flow). nat_lt clock f.last)
    (live_flows timers (hold_ago timers clock) b.row.protocol b.flows)) (sym (not_later clock b.last within))

-- BINDINGS THAT GO ON

abbrev pub going_on : Timers → ℕ → List Binding → List Binding
going_on timers now list =
    retain_mut (λ b. not b.row.fixed && is_live timers now b) (with_live_flows timers now) list

pub going_before : (timers : Timers) (now : ℕ) (list : List Binding) (left : ℕ) (d : Binding) →
    0 < left → left ≤ length list → going_on timers now (drop (left - 1) list)
    ≡ cond (not (get_or list (left - 1) d).row.fixed && is_live timers now (get_or list (left - 1) d))
    (with_live_flows timers now (get_or list (left - 1) d) ∷ going_on timers now (drop left list))
    (going_on timers now (drop left list))
going_before timers now list left d some within = ap (going_on timers now) (drop_before list left d some within)

pub dynamic_going : (rules : Rules) (state : State) →
    dynamic_bindings rules state ≡ going_on rules.timers (hold_ago rules.timers state.clock) state.list
dynamic_going rules state = sym (loose_is rules.timers (hold_ago rules.timers state.clock) state.list)
