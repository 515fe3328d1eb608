-- The list of a run begins with the redirects, which no packet changes, and has no others: so the state after a run
-- goes on unchanged, and its configuration takes it.
use Rattle.std.proofs.Common.{◌≡◌, ℕ, Bool, true, false, not, ◌&&◌, ◌||◌, cond, List, [], ◌∷◌, ◌++◌, map, Option, Some, None, refl, sym, ◌∙◌, ap, subst, arith, append-nil, filter, find, nat_lt, ◌≤◌, le-leb, eq-eqb, IfSome}
use Rattle.std.{specs.List.list_any, proofs.lemmas.{List.map-append, Bool.{and_from, not-true, Decides.nat_tests}}}
use Rattle.napt_rules.specs.declared.{Flow.Flow, Row.Row, InboundRules.InboundRules, OutboundPacket.OutboundPacket, InboundPacket.InboundPacket, Leg.Leg, Misfit.Misfit}
use Rattle.napt_rules.specs.Prelude.{Binding, Each, change_first, same_protocol, same_endpoint, is_of_inside, with_live_flows, purge, hold_ago, live_and_held, redirect_binding, opening, inbound_rules, assignment_rules, binding_after_out, is_of_live_source, live_binding_after_out, other_bindings, new_binding, binding_after_in, is_of_live_destination, live_binding_after_in, LegEffect, outbound_packet, inbound_packet, act_out, act_in, act, Arrival, last_clock, State, taken_at_clock, effect_from, dynamic_bindings, with_redirects, row, AreRowsApart, AreBindingsApart, IsNumber, IsPaired, IsSound, IsBlockNumber, IsInItsBlock, is_number, is_its_number, clashes, clashes_with_any, misfit_of, misfit_or, misfit_in, TakesState, IsBindingOwn, AreAllOwn, OwnStatesStay, OwnStatesAreTaken, Protocol, Icmp, Tcp, Udp, Flags, kind, Endpoint, PacketsCarryNumbers, Timers, Rules, RulesInvariant, pair_of, block_of, PortBlock, Redirect}
use Rattle.napt_rules.proofs.Lists.{each_filter, filter_all}
use Rattle.napt_laws.proofs.{LegCases.of_act, Endpoints.{end_is, protocol_is}, OpeningList.redirect_stays, StepCases.{of_out, of_in}, Purges.each_purged, SeenElements.taken_twice, StepRows.purge_keeps, RunInduction.run_keeps}
use Rattle.napt_laws.proofs.{Lists.{each_changed, each_pushed, each_kept, each_less, each_mid}, StepsSound.{out_stays_sound, in_stays_sound, purge_stays_sound}}
use Rattle.napt_laws.proofs.{RunsSound.run_sound, RunsBlocks.blocks_run, OwnBindings.{or_none, IsKept, owned_taken, taken_own}, TakenStates.{turned, state_sound, state_blocks}}

-- REDIRECTS ARE FIRST

module _ (pair : ℕ → ℕ) where
  -- The list begins with these redirects, and has no redirect after them.
  abbrev Begins : List Redirect → List Binding → Type 0
  Begins [] list = Each (λ b. not b.row.fixed ≡ true) list
  Begins (r ∷ redirects) [] = ⊥
  Begins (r ∷ redirects) (b ∷ list) = (b ≡ redirect_binding pair r) × Begins redirects list

  begins_with : (redirects : List Redirect) (list : List Binding) → Each (λ b. not b.row.fixed ≡ true) list →
      Begins redirects (map (redirect_binding pair) redirects ++ list)
  begins_with [] list h = h
  begins_with (r ∷ redirects) list h = (refl, begins_with redirects list h)

  begins_is : (redirects : List Redirect) (list : List Binding) → Begins redirects list → list
      ≡ map (redirect_binding pair) redirects ++ filter (λ b. not b.row.fixed) list
  begins_is [] list h = sym (filter_all (λ b. not b.row.fixed) list h)
  begins_is (r ∷ redirects) [] h = absurd h
  begins_is (r ∷ redirects) (b ∷ list) h = subst (λ (x : Binding). x ∷ list
      ≡ redirect_binding pair r ∷ (map (redirect_binding pair) redirects ++ filter (λ b. not b.row.fixed) (x ∷ list)))
      (sym h.0)
      (ap (λ (l : List Binding). redirect_binding pair r ∷ l) (begins_is redirects list h.1))

  begins_purged : (timers : Timers) (now : ℕ) (redirects : List Redirect) (list : List Binding) →
      Begins redirects list → Begins redirects (purge timers now list)
  begins_purged timers now [] list h = each_purged (λ b. not b.row.fixed ≡ true) timers now (λ b is. is) list h
  begins_purged timers now (r ∷ redirects) [] h = absurd h
  begins_purged timers now (r ∷ redirects) (b ∷ list) h = subst (λ (x : Binding).
      Begins (r ∷ redirects) (purge timers now (x ∷ list))) (sym h.0)
      (redirect_stays timers now pair r, begins_purged timers now redirects list h.1)

  begins_changed : (t : Binding → Bool) (f : Binding → Binding) → ((r : Redirect) → f (redirect_binding pair r)
      ≡ redirect_binding pair r) → ((b : Binding) → not (f b).row.fixed ≡ not b.row.fixed) → (redirects : List Redirect)
      (list : List Binding) → Begins redirects list → Begins redirects (change_first t f list)
  begins_changed t f stays same [] list h =
      each_changed (λ b. not b.row.fixed ≡ true) t f (λ b its is. same b ∙ is) list h
  begins_changed t f stays same (r ∷ redirects) [] h = absurd h
  begins_changed t f stays same (r ∷ redirects) (b ∷ list) h = elim (t b) as (λ v. Begins (r ∷ redirects)
      (cond v (f b ∷ list) (b ∷ change_first t f list))) [
        | true ↦ (ap f h.0 ∙ stays r, h.1)
        | false ↦ (h.0, begins_changed t f stays same redirects list h.1)
      ]

  -- A source without a live binding has no redirect, since redirects are live.
  begins_others : (timers : Timers) (now : ℕ) (its : Row → Bool) (redirects : List Redirect) (list : List Binding) →
      Begins redirects list → find (λ b. its b.row) (purge timers now list) ≡ None →
      Begins redirects (filter (λ b. not (its b.row)) list)
  begins_others timers now its [] list h none =
      each_less (λ b. not b.row.fixed ≡ true) (λ b. not (its b.row)) list h
  begins_others timers now its (r ∷ redirects) [] h none = absurd h
  begins_others timers now its (r ∷ redirects) (b ∷ list) h none =
      let others : List Binding = filter (λ b. not (its b.row)) list in
      subst (λ (x : Binding). find (λ b. its b.row) (purge timers now (x ∷ list)) ≡ None →
      Begins (r ∷ redirects) (filter (λ b. not (its b.row)) (x ∷ list))) (sym h.0)
      (elim (its (redirect_binding pair r).row) as
      (λ v. cond v (Some (with_live_flows timers now (redirect_binding pair r)))
      (find (λ b. its b.row) (purge timers now list)) ≡ None →
      Begins (r ∷ redirects) (cond (not v) (redirect_binding pair r ∷ others) others)) [
        | true ↦ λ e. cc
        | false ↦ λ e. (refl, begins_others timers now its redirects list h.1 e)
      ]) none

  begins_pushed : (redirects : List Redirect) (list : List Binding) (b : Binding) → not b.row.fixed ≡ true →
      Begins redirects list → Begins redirects (list ++ b ∷ [])
  begins_pushed [] list b is h = each_pushed (λ b. not b.row.fixed ≡ true) list b h is
  begins_pushed (r ∷ redirects) [] b is h = absurd h
  begins_pushed (r ∷ redirects) (x ∷ list) b is h = (h.0, begins_pushed redirects list b is h.1)

  -- Before any input the list has the redirects alone.
  opening_stays : (timers : Timers) (now : ℕ) (redirects : List Redirect) →
      filter (λ b. not b.row.fixed) (purge timers now (map (redirect_binding pair) redirects)) ≡ []
  opening_stays timers now [] = refl
  opening_stays timers now (r ∷ redirects) = opening_stays timers now redirects

  received_stays : (inbound : InboundRules) (packet : InboundPacket) (r : Redirect) →
      binding_after_in inbound packet (redirect_binding pair r) ≡ redirect_binding pair r
  received_stays inbound packet r = grind arith

module _ (rules : Rules) where
  abbrev Keeps : List Binding → Type 0
  Keeps list = Begins (pair_of rules) rules.redirects list

  module _ (address : ℕ) (leg : Leg) (list : List Binding) (h : Keeps list) where
    abbrev all_taken : List Binding
    all_taken = live_and_held rules.timers leg.now list

    kept : Keeps all_taken
    kept = begins_purged (pair_of rules) rules.timers (hold_ago rules.timers leg.now) rules.redirects list h

    kept_out : (protocol : Protocol) (flags : Flags) → Keeps (act_out rules address leg list protocol flags).list
    kept_out protocol flags =
        let packet : OutboundPacket = outbound_packet rules protocol flags leg.now leg.packet in
        of_out Keeps rules.timers address all_taken kept (assignment_rules rules) packet
        (begins_changed (pair_of rules) (is_of_live_source rules.timers address packet)
        (live_binding_after_out rules.timers packet)
        (λ r. ap (binding_after_out packet) (redirect_stays rules.timers leg.now (pair_of rules) r)) (λ b. refl)
        rules.redirects all_taken kept)
        (λ n none is. begins_pushed (pair_of rules) rules.redirects (other_bindings address packet all_taken)
        (binding_after_out packet (new_binding address packet n)) refl
        (begins_others (pair_of rules) rules.timers leg.now (is_of_inside address protocol packet.inside)
        rules.redirects all_taken kept none))

    kept_in : (protocol : Protocol) (flags : Flags) → Keeps (act_in rules address leg list protocol flags).list
    kept_in protocol flags =
        let packet : InboundPacket = inbound_packet protocol flags leg.now leg.packet in
        of_in Keeps rules.timers address all_taken kept (inbound_rules rules) packet
        (begins_changed (pair_of rules) (is_of_live_destination rules.timers address packet)
        (live_binding_after_in rules.timers (inbound_rules rules) packet)
        (λ r. ap (binding_after_in (inbound_rules rules) packet) (redirect_stays rules.timers leg.now (pair_of rules) r)
        ∙ received_stays (pair_of rules) (inbound_rules rules) packet r) (λ b. refl) rules.redirects all_taken kept)

    kept_leg : Keeps (act rules address leg list).list
    kept_leg = of_act rules address leg list (λ (a : LegEffect). Keeps a.list) kept_out kept_in (λ end. h) leg.way
        (kind leg.packet)

  -- The list after a run from a state that the configuration takes, with bindings that are gone.
  module _ (state : State) (inputs : List Arrival) where
    abbrev now : ℕ
    now = last_clock state.clock inputs

    abbrev list : List Binding
    list = (effect_from rules (with_redirects rules state) inputs).list

    left_keeps : Keeps (live_and_held rules.timers now list)
    left_keeps = begins_purged (pair_of rules) rules.timers (hold_ago rules.timers now) rules.redirects list
        (run_keeps rules Keeps (λ address leg list served. kept_leg address leg list) 0 state.clock inputs
        (with_redirects rules state).list (begins_with (pair_of rules) rules.redirects (dynamic_bindings rules state)
        (each_filter (λ b. not b.row.fixed) (taken_at_clock rules state).list)))

    left_is : live_and_held rules.timers now list
        ≡ opening rules ++ filter (λ b. not b.row.fixed) (live_and_held rules.timers now list)
    left_is = begins_is (pair_of rules) rules.redirects (live_and_held rules.timers now list) left_keeps

    twice : live_and_held rules.timers now (live_and_held rules.timers now list) ≡ live_and_held rules.timers now list
    twice = taken_twice rules.timers now list

pub own_states_stay : OwnStatesStay
own_states_stay rules = (
  ap (λ (l : List Binding). record { clock = 0; list = l })
      (ap (λ (l : List Binding). opening rules ++ l) (opening_stays (pair_of rules) rules.timers
      (hold_ago rules.timers 0) rules.redirects) ∙ append-nil (opening rules)),
  (λ state inputs. ap (λ (l : List Binding). record { clock = last_clock state.clock inputs; list = l })
      (ap (λ (l : List Binding). opening rules ++ filter (λ b. not b.row.fixed) l) (twice rules state inputs)
      ∙ sym (left_is rules state inputs))),
)

-- THE STATE AFTER A RUN FITS

open_by : {X : Type 0} (t : Bool) (x : X) (others : Option X) → t ≡ false → others ≡ None → cond t (Some x) others
    ≡ None
open_by t x others e h = ap (λ v. cond v (Some x) others) e ∙ h

tested : (protocol : Protocol) (n : ℕ) → IsNumber protocol n → is_number protocol n ≡ true
tested Icmp n h = refl
tested Tcp n h = le-leb 1 n h
tested Udp n h = le-leb 1 n h

its_number : (block : Option PortBlock) (n : ℕ) → IfSome block (λ block. IsBlockNumber block n) →
    is_its_number block n ≡ true
its_number None n h = refl
its_number (Some block) n h = and_from _ _ (le-leb _ _ h.first) (le-leb _ _ h.last)

differ : (a b : Endpoint) → (a ≡ b → ⊥) → same_endpoint a b ≡ false
differ a b apart = elim (same_endpoint a b) as (λ v. same_endpoint a b ≡ v → v ≡ false)
    [ true ↦ λ e. absurd (apart (end_is a b e)) | false ↦ λ e. refl ] refl

not_clash : (a b : Row) → AreRowsApart a b → clashes a b ≡ false
not_clash a b apart = elim (same_protocol a.protocol b.protocol) as (λ v. same_protocol a.protocol b.protocol ≡ v →
    (v && (same_endpoint a.external b.external || same_endpoint a.inside b.inside)) ≡ false) [
      | true ↦ λ p. let parts = apart (protocol_is a.protocol b.protocol p) in
          or_none _ _ (differ a.external b.external parts.0) (differ a.inside b.inside parts.1)
      | false ↦ λ p. refl
    ] refl

clash_nowhere : (a : Row) (list : List Binding) → Each (AreRowsApart a) (map row list) → clashes_with_any a list ≡ false
clash_nowhere a [] h = refl
clash_nowhere a (b ∷ list) h = or_none _ _ (not_clash a b.row h.0) (clash_nowhere a list h.1)

not_later : (clock n : ℕ) → n ≤ clock → nat_lt clock n ≡ false
not_later clock n le = grind (arith, nat_tests, le)

none_later : (clock : ℕ) (flows : List Flow) → Each (λ f. f.last ≤ clock) flows →
    list_any (λ flow. nat_lt clock flow.last) flows ≡ false
none_later clock [] h = refl
none_later clock (f ∷ flows) h = or_none _ _ (not_later clock f.last h.0) (none_later clock flows h.1)

apart_mid : (xs ys : List Row) (r : Row) → AreBindingsApart (xs ++ r ∷ ys) →
    Each (AreRowsApart r) xs × Each (AreRowsApart r) ys × AreBindingsApart (xs ++ ys)
apart_mid [] ys r h = (tt, h.0, h.1)
apart_mid (x ∷ xs) ys r h =
    let mid = each_mid (AreRowsApart x) xs ys r h.0 in
    let rest = apart_mid xs ys r h.1 in
    ((turned r x mid.0, rest.0), rest.1, (mid.1, rest.2))

module _ (rules : Rules) (clock : ℕ) where
  fit : (b : Binding) (rest : List Binding) → IsBindingOwn rules clock b → IsPaired (pair_of rules) b.row →
      IfSome (block_of rules b.row.inside.address) (λ block. IsBlockNumber block b.row.external.number) →
      Each (AreRowsApart b.row) (map row (opening rules)) → Each (AreRowsApart b.row) (map row rest) →
      misfit_of rules clock b rest ≡ None
  fit b rest own paired block redirects others =
      open_by _ _ _ (ap not own.host)
      (open_by _ _ _ (ap not (eq-eqb _ _ paired.paired))
      (open_by _ _ _ (ap not (and_from _ _ (tested _ _ paired.inside)
      (and_from _ _ (tested _ _ paired.external) (its_number _ _ block))))
      (open_by _ _ _ (or_none _ _ (not_later clock b.last own.last) (none_later clock b.flows own.flows.by))
      (open_by _ _ _ own.flows.single
      (open_by _ _ _ (clash_nowhere b.row (opening rules) redirects)
      (open_by _ _ None (clash_nowhere b.row rest others) refl))))))

  pub all_fit : (list : List Binding) → Each (λ b. not b.row.fixed ≡ true) list → AreAllOwn rules clock list →
      Each (IsPaired (pair_of rules)) (map row list) → Each (IsInItsBlock rules) (map row list) →
      AreBindingsApart (map row (opening rules) ++ map row list) → misfit_in rules clock list ≡ None
  all_fit [] loose own paired blocks apart = refl
  all_fit (b ∷ list) loose own paired blocks apart =
      let is : b.row.fixed ≡ false = not-true b.row.fixed loose.0 in
      let mid = apart_mid (map row (opening rules)) (map row list) b.row apart in
      ap (λ (why : Option Misfit). misfit_or b.row why (misfit_in rules clock list))
      (fit b list (own.0 is) paired.0 (blocks.0 is) mid.0 mid.1)
      ∙ all_fit list loose.1 own.1 paired.1 blocks.1 mid.2

module _ (carry : PacketsCarryNumbers) (rules : Rules) (keeps : RulesInvariant rules) (state : State)
    (takes : TakesState rules state) (inputs : List Arrival) where
  abbrev clock : ℕ
  clock = last_clock state.clock inputs

  abbrev left : List Binding
  left = live_and_held rules.timers clock (effect_from rules (with_redirects rules state) inputs).list

  sound : IsSound (pair_of rules) left
  sound = purge_stays_sound (pair_of rules) rules.timers (hold_ago rules.timers clock) _
      (run_sound carry out_stays_sound in_stays_sound rules keeps 0 state.clock inputs (with_redirects rules state).list
      (state_sound rules keeps state takes))

  blocks : Each (IsInItsBlock rules) (map row left)
  blocks = purge_keeps (Each (IsInItsBlock rules)) (λ p list h. each_kept (IsInItsBlock rules) row p list h)
      rules.timers (hold_ago rules.timers clock) _
      (blocks_run rules keeps 0 state.clock inputs (with_redirects rules state).list
      (state_blocks rules keeps state takes))

  own : AreAllOwn rules clock left
  own = owned_taken rules clock clock _ (taken_own rules keeps state takes inputs)

  left_is_taken : TakesState rules (record { clock = clock; list = left })
  left_is_taken =
      let free : List Binding = filter (λ b. not b.row.fixed) left in
      ap (λ (l : List Binding). misfit_in rules clock (filter (λ b. not b.row.fixed) l)) (twice rules state inputs)
      ∙ all_fit rules clock free (each_filter (λ b. not b.row.fixed) left)
      (each_less (IsKept rules clock) (λ b. not b.row.fixed) left own)
      (each_kept (IsPaired (pair_of rules)) row (λ b. not b.row.fixed) left sound.each)
      (each_kept (IsInItsBlock rules) row (λ b. not b.row.fixed) left blocks)
      (subst AreBindingsApart (ap (map row) (left_is rules state inputs) ∙ map-append row (opening rules) free)
      sound.apart)

pub own_states_are_taken : PacketsCarryNumbers → OwnStatesAreTaken
own_states_are_taken carry rules = (
  ap (misfit_in rules 0) (opening_stays (pair_of rules) rules.timers (hold_ago rules.timers 0) rules.redirects),
  (λ keeps state takes inputs. left_is_taken carry rules keeps state takes inputs),
)
