-- The effects of a leg on the bindings: none, a change of the one through which its packet went, or a new one.
use Rattle.std.proofs.Common.{arith, ◌≡◌, ℕ, Bool, true, false, not, cond, List, [], ◌∷◌, ◌++◌, map, filter, Option, Some, None, Result, Ok, Err, refl, sym, ◌∙◌, ap, subst, true≢false}
use Rattle.std.{proofs.lemmas.{Grind.common_steps, Bool.{Decides.nat_tests, not-true}}, specs.{Prelude.find, List.list_any}}
use Rattle.napt_rules.specs.Prelude.{BindingUse, Binding, Each, change_first, has_number, is_live, with_live_flows, purge, hold_ago, live_and_held, permits, inbound_rules, assignment_rules, is_of_source, binding_after_out, other_bindings, new_binding, out_made, held_or_new_number, out_found, is_of_destination, binding_after_in, in_found, outbound_packet, inbound_packet, LegEffect, act_out, act_in, act_by, act, row, Protocol, Cause, Flags, Way, Outgoing, Kind, kind, Rules, AreTimers}
use Rattle.napt_rules.specs.declared.{AssignmentRules.AssignmentRules, OutboundPacket.OutboundPacket, InboundPacket.InboundPacket, Row.Row, Leg.Leg}
use Rattle.napt_laws.proofs.{StepCases.in_passed, LegCases.of_act, Lists.{any_none, find_passes, each_weaker, each_pushed, each_kept, each_true}, Endpoints.{has_it, inside_parts}}
use Rattle.napt_laws.proofs.{FreshBindings.{IsFresh, sent_fresh, received_fresh}, HeldNumbers.each_rows, SeenElements.purge_taken, StepRows.{purge_keeps, out_keeps, in_keeps}}
use Rattle.napt_laws.proofs.{StepsLive.{sent_seen, made_is_seen, made_is_fresh, received_seen}, Quotas.granted_is_chosen, StepsSound.chosen_free}

-- Two rows of one protocol do not have one external endpoint.
abbrev pub Differ : Row → Row → Type 0
Differ a b = a.protocol ≡ b.protocol → a.external ≡ b.external → ⊥

-- No two rows have one.
abbrev pub AllDiffer : List Row → Type 0
AllDiffer [] = Unit {0}
AllDiffer (r ∷ rs) = Each (Differ r) rs × AllDiffer rs

free_differ : (new : Row) (list : List Binding) →
    Each (λ b. has_number new.external.address new.protocol new.external.number b.row ≡ false) list →
    Each (λ r. Differ r new) (map row list)
free_differ new [] free = tt
free_differ new (b ∷ list) free = grind (arith, common_steps, nat_tests, has_it, free_differ new list free.1)

pub differ_kept : (p : Binding → Bool) (xs : List Binding) → AllDiffer (map row xs) → AllDiffer (map row (filter p xs))
differ_kept p [] h = h
differ_kept p (x ∷ xs) h = elim (p x) as (λ v. AllDiffer (map row (cond v (x ∷ filter p xs) (filter p xs))))
    [ true ↦ (each_kept (Differ (row x)) row p xs h.0, differ_kept p xs h.1) | false ↦ differ_kept p xs h.1 ]

differ_push : (rs : List Row) (r : Row) → AllDiffer rs → Each (λ x. Differ x r) rs → AllDiffer (rs ++ r ∷ [])
differ_push [] r h g = (tt, tt)
differ_push (x ∷ rs) r h g = (each_pushed (Differ x) rs r h.0 g.0, differ_push rs r h.1 g.1)

-- A NUMBER THAT IS GRANTED

module _ (t : Binding → Bool) where
  -- The others differ from the first binding that passes.
  others_differ : (xs : List Binding) (b : Binding) → AllDiffer (map row xs) → find t xs ≡ Some b →
      Each (λ y. t y ≡ false → Differ (row y) (row b)) xs
  others_differ [] b h e = tt
  others_differ (x ∷ xs) b h e = elim (t x) as (λ v. t x ≡ v → cond v (Some x) (find t xs) ≡ Some b →
      Each (λ y. t y ≡ false → Differ (row y) (row b)) (x ∷ xs)) [
        | true ↦ λ is e.
            let same : x ≡ b = cc in
            subst (λ (b : Binding). Each (λ y. t y ≡ false → Differ (row y) (row b)) (x ∷ xs)) same (
              λ isnt. absurd (true≢false (sym is ∙ isnt)),
              each_weaker (λ y. Differ (row x) (row y)) (λ y. t y ≡ false → Differ (row y) (row x))
                  (λ y d isnt p g. d (sym p) (sym g)) xs (each_rows (Differ (row x)) xs h.0),
            )
        | false ↦ λ is e. (
          λ isnt. (find_passes t (λ y. Differ (row x) (row y)) xs b (each_rows (Differ (row x)) xs h.0) e).1,
          others_differ xs b h.1 e,
        )
      ] refl e

  module _ (Q : Row → Type 0) where
    each_other : (xs : List Binding) → Each (λ y. t y ≡ false → Q (row y)) xs →
        Each Q (map row (filter (λ y. not (t y)) xs))
    each_other [] h = tt
    each_other (x ∷ xs) h = elim (t x) as (λ v. t x ≡ v →
        Each Q (map row (cond (not v) (x ∷ filter (λ y. not (t y)) xs) (filter (λ y. not (t y)) xs))))
        [ true ↦ λ e. each_other xs h.1 | false ↦ λ e. (h.0 e, each_other xs h.1) ] refl

    -- The images of bindings none of which passes.
    each_seen : (q : Binding → Bool) (f : Binding → Binding) → ((x : Binding) → t (f x) ≡ t x) →
        ((x : Binding) → row (f x) ≡ row x) → (xs : List Binding) → Each (λ y. t y ≡ false → Q (row y)) xs →
        find t (map f (filter q xs)) ≡ None → Each Q (map row (map f (filter q xs)))
    each_seen q f same rows [] h none = tt
    each_seen q f same rows (x ∷ xs) h none = elim (q x) as (λ v.
        find t (map f (cond v (x ∷ filter q xs) (filter q xs))) ≡ None →
        Each Q (map row (map f (cond v (x ∷ filter q xs) (filter q xs))))) [
          | true ↦ λ none. elim (t (f x)) as (λ w. t (f x) ≡ w →
              cond w (Some (f x)) (find t (map f (filter q xs))) ≡ None →
              Q (row (f x)) × Each Q (map row (map f (filter q xs)))) [
                | true ↦ λ e n. cc
                | false ↦ λ e n.
                    (subst Q (sym (rows x)) (h.0 (sym (same x) ∙ e)), each_seen q f same rows xs h.1 n)
              ] refl none
          | false ↦ λ none. each_seen q f same rows xs h.1 none
        ] none

module _ (assignment : AssignmentRules) (address : ℕ) (packet : OutboundPacket) (list : List Binding) (n : ℕ)
    (differ : AllDiffer (map row list)) where
  abbrev new : Row
  new = row (new_binding address packet n)

  abbrev IsOther : Binding → Type 0
  IsOther y = is_of_source address packet y ≡ false → Differ (row y) new

  granted_differ : (held : Option Binding) → find (is_of_source address packet) list ≡ held →
      held_or_new_number assignment list address packet held ≡ Ok n → Each IsOther list
  granted_differ None is e =
      let unused = chosen_free assignment.choosing packet.block list packet.protocol address packet.inside n
      (granted_is_chosen assignment list address packet n e) in
      let has : Binding → Bool = λ b. has_number address packet.protocol n b.row in
      each_weaker (λ y. Differ (row y) new) IsOther (λ y d isnt. d) list (each_rows (λ r. Differ r new) list
      (free_differ new list (any_none has list (not-true (list_any has list) unused))))
  granted_differ (Some b) is e =
      let found = find_passes (is_of_source address packet) (λ b. Unit {0}) list b (each_true list) is in
      let parts = inside_parts address packet.protocol packet.inside (row b) found.0 in
      let number : b.row.external.number ≡ n = cc in
      each_weaker (λ y. is_of_source address packet y ≡ false → Differ (row y) (row b)) IsOther (λ y d isnt p g.
      d isnt (p ∙ parts.protocol_is)
      (g ∙ (λ k. record { address = sym parts.address_is k; number = sym number k }))) list
      (others_differ (is_of_source address packet) list b differ is)

-- The rows after a leg still differ.
pub differ_act : (rules : Rules) (address : ℕ) (leg : Leg) (list : List Binding) → AllDiffer (map row list) →
    AllDiffer (map row (act rules address leg list).list)
differ_act rules address leg list differ =
    of_act rules address leg list (λ (a : LegEffect). AllDiffer (map row a.list))
    (λ protocol flags. let packet : OutboundPacket = outbound_packet rules protocol flags leg.now leg.packet in
    out_keeps AllDiffer differ_kept rules.timers address (assignment_rules rules) packet (λ all n h none is.
    differ_push (map row (other_bindings address packet all)) (row (new_binding address packet n))
    (differ_kept (λ b. not (is_of_source address packet b)) all h)
    (each_other (is_of_source address packet) (λ r. Differ r (row (new_binding address packet n))) all
    (granted_differ (assignment_rules rules) address packet all n h (find (is_of_source address packet) all) refl is)))
    list differ)
    (λ protocol flags. in_keeps AllDiffer differ_kept rules.timers address (inbound_rules rules)
    (inbound_packet protocol flags leg.now leg.packet) list differ)
    (λ end. differ) leg.way (kind leg.packet)

module _ (rules : Rules) (t : AreTimers rules.timers) (address : ℕ) (leg : Leg) (list : List Binding)
    (P : Option BindingUse → List Binding → Type 0) where
  -- The live bindings.
  abbrev own : List Binding
  own = purge rules.timers leg.now list

  abbrev all : List Binding
  all = live_and_held rules.timers leg.now list

  same : purge rules.timers leg.now all ≡ own
  same = purge_taken rules.timers leg.now list

  -- The bindings that are live after a leg.
  abbrev Moves : Option BindingUse → List Binding → Type 0
  Moves went left = P went (purge rules.timers leg.now left)

  module _ (stays : P None own)
      (found : (p : Binding → Bool) (f : Binding → Binding) (b : Binding) → find p own ≡ Some b →
      ((x : Binding) → row (f x) ≡ row x) →
      ((x : Binding) → IsFresh rules.timers leg.now x → IsFresh rules.timers leg.now (f x)) →
      P (Some (record { binding = f b; made = false })) (change_first p f own))
      (made : (new : Binding) → leg.way ≡ Outgoing → IsFresh rules.timers leg.now new →
      (AllDiffer (map row list) → Each (λ r. Differ r (row new)) (map row own)) →
      P (Some (record { binding = new; made = true })) (own ++ new ∷ [])) where
    held_stays : Moves None all
    held_stays = subst (P None) (sym same) stays

    module _ (out : leg.way ≡ Outgoing) (protocol : Protocol) (flags : Flags) where
      abbrev packet : OutboundPacket
      packet = outbound_packet rules protocol flags leg.now leg.packet

      abbrev source : Binding → Bool
      source = is_of_source address packet

      new_differs : (n : ℕ) → held_or_new_number (assignment_rules rules) all address packet (find source all) ≡ Ok n →
          find source (purge rules.timers leg.now all) ≡ None → AllDiffer (map row list) →
          Each (λ r. Differ r (row (new_binding address packet n))) (map row own)
      new_differs n e none differ =
          subst (λ (l : List Binding). Each (λ r. Differ r (row (new_binding address packet n))) (map row l)) same
          (each_seen source (λ r. Differ r (row (new_binding address packet n))) (is_live rules.timers leg.now)
          (with_live_flows rules.timers leg.now) (λ x. refl) (λ x. refl) all
          (granted_differ (assignment_rules rules) address packet all n
          (purge_keeps AllDiffer differ_kept rules.timers (hold_ago rules.timers leg.now) list differ)
          (find source all) refl e) none)

      moves_made : find source (purge rules.timers leg.now all) ≡ None → (number : Result ℕ Cause) →
          held_or_new_number (assignment_rules rules) all address packet (find source all) ≡ number →
          Moves (out_made all address packet number).through (out_made all address packet number).list
      moves_made none (Err cause) e = held_stays
      moves_made none (Ok n) e =
          let new : Binding = binding_after_out packet (new_binding address packet n) in
          subst (P (Some (record { binding = new; made = true })))
          (sym (made_is_seen rules.timers t address packet n all none ∙ ap (λ (l : List Binding). l ++ new ∷ []) same))
          (made new out (made_is_fresh rules.timers t address packet n) (new_differs n e none))

      moves_found : (o : Option Binding) → find source (purge rules.timers leg.now all) ≡ o →
          Moves (out_found rules.timers (assignment_rules rules) all address packet o).through
          (out_found rules.timers (assignment_rules rules) all address packet o).list
      moves_found (Some b) e =
          subst (P (Some (record { binding = binding_after_out packet b; made = false })))
          (sym (sent_seen rules.timers t address packet all ∙ ap (change_first source (binding_after_out packet)) same))
          (found source (binding_after_out packet) b (ap (find source) (sym same) ∙ e) (λ x. refl)
          (λ x f. sent_fresh rules.timers t packet.remote flags leg.now x f.flows))
      moves_found None e = moves_made e (held_or_new_number (assignment_rules rules) all address packet
          (find source all))
          refl

      goes : Moves (act_out rules address leg list protocol flags).through
          (act_out rules address leg list protocol flags).list
      goes = moves_found (find source (purge rules.timers leg.now all)) refl

    module _ (protocol : Protocol) (flags : Flags) where
      abbrev came : InboundPacket
      came = inbound_packet protocol flags leg.now leg.packet

      abbrev target : Binding → Bool
      target = is_of_destination address came

      moves_passed : (b : Binding) → find target (purge rules.timers leg.now all) ≡ Some b → (passes : Bool) →
          Moves (in_passed rules.timers (inbound_rules rules) all address came b passes).through
          (in_passed rules.timers (inbound_rules rules) all address came b passes).list
      moves_passed b e true =
          subst (P (Some (record { binding = binding_after_in (inbound_rules rules) came b; made = false })))
          (sym (received_seen rules.timers t (inbound_rules rules) address came all
          ∙ ap (change_first target (binding_after_in (inbound_rules rules) came)) same))
          (found target (binding_after_in (inbound_rules rules) came) b (ap (find target) (sym same) ∙ e) (λ x. refl)
          (received_fresh rules.timers t came.remote flags leg.now (inbound_rules rules)))
      moves_passed b e false = held_stays

      moves_came : (o : Option Binding) → find target (purge rules.timers leg.now all) ≡ o →
          Moves (in_found rules.timers (inbound_rules rules) all address came o).through
          (in_found rules.timers (inbound_rules rules) all address came o).list
      moves_came None e = held_stays
      moves_came (Some b) e = moves_passed b e (permits (inbound_rules rules) b came.remote)

      comes : Moves (act_in rules address leg list protocol flags).through
          (act_in rules address leg list protocol flags).list
      comes = moves_came (find target (purge rules.timers leg.now all)) refl

    moves_by : (way : Way) → leg.way ≡ way → (k : Kind) → Moves (act_by rules address leg list way k).through
        (act_by rules address leg list way k).list
    moves_by way h k = grind (arith, common_steps, nat_tests, goes, comes)

    pub of_moves : Moves (act rules address leg list).through (act rules address leg list).list
    of_moves = moves_by leg.way refl (kind leg.packet)
