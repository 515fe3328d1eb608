-- An outgoing packet, on the stored bindings and on the list.
use Rattle.std.proofs.Common.{◌≡◌, ◌≢◌, ℕ, ◌≤◌, true, false, cond, List, map, Option, Some, None, Result, Ok, Err, refl, sym, ◌∙◌, ap, subst, arith}
use Rattle.std.{specs.{Prelude.{find, ok_or}, Option.option_map}, proofs.lemmas.Option.same_Some}
use Rattle.napt_wire.specs.declared.{Protocol.Protocol, Cause.{Cause, TheVariants.{OverQuota, NoPort}}, Endpoint.Endpoint}
use Rattle.napt_config.specs.{Rules.AreTimers, declared.settings.{Timers.Timers, PortBlock.PortBlock}}
use Rattle.napt_rules.specs.declared.{AssignmentRules.AssignmentRules, OutboundPacket.OutboundPacket, Row.Row}
use Rattle.napt_rules.specs.Prelude.{Binding, change_first, is_live, with_live_flows, purge, hold_ago, live_and_held, choice, count_for, reaches_quota, has_number, is_of_source, binding_after_out, new_binding, OutboundEffect, out_made, held_or_new_number, out_found, out_taken, row, AreBindingsApart}
use Rattle.napt_table.specs.{declared.bindings.keys.ExternalNumberKey.ExternalNumberKey, Keys.{key_eq, external_key}, HeldLists.{seen_binding, ShowsHeld}}
use Rattle.napt_table.specs.BindingIndexes.{BindingIndexModel, held_binding, held_at, count_all, HasInside, IsNumberOf, IsNamed, HasNoInside, HoldsSame, KeepsSeen, WentThrough, HasNoLiveBinding}
use Rattle.napt_table.specs.Bindings.{BindingsModel, ListShowsStored, ListAgrees, KeepsUnseen, BindingsUnchanged, IsPurged, shown_made, NewBindingOk, RenewedBindingOk}
use Rattle.napt_table.proofs.{Hosts.count_is_held, SeenBindings.{seen_is, seen_seen, found_seen}, Keys.{by_key, at_key, key_number, past_key}}
use Rattle.napt_table.proofs.{Steps.{by_protocol, sent_others}, OutboundSteps.{found, parts, known_shows, not_found, made_shows}, HeldThroughTime.{live_apart, keeps_on, out_stays}}
use Rattle.napt_laws.proofs.{Endpoints.{not_has, inside_it, inside_parts, has_it, once_inside, once_number}, UniqueSearches.{passes, find_same, find_passed_over}}
use Rattle.napt_laws.proofs.{SeenElements.ago_before, StepsLive.{sent_seen, made_is_seen}}

-- The row of a live binding is visible.
pub seen_row : (timers : Timers) (now : ℕ) (o : Option Binding) →
    ((b : Binding) → o ≡ Some b → is_live timers now b ≡ true) →
    option_map row (seen_binding timers now o) ≡ option_map row o
seen_row timers now None live = refl
seen_row timers now (Some b) live =
    ap (λ v. option_map row (cond v (Some (with_live_flows timers now b)) None)) (live b refl)

some_row : (o : Option Binding) (r : Row) → option_map row o ≡ Some r →
    (b : Binding) × (o ≡ Some b) × (row b ≡ r)
some_row None r e = cc
some_row (Some b) r e = (b, refl, same_Some (row b) r e)

-- If a look-up finds no number, no binding is that of the inside endpoint.
pub absent_from : (all : BindingIndexModel) (protocol : Protocol) (inside : Endpoint) (found : Option ℕ) →
    IsNumberOf all protocol inside found → found ≡ None → HasNoInside all protocol inside
absent_from all protocol inside found finds none n b h e =
    let z : None ≡ Some n = sym none ∙ (finds n).1 (b, h, e) in cc

-- TWO STEPS IN SUCCESSION

pub same_then : (a b c : BindingIndexModel) → HoldsSame a b → HoldsSame b c → HoldsSame a c
same_then a b c p q = record {
  place = record {
    address_is = q.place.address_is ∙ p.place.address_is;
    assignment_is = q.place.assignment_is ∙ p.place.assignment_is;
  };
  held_same = λ k. q.held_same k ∙ p.held_same k;
}

pub stands_then : (a b c : BindingsModel) → BindingsUnchanged a b → BindingsUnchanged b c → BindingsUnchanged a c
stands_then a b c p q = record {
  timers_is = q.timers_is ∙ p.timers_is;
  at_is = q.at_is ∙ p.at_is;
  same = same_then a.held b.held c.held p.same q.same;
}

pub keeps_then : (timers : Timers) (at : ℕ) (a b c : BindingIndexModel) → KeepsSeen timers at a b →
    KeepsSeen timers at b c →
    KeepsSeen timers at a c
keeps_then timers at a b c p q = record {
  place = record {
    address_is = q.place.address_is ∙ p.place.address_is;
    assignment_is = q.place.assignment_is ∙ p.place.assignment_is;
  };
  seen_same = λ k. q.seen_same k ∙ p.seen_same k;
}

-- A PACKET WHOSE BINDING IS FOUND

module _ (timers : Timers) (t : AreTimers timers) (assignment : AssignmentRules) (packet : OutboundPacket)
    (old new : BindingIndexModel)
    (named : IsNamed old) (number : ℕ) (went : WentThrough timers packet old new number) (list : List Binding)
    (apart : AreBindingsApart (map row list)) (keeps : ListAgrees timers packet.now old.address old list) where
  abbrev live : List Binding
  live = purge timers packet.now list

  alive_apart : AreBindingsApart (map row live)
  alive_apart = live_apart timers packet.now list apart

  protocols : (n : ℕ) (b : Binding) → held_at old packet.protocol n ≡ Some b → b.row.protocol ≡ packet.protocol
  protocols n b h = named.protocol_is (external_key packet.protocol n) b h

  externals : (n : ℕ) (b : Binding) → held_at old packet.protocol n ≡ Some b →
      b.row.external ≡ record { address = old.address; number = n }
  externals n b h = named.external_is (external_key packet.protocol n) b h

  pub found_is : find (is_of_source old.address packet) live ≡ Some went.binding
  found_is = found timers old.address packet (held_at old packet.protocol) live alive_apart (keeps.live packet.protocol)
      protocols externals number went.binding went.found went.inside_is

  out_is : out_taken timers assignment old.address packet list
      ≡ out_found timers assignment list old.address packet (Some went.binding)
  out_is = ap (out_found timers assignment list old.address packet) found_is

  pub went_any_block : (block : Option PortBlock) →
      out_taken timers assignment old.address (record packet { block = block }) list
      ≡ out_taken timers assignment old.address packet list
  went_any_block block =
      ap (out_found timers assignment list old.address (record packet { block = block })) found_is ∙ sym out_is

  pub went_answer : Ok number ≡ (out_taken timers assignment old.address packet list).number
  went_answer = sym (ap (λ (o : OutboundEffect). o.number) out_is ∙ ap
      (λ (x : Endpoint). let r : Result ℕ Cause = Ok x.number in r)
      (parts timers old.address packet (held_at old packet.protocol) live alive_apart (keeps.live packet.protocol)
      protocols externals number went.binding went.found went.inside_is).1)

  left_is : purge timers packet.now (out_taken timers assignment old.address packet list).list
      ≡ change_first (is_of_source old.address packet) (binding_after_out packet) live
  left_is = ap (λ (o : OutboundEffect). purge timers packet.now o.list) out_is
      ∙ sent_seen timers t old.address packet list

  went_shows : ListShowsStored timers packet.now old.address new
      (change_first (is_of_source old.address packet) (binding_after_out packet) live)
  went_shows q = by_protocol packet.protocol q (λ r. ShowsHeld timers packet.now old.address r (held_at new r)
      (change_first (is_of_source old.address packet) (binding_after_out packet) live))
      (known_shows timers old.address packet (held_at old packet.protocol) live alive_apart (keeps.live packet.protocol)
      protocols externals number went.binding went.found went.inside_is (held_at new packet.protocol)
      (λ n d. went.one.others (external_key packet.protocol n) (λ e. d (ap (λ (k : ExternalNumberKey). k.number) e)))
      went.left)
      (λ d n. sent_others old.address packet live q d n ∙ (keeps.live q n ∙ ap (seen_binding timers packet.now)
      (sym (went.one.others (external_key q n) (λ e. d (ap (λ (k : ExternalNumberKey). k.protocol) e))))))

  went_unseen : KeepsUnseen timers packet.now old new
  went_unseen k none at from = by_key (external_key packet.protocol number) k (λ n.
      seen_binding timers packet.now (held_binding new n) ≡ None →
      seen_binding timers at (held_binding new n) ≡ seen_binding timers at (held_binding old n))
      (λ h. let z : None ≡ Some (binding_after_out packet went.binding) = sym h ∙ went.left in cc)
      (λ d h. ap (seen_binding timers at) (went.one.others k d)) none

  pub went_keeps : AreBindingsApart (map row (out_taken timers assignment old.address packet list).list) →
      ListAgrees timers packet.now old.address new (out_taken timers assignment old.address packet list).list
  went_keeps left =
      keeps_on timers packet.now old.address old new list (out_taken timers assignment old.address packet list).list
      left
      keeps.held (subst (ListShowsStored timers packet.now old.address new) (sym left_is) went_shows) went_unseen
      (λ q n. out_stays timers t old.address list q n assignment packet apart left)

-- A PACKET WHOSE INSIDE ENDPOINT HAS NO LIVE BINDING

pub none_live : (timers : Timers) (packet : OutboundPacket) (old new : BindingIndexModel) → IsNamed old →
    HasNoLiveBinding timers packet old new →
    (list : List Binding) → AreBindingsApart (map row list) → ListAgrees timers packet.now old.address old list →
    find (is_of_source old.address packet) (purge timers packet.now list) ≡ None
none_live timers packet old new named none list apart keeps =
    not_found timers old.address packet (held_at old packet.protocol) (purge timers packet.now list)
    (live_apart timers packet.now list apart) (keeps.live packet.protocol)
    (λ n b h. named.protocol_is (external_key packet.protocol n) b h)
    (λ n b h. named.external_is (external_key packet.protocol n) b h) none.none

-- A NEW BINDING

pub made_all : (timers : Timers) (address : ℕ) (packet : OutboundPacket) (old new : BindingIndexModel) (number : ℕ)
    (binding : Binding)
    (list : List Binding) → ListShowsStored timers packet.now address old list →
    ((k : ExternalNumberKey) → held_binding new k ≡ cond (key_eq (external_key packet.protocol number) k) (Some binding)
    (held_binding old k)) → seen_binding timers packet.now (held_at old packet.protocol number) ≡ None →
    seen_binding timers packet.now (Some binding) ≡ Some
    (binding_after_out packet (new_binding address packet number)) →
    ListShowsStored timers packet.now address new (shown_made list address packet (Ok number))
made_all timers address packet old new number binding list shows holds free is q =
    let p : Protocol = packet.protocol in
    by_protocol p q (λ r. ShowsHeld timers packet.now address r (held_at new r)
    (shown_made list address packet (Ok number)))
    (made_shows timers address packet (held_at old p) list (shows p) number binding (held_at new p)
    (λ n. holds (external_key p n) ∙ ap (λ v. cond v (Some binding) (held_at old p n)) (key_number p number n)) free is)
    (λ d n. find_passed_over (λ b. has_number address q n b.row) list
    (binding_after_out packet (new_binding address packet number))
    (not_has address q n (binding_after_out packet (new_binding address packet number)).row d)
    ∙ (shows q n ∙ ap (seen_binding timers packet.now) (sym (holds (external_key q n)
    ∙ past_key (external_key p number) (Some binding) (held_at old q n) (external_key q n)
    (λ e. d (ap (λ (k : ExternalNumberKey). k.protocol) e))))))

pub made_unseen : (timers : Timers) (address : ℕ) (packet : OutboundPacket) (old new : BindingIndexModel) (number : ℕ)
    (binding : Binding) →
    ((k : ExternalNumberKey) → held_binding new k ≡ cond (key_eq (external_key packet.protocol number) k) (Some binding)
    (held_binding old k)) → seen_binding timers packet.now (Some binding)
    ≡ Some (binding_after_out packet (new_binding address packet number)) →
    KeepsUnseen timers packet.now old new
made_unseen timers address packet old new number binding holds is k none at from =
    let key : ExternalNumberKey = external_key packet.protocol number in
    by_key key k (λ n. seen_binding timers packet.now (held_binding new n) ≡ None →
    seen_binding timers at (held_binding new n) ≡ seen_binding timers at
    (held_binding old n))
    (λ h. let z : None ≡ Some (binding_after_out packet (new_binding address packet number)) =
    sym h ∙ (ap (seen_binding timers packet.now) (holds key ∙ at_key key (Some binding) (held_binding old key)) ∙ is)
    in cc)
    (λ d h. ap (seen_binding timers at) (holds k ∙ past_key key (Some binding) (held_binding old k) k d)) none

-- The visible part of the list after the packet.
shown_is : (timers : Timers) → AreTimers timers → (address : ℕ) (packet : OutboundPacket) (list : List Binding) →
    find (is_of_source address packet) (purge timers packet.now list) ≡ None → (answer : Result ℕ Cause) →
    purge timers packet.now (out_made list address packet answer).list
    ≡ shown_made (purge timers packet.now list) address packet answer
shown_is timers t address packet list none (Err cause) = refl
shown_is timers t address packet list none (Ok number) = made_is_seen timers t address packet number list none

made_answer : (list : List Binding) (address : ℕ) (packet : OutboundPacket) (answer : Result ℕ Cause) →
    answer ≡ (out_made list address packet answer).number
made_answer list address packet (Err cause) = refl
made_answer list address packet (Ok number) = refl

-- A PACKET WHOSE BINDING IS NOT FOUND: memory is reserved, and bindings whose hold time is over are removed

module _ (old mid gone : BindingsModel) (packet : OutboundPacket) (same : BindingsUnchanged old mid)
    (purged : IsPurged packet.now mid gone)
    (none : (n : ℕ) (b : Binding) → seen_binding old.timers packet.now (held_at old.held packet.protocol n) ≡ Some b →
    b.row.inside ≢ packet.inside) (named : IsNamed old.held) (gone_named : IsNamed gone.held) where
  abbrev ago : ℕ
  ago = hold_ago old.timers packet.now

  gone_timers : gone.timers ≡ old.timers
  gone_timers = purged.timers_is ∙ same.timers_is

  gone_address : gone.held.address ≡ old.held.address
  gone_address = purged.keeps.place.address_is ∙ same.same.place.address_is

  gone_assignment : gone.held.assignment ≡ old.held.assignment
  gone_assignment = purged.keeps.place.assignment_is ∙ same.same.place.assignment_is

  gone_then : (k : ExternalNumberKey) → seen_binding old.timers ago (held_binding gone.held k)
      ≡ seen_binding old.timers ago (held_binding old.held k)
  gone_then k = subst (λ (t : Timers). seen_binding t (hold_ago t packet.now) (held_binding gone.held k)
      ≡ seen_binding t (hold_ago t packet.now) (held_binding mid.held k))
      same.timers_is (purged.keeps.seen_same k) ∙ ap (seen_binding old.timers ago) (same.same.held_same k)

  gone_seen : (k : ExternalNumberKey) (at : ℕ) → ago ≤ at → seen_binding old.timers at (held_binding gone.held k)
      ≡ seen_binding old.timers at (held_binding old.held k)
  gone_seen k at from = sym (seen_seen old.timers ago at from (held_binding gone.held k))
      ∙ (ap (seen_binding old.timers at) (gone_then k) ∙ seen_seen old.timers ago at from (held_binding old.held k))

  gone_live : (k : ExternalNumberKey) (b : Binding) → held_binding gone.held k ≡ Some b →
      is_live old.timers ago b ≡ true
  gone_live k b h = subst (λ (t : Timers). is_live t (hold_ago t packet.now) b ≡ true) same.timers_is
      (purged.live k b h)

  -- A stored binding of the packet's source is not visible.
  pub gone_unseen : (n : ℕ) → HasInside gone.held packet.protocol packet.inside n →
      seen_binding gone.timers packet.now (held_at gone.held packet.protocol n) ≡ None
  gone_unseen n (b, h, inside) = subst (λ (t : Timers). seen_binding t packet.now
      (held_at gone.held packet.protocol n) ≡ None)
      (sym gone_timers) (elim (seen_binding old.timers packet.now (held_at gone.held packet.protocol n)) as (λ o.
      seen_binding old.timers packet.now (held_at gone.held packet.protocol n) ≡ o → o ≡ None) [
        | None ↦ λ e. refl
        | Some x ↦ λ e.
            let s = seen_is old.timers packet.now (held_at gone.held packet.protocol n) x e in
            let its : b ≡ s.0 = same_Some b s.0 (sym h ∙ s.1) in
            let row_is : x.row.inside ≡ packet.inside = sym (ap (λ (y : Binding). y.row.inside) s.3)
            ∙ (sym (ap (λ (y : Binding). y.row.inside) its) ∙ inside) in
            absurd (none n x (sym (gone_seen (external_key packet.protocol n) packet.now
            (ago_before old.timers packet.now)) ∙ e) row_is)
      ] refl)

  module _ (t : AreTimers old.timers) (list : List Binding) (apart : AreBindingsApart (map row list))
      (is_taken : live_and_held old.timers packet.now list ≡ list)
      (keeps : ListAgrees old.timers packet.now old.held.address old.held list) where
    abbrev address : ℕ
    address = old.held.address

    gone_keeps : ListAgrees old.timers packet.now address gone.held list
    gone_keeps = record {
      live = λ q n. keeps.live q n ∙ sym (gone_seen (external_key q n) packet.now (ago_before old.timers packet.now));
      held = λ q n at from. keeps.held q n at from ∙ sym (ap (option_map row) (gone_seen (external_key q n) at from));
    }

    gone_none : find (is_of_source address packet) (purge old.timers packet.now list) ≡ None
    gone_none = not_found old.timers address packet (held_at old.held packet.protocol)
        (purge old.timers packet.now list) (live_apart old.timers packet.now list apart) (keeps.live packet.protocol)
        (λ n b h. named.protocol_is (external_key packet.protocol n) b h)
        (λ n b h. named.external_is (external_key packet.protocol n) b h) none

    -- The list has the rows of the stored bindings.
    gone_rows : (q : Protocol) (n : ℕ) → option_map row (find (λ b. has_number address q n b.row) list)
        ≡ option_map row (held_at gone.held q n)
    gone_rows q n =
        ap (option_map row) (found_seen old.timers ago address q n list apart is_taken)
        ∙ (gone_keeps.held q n ago (omega arith) ∙ seen_row old.timers ago (held_at gone.held q n)
        (λ b h. gone_live (external_key q n) b h))

    -- A stored binding of the packet's source is in the list.
    held_found : (n : ℕ) → HasInside gone.held packet.protocol packet.inside n →
        (b : Binding) × (find (is_of_source address packet) list ≡ Some b) × (b.row.external.number ≡ n)
    held_found n (b, h, inside) =
        let r = some_row (find (λ b. has_number address packet.protocol n b.row) list) (row b)
        (gone_rows packet.protocol n ∙ ap (option_map row) h) in
        let external : r.0.row.external ≡ record { address = gone.held.address; number = n } =
        ap (λ (x : Row). x.external) r.2 ∙ gone_named.external_is (external_key packet.protocol n) b h in
        let its : is_of_source address packet r.0 ≡ true = inside_it address packet.protocol packet.inside r.0.row
        (sym (ap (λ (x : Row). x.protocol) r.2 ∙ gone_named.protocol_is (external_key packet.protocol n) b h))
        (ap (λ (x : Endpoint). x.address) external ∙ gone_address)
        (sym (ap (λ (x : Row). x.inside) r.2 ∙ inside)) in (
          r.0,
          find_same (λ b. has_number address packet.protocol n b.row) (is_of_source address packet) list r.0 r.1 its
              (once_inside address packet.protocol packet.inside list apart),
          ap (λ (x : Endpoint). x.number) external,
        )

    -- If no binding of the source is stored, none is in the list.
    none_found : HasNoInside gone.held packet.protocol packet.inside → find (is_of_source address packet) list ≡ None
    none_found absent = elim (find (is_of_source address packet) list) as (λ o.
        find (is_of_source address packet) list ≡ o → o ≡ None) [
          | None ↦ λ e. refl
          | Some b ↦ λ e.
              let p = inside_parts address packet.protocol packet.inside b.row
              (passes (is_of_source address packet) list b e) in
              let n : ℕ = b.row.external.number in
              let at : find (λ z. has_number address packet.protocol n z.row) list ≡ Some b =
              find_same (is_of_source address packet) (λ z. has_number address packet.protocol n z.row) list b e
              (has_it address packet.protocol n b.row p.protocol_is p.address_is refl)
              (once_number address packet.protocol n list apart) in
              let r = some_row (held_at gone.held packet.protocol n) (row b)
              (sym (gone_rows packet.protocol n) ∙ ap (option_map row) at) in
              absurd (absent n r.0 r.1 (ap (λ (x : Row). x.inside) r.2 ∙ sym p.inside_is))
        ] refl

    gone_reached : reaches_quota old.held.assignment.quota (count_for address packet.inside.address list)
        ≡ reaches_quota gone.held.assignment.quota (count_all gone.held packet.inside.address)
    gone_reached =
        ap (reaches_quota old.held.assignment.quota)
        (count_is_held address packet.inside.address (held_at gone.held) list apart
        gone_rows (λ q n b h. gone_named.small (external_key q n) b h))
        ∙ ap (λ (g : AssignmentRules). reaches_quota g.quota (count_all gone.held packet.inside.address))
        (sym gone_assignment)

    -- A binding is made, or the packet is refused.
    module _ (answer : Result ℕ Cause)
        (granted : held_or_new_number old.held.assignment list address packet (find (is_of_source address packet) list)
        ≡ answer)
      where
        made_is : out_taken old.timers old.held.assignment address packet list ≡ out_made list address packet answer
        made_is = ap (out_found old.timers old.held.assignment list address packet) gone_none
            ∙ ap (out_made list address packet) granted

        answered : answer ≡ (out_taken old.timers old.held.assignment address packet list).number
        answered = made_answer list address packet answer ∙ sym (ap (λ (o : OutboundEffect). o.number) made_is)

        made_keeps : (new : BindingIndexModel) → ListShowsStored old.timers packet.now address new
            (shown_made (purge old.timers packet.now list) address packet answer) →
            KeepsUnseen old.timers packet.now gone.held new →
            AreBindingsApart (map row (out_taken old.timers old.held.assignment address packet list).list) →
            ListAgrees old.timers packet.now address new
            (out_taken old.timers old.held.assignment address packet list).list
        made_keeps new live unseen left =
            keeps_on old.timers packet.now address gone.held new list
            (out_taken old.timers old.held.assignment address packet list).list left gone_keeps.held
            (subst (ListShowsStored old.timers packet.now address new)
            (sym (ap (λ (o : OutboundEffect). purge old.timers packet.now o.list)
            made_is ∙ shown_is old.timers t address packet list gone_none answer)) live) unseen
            (λ q n. out_stays old.timers t address list q n old.held.assignment packet apart left)

    abbrev Out_is : BindingsModel → Result ℕ Cause → Type 0
    Out_is new answer = (let out : OutboundEffect = out_taken old.timers old.held.assignment address packet list in
        AreBindingsApart (map row out.list) → (answer ≡ out.number) ×
        ListAgrees old.timers packet.now address new.held out.list)

    -- The quota is reached.
    pub over_sends : HasNoInside gone.held packet.protocol packet.inside →
        reaches_quota gone.held.assignment.quota (count_all gone.held packet.inside.address) ≡ true →
        Out_is gone (Err OverQuota)
    over_sends absent over left =
        let granted : held_or_new_number old.held.assignment list address packet
        (find (is_of_source address packet) list)
        ≡ Err OverQuota = ap (held_or_new_number old.held.assignment list address packet) (none_found absent)
        ∙ ap (λ v. cond {A = Result ℕ Cause} v (Err OverQuota)
        (ok_or (choice old.held.assignment.choosing packet.block list packet.protocol address packet.inside) NoPort))
        (gone_reached ∙ over) in (
          answered (Err OverQuota) granted,
          made_keeps (Err OverQuota) granted gone.held gone_keeps.live (λ k h at from. refl) left,
        )

    -- What holds with the rules after the removal holds with those before it.
    there : (P : Timers → AssignmentRules → ℕ → Type 0) → P gone.timers gone.held.assignment gone.held.address →
        P old.timers old.held.assignment address
    there P p = subst (λ (t : Timers). P t old.held.assignment address) gone_timers
        (subst (λ (g : AssignmentRules). P gone.timers g address) gone_assignment
        (subst (P gone.timers gone.held.assignment) gone_address p))

    abbrev Made : BindingsModel → Result ℕ Cause → Timers → ℕ → Type 0
    Made new answer t a = ListShowsStored t packet.now a new.held (shown_made (purge t packet.now list) a packet answer)
        × KeepsUnseen t packet.now gone.held new.held

    -- The quota is not reached, so a binding is made if a number is free.
    pub begun_sends : HasNoInside gone.held packet.protocol packet.inside →
        reaches_quota gone.held.assignment.quota (count_all gone.held packet.inside.address) ≡ false →
        (new : BindingsModel) (answer : Result ℕ Cause) → NewBindingOk packet gone new answer → Out_is new answer
    begun_sends absent under new answer begins left =
        let P : Timers → AssignmentRules → ℕ → Type 0 = λ t g a. live_and_held t packet.now list ≡ list →
        ListAgrees t packet.now a gone.held list →
        (answer ≡ ok_or (choice g.choosing packet.block list packet.protocol a packet.inside) NoPort)
        × Made new answer t a in
        let b = there P (λ k keep. let r = begins list apart k keep in (r.0, (r.1.live, r.1.unseen))) is_taken
        gone_keeps
        in
        let granted : held_or_new_number old.held.assignment list address packet
        (find (is_of_source address packet) list)
        ≡ answer = ap (held_or_new_number old.held.assignment list address packet) (none_found absent)
        ∙ (ap (λ v. cond {A = Result ℕ Cause} v (Err OverQuota)
        (ok_or (choice old.held.assignment.choosing packet.block list packet.protocol address packet.inside) NoPort))
        (gone_reached ∙ under) ∙ sym b.0) in
        (answered answer granted, made_keeps answer granted new.held b.1.0 b.1.1 left)

    -- The number is held for the source, so its binding is renewed.
    pub renewed_sends : (n : ℕ) → HasInside gone.held packet.protocol packet.inside n → (new : BindingsModel) →
        RenewedBindingOk packet gone new n → Out_is new (Ok n)
    renewed_sends n has new renews left =
        let P : Timers → AssignmentRules → ℕ → Type 0 = λ t g a.
        ListShowsStored t packet.now a gone.held (purge t packet.now list) → Made new (Ok n) t a in
        let b = there P (λ shows. let r = renews list shows in (r.live, r.unseen)) gone_keeps.live in
        let f = held_found n has in
        let granted : held_or_new_number old.held.assignment list address packet
        (find (is_of_source address packet) list)
        ≡ Ok n = ap (held_or_new_number old.held.assignment list address packet) f.1
        ∙ ap (λ (m : ℕ). let r : Result ℕ Cause = Ok m in r) f.2 in
        (answered (Ok n) granted, made_keeps (Ok n) granted new.held b.0 b.1 left)
