-- The stored bindings agree with the list as time passes and packets come, now and from the hold before on.
use Rattle.std.proofs.Common.{◌≡◌, ℕ, ◌<◌, ◌≤◌, nat_le, Bool, true, false, not, ◌&&◌, cond, List, [], ◌∷◌, ◌++◌, map, filter, find, Option, Some, None, ◌⊎◌, inl, inr, Ok, refl, sym, ◌∙◌, ap, subst, arith, eqb, true≢false}
use Rattle.std.{specs.Option.{option_map, is_some}, proofs.lemmas.Bool.{leb-true, leb-false, and_parts}}
use Rattle.napt_wire.specs.declared.Protocol.{Protocol}
use Rattle.napt_config.specs.{Rules.AreTimers, declared.settings.Timers.Timers}
use Rattle.napt_rules.specs.declared.{AssignmentRules.AssignmentRules, InboundRules.InboundRules, OutboundPacket.OutboundPacket, InboundPacket.InboundPacket}
use Rattle.napt_rules.specs.Prelude.{Binding, Each, change_first, same_protocol, has_number, is_live, with_live_flows, purge, hold_ago, live_and_held, is_of_source, is_of_live_source, binding_after_out, live_binding_after_out, other_bindings, new_binding, held_or_new_number, out_taken, is_of_live_destination, live_binding_after_in, in_taken, row, AreBindingsApart}
use Rattle.napt_rules.proofs.Life.{lived}
use Rattle.napt_laws.proofs.{Lists.{find_passes, find_none, any_none, each_weaker, each_true}, UniqueSearches.{Once, find_pushed, find_passed_over}}
use Rattle.napt_laws.proofs.{Purges.purge_purge, SeenElements.{ago_before, ago_later, purge_taken}, StepCases.{of_out, of_in}, StepRows.{purge_keeps, rows_change}}
use Rattle.napt_laws.proofs.{StepsLive.{sent_is_fresh, made_is_fresh, received_is_fresh}, StepsSound.apart_kept, Endpoints.{inside_parts, once_number, once_inside}}
use Rattle.napt_table.specs.{declared.bindings.keys.ExternalNumberKey.ExternalNumberKey, Keys.external_key, HeldLists.{seen_binding, LivesInBoth}, BindingIndexes.{BindingIndexModel, held_binding, held_at}, Bindings.{ListShowsStored, ListAgrees, KeepsUnseen}}
use Rattle.napt_table.proofs.{SeenBindings.{seen_is, find_purged, seen_seen, shows_later}, InboundSteps.fresh_seen, TableBuilders.none_earlier}

-- No two bindings that are live at a time share an endpoint.
pub live_apart : (timers : Timers) (now : ℕ) (list : List Binding) → AreBindingsApart (map row list) →
    AreBindingsApart (map row (purge timers now list))
live_apart = purge_keeps AreBindingsApart apart_kept

-- LATER

module _ (timers : Timers) (at now : ℕ) (le : at ≤ now) (address : ℕ) (all : BindingIndexModel) (list : List Binding)
    (apart : AreBindingsApart (map row list)) (keeps : ListAgrees timers at address all list) where
  pub live_later : ListShowsStored timers now address all (purge timers now list)
  live_later q n =
      ap (find (λ b. has_number address q n b.row)) (sym (purge_purge timers at now le list))
      ∙ shows_later timers at now address q (held_at all q) (purge timers at list) (live_apart timers at list apart) le
      (keeps.live q) n

  held_later : (q : Protocol) → LivesInBoth timers (hold_ago timers now) address q (held_at all q)
      (live_and_held timers now list)
  held_later q n t from =
      let soon = ago_later timers at now le in
      ap (λ (o : Option Binding). option_map row (seen_binding timers t o))
      (find_purged timers (hold_ago timers now) address q n list apart)
      ∙ (ap (option_map row) (seen_seen timers (hold_ago timers now) t from
      (find (λ b. has_number address q n b.row) list))
      ∙ keeps.held q n t (omega (arith, soon, from)))

  pub keeps_later : ListAgrees timers now address all (live_and_held timers now list)
  keeps_later = record {
    live = subst (ListShowsStored timers now address all) (sym (purge_taken timers now list)) live_later;
    held = held_later;
  }

-- A STEP

-- A row that is visible was live at each earlier time.
row_before : (timers : Timers) (now : ℕ) (o : Option Binding) (b : Binding) → seen_binding timers now o ≡ Some b →
    (t : ℕ) →
    t ≤ now → option_map row (seen_binding timers t o) ≡ Some (row b)
row_before timers now o b is t le =
    let s = seen_is timers now o b is in
    ap (λ (o : Option Binding). option_map row (seen_binding timers t o)) s.1
    ∙ (ap (λ v. option_map row (cond v (Some (with_live_flows timers t s.0)) None)) (lived timers t now le s.0 s.2)
    ∙ ap (λ (x : Binding). Some (row x)) s.3)

module _ (timers : Timers) (now address : ℕ) (old new : BindingIndexModel) (all left : List Binding)
    (apart : AreBindingsApart (map row left)) (before : (q : Protocol) →
    LivesInBoth timers (hold_ago timers now) address q
    (held_at old q) all)
    (live : ListShowsStored timers now address new (purge timers now left)) (unseen : KeepsUnseen timers now old new)
    (stays : (q : Protocol) (n : ℕ) → seen_binding timers now (find (λ b. has_number address q n b.row) left) ≡ None →
    find (λ b. has_number address q n b.row) left ≡ find (λ b. has_number address q n b.row) all) where
  abbrev found : Protocol → ℕ → Option Binding
  found q n = find (λ b. has_number address q n b.row) left

  alike : (q : Protocol) (n : ℕ) → seen_binding timers now (found q n) ≡ seen_binding timers now (held_at new q n)
  alike q n = sym (find_purged timers now address q n left apart) ∙ live q n

  held_on : (q : Protocol) → LivesInBoth timers (hold_ago timers now) address q (held_at new q) left
  held_on q n t from = elim (nat_le now t) as (λ v. nat_le now t ≡ v →
      option_map row (seen_binding timers t (found q n)) ≡ option_map row (seen_binding timers t (held_at new q n))) [
        | true ↦ λ e.
            let le : now ≤ t = leb-true now t e in
            ap (option_map row) (sym (seen_seen timers now t le (found q n))
            ∙ (ap (seen_binding timers t) (alike q n) ∙ seen_seen timers now t le (held_at new q n)))
        | false ↦ λ e.
            let less : t < now = leb-false now t e in
            let le : t ≤ now = omega (arith, less) in
            elim (seen_binding timers now (held_at new q n)) as (λ o. seen_binding timers now (held_at new q n) ≡ o →
            option_map row (seen_binding timers t (found q n))
            ≡ option_map row (seen_binding timers t (held_at new q n))) [
              | None ↦ λ none.
                  ap (λ (o : Option Binding). option_map row (seen_binding timers t o)) (stays q n (alike q n ∙ none))
                  ∙ (before q n t from ∙ sym (ap (option_map row) (unseen (external_key q n) none t from)))
              | Some b ↦ λ is. row_before timers now (found q n) b (alike q n ∙ is) t le
                  ∙ sym (row_before timers now (held_at new q n) b is t le)
            ] refl
      ] refl

  pub keeps_on : ListAgrees timers now address new left
  keeps_on = record { live = live; held = held_on }

-- The agreement is kept when bindings whose hold time is over are removed.
pub purged_keeps : (timers : Timers) (now address : ℕ) (old new : BindingIndexModel) (all : List Binding) →
    ListAgrees timers now address old all →
    ((k : ExternalNumberKey) → seen_binding timers (hold_ago timers now) (held_binding new k)
    ≡ seen_binding timers (hold_ago timers now)
    (held_binding old k)) →
    ListAgrees timers now address new all
purged_keeps timers now address old new all keeps same =
    let ago : ℕ = hold_ago timers now in
    let later : (k : ExternalNumberKey) (t : ℕ) → ago ≤ t →
    seen_binding timers t (held_binding new k) ≡ seen_binding timers t (held_binding old k) =
    λ k t from. sym (seen_seen timers ago t from (held_binding new k)) ∙ (ap (seen_binding timers t) (same k)
    ∙ seen_seen timers ago t from (held_binding old k)) in record {
      live = λ q n. keeps.live q n ∙ sym (later (external_key q n) now (ago_before timers now));
      held = λ q n t from. keeps.held q n t from ∙ sym (ap (option_map row) (later (external_key q n) t from));
    }

some_seen : (o : Option Binding) → is_some (option_map row o) ≡ is_some o
some_seen None = refl
some_seen (Some b) = refl

-- At a time, a number is found in the list if and only if its stored binding is visible.
pub some_agree : (timers : Timers) (t address : ℕ) (q : Protocol) (n : ℕ) (list : List Binding) →
    AreBindingsApart (map row list) →
    (held_ : Option Binding) → option_map row (seen_binding timers t (find (λ b. has_number address q n b.row) list))
    ≡ option_map row (seen_binding timers t held_) →
    is_some (find (λ b. has_number address q n b.row) (purge timers t list)) ≡ is_some (seen_binding timers t held_)
some_agree timers t address q n list apart held_ same =
    ap is_some (find_purged timers t address q n list apart)
    ∙ (sym (some_seen (seen_binding timers t (find (λ b. has_number address q n b.row) list)))
    ∙ (ap is_some same ∙ some_seen (seen_binding timers t held_)))

-- WHAT A STEP LEAVES UNCHANGED of bindings that are not visible

module _ {X : Type 0} (s p : X → Bool) (f : X → X) (same : (x : X) → s (f x) ≡ s x) where
  -- The element that is found after a change is the one that was found before, or the changed one.
  find_either : (xs : List X) → (find s (change_first p f xs) ≡ find s xs)
      ⊎ ((x : X) × (find s (change_first p f xs) ≡ Some (f x)) × (p x ≡ true))
  find_either [] = inl refl
  find_either (x ∷ xs) = elim (p x) as (λ v. p x ≡ v →
      (find s (cond v (f x ∷ xs) (x ∷ change_first p f xs)) ≡ cond (s x) (Some x) (find s xs))
      ⊎ ((y : X) × (find s (cond v (f x ∷ xs) (x ∷ change_first p f xs)) ≡ Some (f y)) × (p y ≡ true))) [
        | true ↦ λ e. elim (s x) as (λ w. s x ≡ w →
            (cond (s (f x)) (Some (f x)) (find s xs) ≡ cond w (Some x) (find s xs))
            ⊎ ((y : X) × (cond (s (f x)) (Some (f x)) (find s xs) ≡ Some (f y)) × (p y ≡ true))) [
              | true ↦ λ h. inr (x, ap (λ v. cond v (Some (f x)) (find s xs)) (same x ∙ h), e)
              | false ↦ λ h. inl (ap (λ v. cond v (Some (f x)) (find s xs)) (same x ∙ h))
            ] refl
        | false ↦ λ e. elim (find_either xs) as (λ w.
            (cond (s x) (Some x) (find s (change_first p f xs)) ≡ cond (s x) (Some x) (find s xs))
            ⊎ ((y : X) × (cond (s x) (Some x) (find s (change_first p f xs)) ≡ Some (f y)) × (p y ≡ true))) [
              | inl k ↦ inl (ap (λ (o : Option X). cond (s x) (Some x) o) k)
              | inr k ↦ elim (s x) as (λ w.
                  (cond w (Some x) (find s (change_first p f xs)) ≡ cond w (Some x) (find s xs))
                  ⊎ ((y : X) × (cond w (Some x) (find s (change_first p f xs)) ≡ Some (f y)) × (p y ≡ true)))
                  [ true ↦ inl refl | false ↦ inr k ]
            ]
      ] refl

module _ {X : Type 0} (s t : X → Bool) where
  pub find_without : (xs : List X) → Each (λ x. t x ≡ true → s x ≡ false) xs → find s (filter (λ x. not (t x)) xs)
      ≡ find s xs
  find_without [] h = refl
  find_without (x ∷ xs) h = elim (t x) as (λ v. t x ≡ v →
      find s (cond (not v) (x ∷ filter (λ x. not (t x)) xs) (filter (λ x. not (t x)) xs))
      ≡ cond (s x) (Some x) (find s xs)) [
        | true ↦ λ e. find_without xs h.1 ∙ sym (ap (λ v. cond v (Some x) (find s xs)) (h.0 e))
        | false ↦ λ e. ap (λ (o : Option X). cond (s x) (Some x) o) (find_without xs h.1)
      ] refl

  -- A property of the found element holds of each that passes, if at most one does.
  each_found : (xs : List X) (b : X) → Once t xs → find t xs ≡ Some b → s b ≡ false →
      Each (λ x. t x ≡ true → s x ≡ false) xs
  each_found [] b o e h = tt
  each_found (x ∷ xs) b o e h = elim (t x) as (λ v. t x ≡ v → cond v (Some x) (find t xs) ≡ Some b →
      Each (λ x. t x ≡ true → s x ≡ false) (x ∷ xs)) [
        | true ↦ λ is e.
            let same : x ≡ b = cc in (
              λ g. ap s same ∙ h,
              each_weaker (λ y. t y ≡ false) (λ y. t y ≡ true → s y ≡ false)
                  (λ y no yes. absurd (true≢false (sym yes ∙ no))) xs (any_none t xs (o.0 is)),
            )
        | false ↦ λ is e. (λ g. absurd (true≢false (sym g ∙ is)), each_found xs b o.1 e h)
      ] refl e

-- An incoming packet changes no row.
pub in_apart : (timers : Timers) (inbound : InboundRules) (address : ℕ) (packet : InboundPacket) (all : List Binding) →
    AreBindingsApart (map row all) → AreBindingsApart (map row (in_taken timers inbound address packet all).list)
in_apart timers inbound address packet all apart =
    of_in (λ (l : List Binding). AreBindingsApart (map row l)) timers address all apart inbound packet
    (subst AreBindingsApart (sym (rows_change (is_of_live_destination timers address packet)
    (live_binding_after_in timers inbound packet)
    (λ b. refl) all)) apart)

module _ (timers : Timers) (t : AreTimers timers) (address : ℕ) (all : List Binding) (q : Protocol) (n : ℕ) where
  abbrev at : Binding → Bool
  at b = has_number address q n b.row

  -- A binding that is not visible afterwards is the one that was found before.
  abbrev Stays : ℕ → List Binding → Type 0
  Stays now left = seen_binding timers now (find at left) ≡ None → find at left ≡ find at all

  changed_stays : (now : ℕ) (p : Binding → Bool) (f : Binding → Binding) → ((b : Binding) → at (f b) ≡ at b) →
      ((b : Binding) → p b ≡ true → seen_binding timers now (Some (f b)) ≡ Some (f b)) →
      Stays now (change_first p f all)
  changed_stays now p f same fresh none = elim (find_either at p f same all) as (λ w.
      find at (change_first p f all) ≡ find at all) [
        | inl e ↦ e
        | inr (b, is, passes) ↦
            let z : None ≡ Some (f b) = sym none ∙ (ap (seen_binding timers now) is ∙ fresh b passes) in cc
      ]

  pub in_stays : (inbound : InboundRules) (packet : InboundPacket) →
      Stays packet.now (in_taken timers inbound address packet all).list
  in_stays inbound packet =
      of_in (Stays packet.now) timers address all (λ none. refl) inbound packet
      (changed_stays packet.now (is_of_live_destination timers address packet)
      (live_binding_after_in timers inbound packet)
      (λ b. refl) (λ b p. fresh_seen timers packet.now (live_binding_after_in timers inbound packet b)
      (received_is_fresh timers t inbound packet b (and_parts _ (is_live timers packet.now b) p).1)))

  module _ (assignment : AssignmentRules) (packet : OutboundPacket) (apart : AreBindingsApart (map row all)) where
    source_apart : (m : ℕ) (found : Option Binding) → find (is_of_source address packet) all ≡ found →
        held_or_new_number assignment all address packet found ≡ Ok m →
        at (binding_after_out packet (new_binding address packet m)) ≡ false →
        Each (λ b. is_of_source address packet b ≡ true → at b ≡ false) all
    source_apart m None is e lacks =
        each_weaker (λ b. is_of_source address packet b ≡ false) (λ b. is_of_source address packet b ≡ true →
        at b ≡ false)
        (λ b no yes. absurd (true≢false (sym yes ∙ no))) all (find_none (is_of_source address packet) all is)
    source_apart m (Some b) is e lacks =
        let passes = find_passes (is_of_source address packet) (λ b. Unit {0}) all b (each_true all) is in
        let p = inside_parts address packet.protocol packet.inside (row b) passes.0 in
        let number : b.row.external.number ≡ m = cc in
        let alike : at b ≡ at (binding_after_out packet (new_binding address packet m)) =
        λ i. eqb (p.address_is i) address
        && (same_protocol q (sym p.protocol_is i) && eqb (number i) n) in
        each_found at (is_of_source address packet) all b
        (once_inside address packet.protocol packet.inside all apart) is
        (alike ∙ lacks)

    pub out_stays : AreBindingsApart (map row (out_taken timers assignment address packet all).list) →
        Stays packet.now (out_taken timers assignment address packet all).list
    out_stays =
        of_out (λ (left : List Binding). AreBindingsApart (map row left) → Stays packet.now left) timers address all
        (λ left none. refl) assignment packet
        (λ left. changed_stays packet.now (is_of_live_source timers address packet)
        (live_binding_after_out timers packet) (λ b. refl)
        (λ b p. fresh_seen timers packet.now (live_binding_after_out timers packet b)
        (sent_is_fresh timers t packet b)))
        (λ m nobody is left none.
        let new : Binding = binding_after_out packet (new_binding address packet m) in
        let others : List Binding = other_bindings address packet all in
        elim (at new) as (λ v. at new ≡ v → find at (others ++ new ∷ []) ≡ find at all) [
          | true ↦ λ has.
              let earlier = none_earlier at new has others (once_number address q n (others ++ new ∷ []) left) in
              let z : None ≡ Some new = sym none ∙
              (ap (seen_binding timers packet.now) (find_pushed at others new earlier
              ∙ ap (λ v. cond v (Some new) None) has)
              ∙ fresh_seen timers packet.now new (made_is_fresh timers t address packet m)) in cc
          | false ↦ λ lacks. find_passed_over at others new lacks
              ∙ find_without at (is_of_source address packet) all
              (source_apart m (find (is_of_source address packet) all) refl is lacks)
        ] refl)
