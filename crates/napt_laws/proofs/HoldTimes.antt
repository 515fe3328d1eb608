-- A number is assigned to another inside endpoint at least `hold` seconds after its last binding ended.
use Rattle.std.proofs.Common.{◌≡◌, ℕ, ◌<◌, ◌≤◌, Bool, true, false, not, ◌&&◌, cond, nat_le, List, [], ◌∷◌, ◌++◌, map, Option, Some, None, Result, Ok, Err, ◌⊎◌, inl, inr, refl, sym, ◌∙◌, ap, subst, arith, append_assoc, filter, find, true≢false}
use Rattle.std.{specs.Option.option_map, proofs.lemmas.Bool.{and_parts, and_from, leb-true, leb-false}}
use Rattle.napt_rules.specs.declared.{AssignmentRules.AssignmentRules, InboundRules.InboundRules, OutboundPacket.OutboundPacket, InboundPacket.InboundPacket, Row.Row}
use Rattle.napt_rules.specs.Prelude.{Binding, Each, change_first, same_protocol, same_endpoint, is_live, with_live_flows, purge, hold_ago, live_and_held, permits, is_of_source, is_of_live_source, binding_after_out, live_binding_after_out, other_bindings, new_binding, OutboundEffect, out_made, held_or_new_number, out_found, out_taken, is_of_destination, is_of_live_destination, live_binding_after_in, InboundEffect, in_found, row, AreRowsApart, AreBindingsApart, IsSound, AreTimers, Timers, Cause}
use Rattle.napt_rules.proofs.Life.{lived, live_same}
use Rattle.napt_laws.specs.HoldTimes.{Holder, HaveSameEnds, have_same_ends, holder_after, holders_after, AreHoldersApart, HoldersStayApart, HasOne, HolderCoversBinding, IsAccounted, AreBindingsAccounted, OutKeepsAccounts, InKeepsAccounts, AccountsBegin, HeldTimesAreFar}
use Rattle.napt_laws.proofs.{Lists.{each_pushed, each_weaker, find_passes, find_none, any_none, each_true}, UniqueSearches.Once, HeldNumbers.each_rows, StepCases.in_passed}
use Rattle.napt_laws.proofs.Endpoints.{inside_parts, protocol_is, same_itself, end_itself, end_is, once_inside}
use Rattle.napt_laws.proofs.{SeenElements.{ago_before, ago_later, find_seen}, StepRows.rows_push, StepsSound.{purge_stays_sound, out_stays_sound}}
use Rattle.napt_laws.proofs.StepsLive.{sent_is_fresh, made_is_fresh, received_is_fresh}

-- ENDPOINTS

ends_from : (a b : Row) → have_same_ends a b ≡ true → HaveSameEnds a b
ends_from a b e =
    let p = and_parts (same_protocol a.protocol b.protocol)
    (same_endpoint a.external b.external && same_endpoint a.inside b.inside) e in
    let q = and_parts (same_endpoint a.external b.external) (same_endpoint a.inside b.inside) p.1 in record {
      protocol = protocol_is a.protocol b.protocol p.0;
      external = end_is a.external b.external q.0;
      inside = end_is a.inside b.inside q.1;
    }

ends_test : (a b : Row) → HaveSameEnds a b → have_same_ends a b ≡ true
ends_test a b e =
    and_from (same_protocol a.protocol b.protocol)
    (same_endpoint a.external b.external && same_endpoint a.inside b.inside)
    (ap (same_protocol a.protocol) (sym e.protocol) ∙ same_itself a.protocol)
    (and_from (same_endpoint a.external b.external) (same_endpoint a.inside b.inside)
    (ap (same_endpoint a.external) (sym e.external) ∙ end_itself a.external)
    (ap (same_endpoint a.inside) (sym e.inside) ∙ end_itself a.inside))

-- TIME

-- A dead binding stays dead.
dead : (timers : Timers) (n m : ℕ) → n ≤ m → (b : Binding) → is_live timers n b ≡ false → is_live timers m b ≡ false
dead timers n m le b e = elim (is_live timers m b) as (λ v. is_live timers m b ≡ v → v ≡ false) [
  | true ↦ λ h. absurd (true≢false (sym (lived timers n m le b h) ∙ e))
  | false ↦ λ h. refl
] refl

-- A binding that is dead at a time was live at no later one.
before_dead : (timers : Timers) (now t : ℕ) (b : Binding) → is_live timers now b ≡ false → is_live timers t b ≡ true →
    t ≤ now
before_dead timers now t b e h = elim (nat_le t now) as (λ v. nat_le t now ≡ v → t ≤ now) [
  | true ↦ λ le. leb-true t now le
  | false ↦ λ gt.
      let less : now < t = leb-false t now gt in
      absurd (true≢false (sym (lived timers now t (omega (arith, less)) b h) ∙ e))
] refl

-- ONE ELEMENT OF A LIST

module _ (P : Binding → Type 0) where
  one_left : (xs ys : List Binding) → HasOne P xs → HasOne P (xs ++ ys)
  one_left [] ys h = absurd h
  one_left (x ∷ xs) ys (inl h) = inl h
  one_left (x ∷ xs) ys (inr h) = inr (one_left xs ys h)

  one_last : (xs : List Binding) (x : Binding) → P x → HasOne P (xs ++ x ∷ [])
  one_last [] x h = inl h
  one_last (y ∷ xs) x h = inr (one_last xs x h)

  one_kept : (t : Binding → Bool) (xs : List Binding) → Each (λ x. t x ≡ false) xs → HasOne P xs →
      HasOne P (filter (λ x. not (t x)) xs)
  one_kept t [] e h = absurd h
  one_kept t (x ∷ xs) e (inl h) = subst (λ v. HasOne P (cond (not v) (x ∷ filter (λ x. not (t x)) xs)
      (filter (λ x. not (t x)) xs))) (sym e.0) (inl h)
  one_kept t (x ∷ xs) e (inr h) = subst (λ v. HasOne P (cond (not v) (x ∷ filter (λ x. not (t x)) xs)
      (filter (λ x. not (t x)) xs))) (sym e.0) (inr (one_kept t xs e.1 h))

  -- An element with the property is among those that fail the test, or one that passes it has the property.
  one_split : (t : Binding → Bool) (xs : List Binding) → HasOne P xs →
      HasOne P (filter (λ x. not (t x)) xs) ⊎ ((x : Binding) × (P x) × (t x ≡ true))
  one_split t [] h = absurd h
  one_split t (x ∷ xs) h = elim (t x) as (λ v. t x ≡ v → HasOne P (cond (not v) (x ∷ filter (λ x. not (t x)) xs)
      (filter (λ x. not (t x)) xs)) ⊎ ((x : Binding) × (P x) × (t x ≡ true))) [
        | true ↦ λ e. elim h as (λ w. HasOne P (filter (λ x. not (t x)) xs)
            ⊎ ((x : Binding) × (P x) × (t x ≡ true))) [ inl p ↦ inr (x, p, e) | inr p ↦ one_split t xs p ]
        | false ↦ λ e. elim h as (λ w. HasOne P (x ∷ filter (λ x. not (t x)) xs)
            ⊎ ((x : Binding) × (P x) × (t x ≡ true))) [
              | inl p ↦ inl (inl p)
              | inr p ↦ elim (one_split t xs p) as (λ w. HasOne P (x ∷ filter (λ x. not (t x)) xs)
                  ⊎ ((x : Binding) × (P x) × (t x ≡ true))) [ inl q ↦ inl (inr q) | inr q ↦ inr q ]
            ]
      ] refl

  -- At most one passes: the element with the property is among the others, or it is that one.
  one_but : (t : Binding → Bool) (xs : List Binding) (b : Binding) → Once t xs → find t xs ≡ Some b → HasOne P xs →
      HasOne P (filter (λ x. not (t x)) xs) ⊎ P b
  one_but t [] b o e h = absurd h
  one_but t (x ∷ xs) b o e h = elim (t x) as (λ v. t x ≡ v → cond v (Some x) (find t xs) ≡ Some b →
      HasOne P (cond (not v) (x ∷ filter (λ x. not (t x)) xs) (filter (λ x. not (t x)) xs)) ⊎ P b) [
        | true ↦ λ is e.
            let same : x ≡ b = cc in
            elim h as (λ w. HasOne P (filter (λ x. not (t x)) xs) ⊎ P b) [
              | inl p ↦ inr (subst P same p)
              | inr p ↦ inl (one_kept t xs (any_none t xs (o.0 is)) p)
            ]
        | false ↦ λ is e. elim h as (λ w. HasOne P (x ∷ filter (λ x. not (t x)) xs) ⊎ P b) [
          | inl p ↦ inl (inl p)
          | inr p ↦ elim (one_but t xs b o.1 e p) as (λ w. HasOne P (x ∷ filter (λ x. not (t x)) xs) ⊎ P b)
              [ inl q ↦ inl (inr q) | inr q ↦ inr q ]
        ]
      ] refl e

  -- The element that is found is changed.
  one_changed : (t : Binding → Bool) (f : Binding → Binding) (xs : List Binding) (b : Binding) → find t xs ≡ Some b →
      (P b → P (f b)) → HasOne P xs → HasOne P (change_first t f xs)
  one_changed t f [] b e keeps h = absurd h
  one_changed t f (x ∷ xs) b e keeps h = elim (t x) as (λ v. t x ≡ v → cond v (Some x) (find t xs) ≡ Some b →
      HasOne P (cond v (f x ∷ xs) (x ∷ change_first t f xs))) [
        | true ↦ λ is e.
            let same : x ≡ b = cc in
            elim h as (λ w. HasOne P (f x ∷ xs)) [
              | inl p ↦ inl (subst (λ (y : Binding). P (f y)) (sym same) (keeps (subst P same p)))
              | inr p ↦ inr p
            ]
        | false ↦ λ is e. elim h as (λ w. HasOne P (x ∷ change_first t f xs))
            [ inl p ↦ inl p | inr p ↦ inr (one_changed t f xs b e keeps p) ]
      ] refl e

  one_found : (t : Binding → Bool) (f : Binding → Binding) (xs : List Binding) (b : Binding) → find t xs ≡ Some b →
      P (f b) → HasOne P (change_first t f xs)
  one_found t f [] b e p = cc
  one_found t f (x ∷ xs) b e p = elim (t x) as (λ v. t x ≡ v → cond v (Some x) (find t xs) ≡ Some b →
      HasOne P (cond v (f x ∷ xs) (x ∷ change_first t f xs))) [
        | true ↦ λ is e. let same : x ≡ b = cc in inl (subst (λ (y : Binding). P (f y)) (sym same) p)
        | false ↦ λ is e. inr (one_found t f xs b e p)
      ] refl e

  one_each : (R : Binding → Type 0) (xs : List Binding) → Each R xs → HasOne P xs → (x : Binding) × (P x) × (R x)
  one_each R [] e h = absurd h
  one_each R (x ∷ xs) e (inl h) = (x, h, e.0)
  one_each R (x ∷ xs) e (inr h) = one_each R xs e.1 h

-- A PURGE

module _ (timers : Timers) (ago : ℕ) (h : Holder) where
  purged_lives : (b : Binding) → is_live timers ago b ≡ true → (t : ℕ) → is_live timers t b ≡ true →
      is_live timers t (with_live_flows timers ago b) ≡ true
  purged_lives b alive t lives = elim (nat_le ago t) as (λ v. nat_le ago t ≡ v →
      is_live timers t (with_live_flows timers ago b) ≡ true) [
        | true ↦ λ le. live_same timers ago t (leb-true ago t le) b ∙ lives
        | false ↦ λ gt.
            let less : t < ago = leb-false ago t gt in
            lived timers t ago (omega (arith, less)) (with_live_flows timers ago b)
            (live_same timers ago ago (omega arith) b ∙ alive)
      ] refl

  one_purged : (xs : List Binding) → HasOne (HolderCoversBinding timers h) xs →
      IsAccounted timers ago (purge timers ago xs) h
  one_purged [] o = absurd o
  one_purged (x ∷ xs) o = elim (is_live timers ago x) as (λ v. is_live timers ago x ≡ v →
      IsAccounted timers ago (map (with_live_flows timers ago)
      (cond v (x ∷ filter (is_live timers ago) xs) (filter (is_live timers ago) xs))) h) [
        | true ↦ λ e. elim o as (λ w. IsAccounted timers ago (with_live_flows timers ago x ∷ purge timers ago xs) h) [
          | inl c ↦ inr (inl (record {
            ends = record { protocol = c.ends.protocol; external = c.ends.external; inside = c.ends.inside };
            lives = λ t l. purged_lives x e t (c.lives t l);
          }))
          | inr c ↦ elim (one_purged xs c) as (λ w.
              IsAccounted timers ago (with_live_flows timers ago x ∷ purge timers ago xs) h)
              [ inl d ↦ inl d | inr d ↦ inr (inr d) ]
        ]
        | false ↦ λ e. elim o as (λ w. IsAccounted timers ago (purge timers ago xs) h) [
          | inl c ↦ inl (elim (is_live timers ago h.binding) as (λ v. is_live timers ago h.binding ≡ v → v ≡ false) [
            | true ↦ λ l. absurd (true≢false (sym (c.lives ago l) ∙ e))
            | false ↦ λ l. refl
          ] refl)
          | inr c ↦ one_purged xs c
        ]
      ] refl

module _ (timers : Timers) (now later : ℕ) (le : now ≤ later) (list : List Binding) where
  accounted_later : (h : Holder) → IsAccounted timers (hold_ago timers now) list h →
      IsAccounted timers (hold_ago timers later) (live_and_held timers later list) h
  accounted_later h (inl d) = inl (dead timers (hold_ago timers now) (hold_ago timers later)
      (ago_later timers now later le) h.binding d)
  accounted_later h (inr o) = one_purged timers (hold_ago timers later) h list o

  each_later : (hs : List Holder) → Each (IsAccounted timers (hold_ago timers now) list) hs →
      Each (IsAccounted timers (hold_ago timers later) (live_and_held timers later list)) hs
  each_later [] e = tt
  each_later (h ∷ hs) e = (accounted_later h e.0, each_later hs e.1)

  past_later : (hs : List Holder) → Each (λ h. h.made ≤ now) hs → Each (λ h. h.made ≤ later) hs
  past_later [] e = tt
  past_later (h ∷ hs) e =
      let was : h.made ≤ now = e.0 in (omega (arith, was, le), past_later hs e.1)

  pub taken_accounted : (hs : List Holder) → AreBindingsAccounted timers now list hs →
      AreBindingsAccounted timers later (live_and_held timers later list) hs
  taken_accounted hs a = record { apart = a.apart; past = past_later hs a.past; each = each_later hs a.each }

-- A PACKET THROUGH A LIVE BINDING

module _ (timers : Timers) (now : ℕ) (list : List Binding) (t : Binding → Bool) (f : Binding → Binding)
    (same : (b : Binding) → row (f b) ≡ row b) (b : Binding) (is : find t list ≡ Some b)
    (alive : is_live timers now (f b) ≡ true) where
  abbrev went : Binding
  went = f b

  abbrev its : Holder → Bool
  its h = is_live timers now h.binding && have_same_ends (row went) (row h.binding)

  -- By whether the holder is changed.
  by_its : (P : Holder → Type 0) (h : Holder) → (its h ≡ true → P (record h { binding = went })) →
      (its h ≡ false → P h) → P (holder_after timers now went h)
  by_its P h changed kept = elim (its h) as (λ v. its h ≡ v → P (cond v (record h { binding = went }) h))
      [ true ↦ changed | false ↦ kept ] refl

  -- The endpoints of a holder stay.
  left_ends : (h : Holder) → HaveSameEnds (row (holder_after timers now went h).binding) (row h.binding)
  left_ends h = by_its (λ k. HaveSameEnds (row k.binding) (row h.binding)) h
      (λ e. ends_from (row went) (row h.binding) (and_parts (is_live timers now h.binding)
      (have_same_ends (row went) (row h.binding)) e).1)
      (λ e. record { protocol = refl; external = refl; inside = refl })

  left_made : (h : Holder) → (holder_after timers now went h).made ≡ h.made
  left_made h = by_its (λ k. k.made ≡ h.made) h (λ e. refl) (λ e. refl)

  covers_on : (h : Holder) → its h ≡ false → HolderCoversBinding timers h b → HolderCoversBinding timers h went
  covers_on h isnt c =
      let ends : HaveSameEnds (row went) (row h.binding) = record {
        protocol = ap (λ (r : Row). r.protocol) (same b) ∙ c.ends.protocol;
        external = ap (λ (r : Row). r.external) (same b) ∙ c.ends.external;
        inside = ap (λ (r : Row). r.inside) (same b) ∙ c.ends.inside;
      } in
      let gone : is_live timers now h.binding ≡ false = elim (is_live timers now h.binding) as (λ v.
      is_live timers now h.binding ≡ v → v ≡ false) [
        | true ↦ λ e. absurd (true≢false (sym (and_from (is_live timers now h.binding)
            (have_same_ends (row went) (row h.binding)) e (ends_test (row went) (row h.binding) ends)) ∙ isnt))
        | false ↦ λ e. refl
      ] refl in record {
        ends = ends;
        lives = λ at l. lived timers at now (before_dead timers now at h.binding gone l) went alive;
      }

  left_accounted : (h : Holder) → IsAccounted timers (hold_ago timers now) list h →
      IsAccounted timers (hold_ago timers now) (change_first t f list) (holder_after timers now went h)
  left_accounted h a = by_its (IsAccounted timers (hold_ago timers now) (change_first t f list)) h
      (λ e. inr (one_found (HolderCoversBinding timers (record h { binding = went })) t f list b is
      (record { ends = record { protocol = refl; external = refl; inside = refl }; lives = λ at l. l })))
      (λ e. elim a as (λ w. IsAccounted timers (hold_ago timers now) (change_first t f list) h) [
        | inl d ↦ inl d
        | inr o ↦ inr (one_changed (HolderCoversBinding timers h) t f list b is (covers_on h e) o)
      ])

  left_apart : (a c : Holder) → c.made ≤ now → AreHoldersApart timers a c →
      AreHoldersApart timers (holder_after timers now went a) (holder_after timers now went c)
  left_apart a c past apart p x i =
      let ea = left_ends a in
      let ec = left_ends c in
      let ended : is_live timers (hold_ago timers c.made) a.binding ≡ false =
      apart (sym ea.protocol ∙ (p ∙ ec.protocol)) (sym ea.external ∙ (x ∙ ec.external))
      (λ s. i (ea.inside ∙ (s ∙ sym ec.inside))) in
      ap (λ m. is_live timers (hold_ago timers m) (holder_after timers now went a).binding) (left_made c)
      ∙ by_its (λ k. is_live timers (hold_ago timers c.made) k.binding ≡ false) a
      (λ e. absurd (true≢false (sym (and_parts (is_live timers now a.binding)
      (have_same_ends (row went) (row a.binding)) e).0
      ∙ dead timers (hold_ago timers c.made) now (let le = ago_before timers c.made in omega (arith, le, past))
      a.binding ended)))
      (λ e. ended)

  each_left : (a : Holder) (hs : List Holder) → Each (λ h. h.made ≤ now) hs → Each (AreHoldersApart timers a) hs →
      Each (AreHoldersApart timers (holder_after timers now went a)) (map (holder_after timers now went) hs)
  each_left a [] past e = tt
  each_left a (h ∷ hs) past e = (left_apart a h past.0 e.0, each_left a hs past.1 e.1)

  all_left : (hs : List Holder) → Each (λ h. h.made ≤ now) hs → HoldersStayApart timers hs →
      HoldersStayApart timers (map (holder_after timers now went) hs)
  all_left [] past e = tt
  all_left (h ∷ hs) past e = (each_left h hs past.1 e.0, all_left hs past.1 e.1)

  each_accounted : (hs : List Holder) → Each (IsAccounted timers (hold_ago timers now) list) hs →
      Each (IsAccounted timers (hold_ago timers now) (change_first t f list)) (map (holder_after timers now went) hs)
  each_accounted [] e = tt
  each_accounted (h ∷ hs) e = (left_accounted h e.0, each_accounted hs e.1)

  each_past : (hs : List Holder) → Each (λ h. h.made ≤ now) hs →
      Each (λ h. h.made ≤ now) (map (holder_after timers now went) hs)
  each_past [] e = tt
  each_past (h ∷ hs) e = (subst (λ m. m ≤ now) (sym (left_made h)) e.0, each_past hs e.1)

  pub found_accounted : (hs : List Holder) → AreBindingsAccounted timers now list hs →
      AreBindingsAccounted timers now (change_first t f list) (map (holder_after timers now went) hs)
  found_accounted hs a = record {
    apart = all_left hs a.past a.apart;
    past = each_past hs a.past;
    each = each_accounted hs a.each;
  }

-- AN INCOMING PACKET

module _ (timers : Timers) (tm : AreTimers timers) (inbound : InboundRules) (address : ℕ) (packet : InboundPacket)
    (all : List Binding) (holders : List Holder) (a : AreBindingsAccounted timers packet.now all holders) where
  abbrev Kept : InboundEffect → Type 0
  Kept step = AreBindingsAccounted timers packet.now step.list (holders_after timers packet.now step.through holders)

  alive_in : (b : Binding) → find (is_of_live_destination timers address packet) all ≡ Some b →
      is_live timers packet.now (live_binding_after_in timers inbound packet b) ≡ true
  alive_in b is =
      let passes = find_passes (is_of_live_destination timers address packet) (λ b. Unit {0}) all b (each_true all) is
      in
      (received_is_fresh timers tm inbound packet b
      (and_parts (is_of_destination address packet b) (is_live timers packet.now b) passes.0).1).live

  entered : (found : Option Binding) → find (is_of_live_destination timers address packet) all ≡ found →
      Kept (in_found timers inbound all address packet (option_map (with_live_flows timers packet.now) found))
  entered None is = a
  entered (Some b) is = elim (permits inbound (with_live_flows timers packet.now b) packet.remote) as (λ v.
      Kept (in_passed timers inbound all address packet (with_live_flows timers packet.now b) v)) [
        | true ↦ found_accounted timers packet.now all (is_of_live_destination timers address packet)
            (live_binding_after_in timers inbound packet) (λ b. refl) b is (alive_in b is) holders a
        | false ↦ a
      ]

pub in_keeps_accounts : InKeepsAccounts
in_keeps_accounts timers tm inbound address packet list now le holders a =
    let all : List Binding = live_and_held timers packet.now list in
    subst (λ (o : Option Binding). AreBindingsAccounted timers packet.now
    (in_found timers inbound all address packet o).list
    (holders_after timers packet.now (in_found timers inbound all address packet o).through holders))
    (sym (find_seen (is_live timers packet.now) (is_of_destination address packet) (with_live_flows timers packet.now)
    (λ b. refl) all))
    (entered timers tm inbound address packet all holders (taken_accounted timers now packet.now le list holders a)
    (find (is_of_live_destination timers address packet) all) refl)

-- AN OUTGOING PACKET

last_of : (P : Row → Type 0) (rs : List Row) (r : Row) → Each P (rs ++ r ∷ []) → P r
last_of P [] r h = h.0
last_of P (x ∷ rs) r h = last_of P rs r h.1

apart_last : (rs : List Row) (r : Row) → AreBindingsApart (rs ++ r ∷ []) → Each (λ x. AreRowsApart x r) rs
apart_last [] r h = tt
apart_last (x ∷ rs) r h = (last_of (AreRowsApart x) rs r h.0, apart_last rs r h.1)

held_push : (timers : Timers) (hs : List Holder) (h : Holder) → HoldersStayApart timers hs →
    Each (λ x. AreHoldersApart timers x h) hs → HoldersStayApart timers (hs ++ h ∷ [])
held_push timers [] h a e = (tt, tt)
held_push timers (x ∷ hs) h a e =
    (each_pushed (AreHoldersApart timers x) hs h a.0 e.0, held_push timers hs h a.1 e.1)

module _ (assignment : AssignmentRules) (timers : Timers) (tm : AreTimers timers) (address : ℕ)
    (packet : OutboundPacket)
    (all : List Binding) (apart : AreBindingsApart (map row all)) (holders : List Holder)
    (a : AreBindingsAccounted timers packet.now all holders) where
  abbrev t : Binding → Bool
  t = is_of_source address packet

  abbrev others : List Binding
  others = other_bindings address packet all

  abbrev ago : ℕ
  ago = hold_ago timers packet.now

  alive_out : (b : Binding) → is_live timers packet.now (live_binding_after_out timers packet b) ≡ true
  alive_out b = (sent_is_fresh timers tm packet b).live

  found_kept : (b : Binding) → find (is_of_live_source timers address packet) all ≡ Some b →
      AreBindingsAccounted timers packet.now (change_first (is_of_live_source timers address packet)
      (live_binding_after_out timers packet) all)
      (map (holder_after timers packet.now (live_binding_after_out timers packet b)) holders)
  found_kept b is = found_accounted timers packet.now all (is_of_live_source timers address packet)
      (live_binding_after_out timers packet) (λ b. refl) b is (alive_out b) holders a

  module _ (none : find (is_of_live_source timers address packet) all ≡ None) where
    -- The packet's source has no live binding, so its own binding in the list, if there is one, is dead.
    own_dead : (b : Binding) → find t all ≡ Some b → is_live timers packet.now b ≡ false
    own_dead b is =
        let passes = find_passes t (λ b. is_of_live_source timers address packet b ≡ false) all b
        (find_none (is_of_live_source timers address packet) all none) is in
        elim (is_live timers packet.now b) as (λ v. is_live timers packet.now b ≡ v → v ≡ false) [
          | true ↦ λ e. absurd (true≢false (sym (and_from (t b) (is_live timers packet.now b) passes.0 e) ∙ passes.1))
          | false ↦ λ e. refl
        ] refl

    module _ (n : ℕ) (sound : AreBindingsApart (map row
        (others ++ binding_after_out packet (new_binding address packet n) ∷ [])))
        (again : (b : Binding) → find t all ≡ Some b → b.row.external.number ≡ n) where
      abbrev new : Binding
      new = binding_after_out packet (new_binding address packet n)

      new_alive : is_live timers packet.now new ≡ true
      new_alive = (made_is_fresh timers tm address packet n).live

      covers_new : (h : Holder) (b : Binding) → find t all ≡ Some b → HolderCoversBinding timers h b →
          HolderCoversBinding timers h new
      covers_new h b is c =
          let passes = find_passes t (λ b. Unit {0}) all b (each_true all) is in
          let p = inside_parts address packet.protocol packet.inside (row b) passes.0 in
          let number : n ≡ b.row.external.number = sym (again b is) in
          let at : address ≡ b.row.external.address = sym p.address_is in record {
            ends = record {
              protocol = p.protocol_is ∙ c.ends.protocol;
              external = (λ k. record { address = at k; number = number k }) ∙ c.ends.external;
              inside = p.inside_is ∙ c.ends.inside;
            };
            lives = λ at l. lived timers at packet.now (before_dead timers packet.now at b (own_dead b is)
                (c.lives at l)) new new_alive;
          }

      made_one : (found : Option Binding) → find t all ≡ found → (h : Holder) →
          HasOne (HolderCoversBinding timers h) all →
          HasOne (HolderCoversBinding timers h) (others ++ new ∷ [])
      made_one None is h o = one_left (HolderCoversBinding timers h) others (new ∷ [])
          (one_kept (HolderCoversBinding timers h) t all (find_none t all is) o)
      made_one (Some b) is h o = elim (one_but (HolderCoversBinding timers h) t all b
          (once_inside address packet.protocol packet.inside all apart) is o) as (λ w.
          HasOne (HolderCoversBinding timers h) (others ++ new ∷ [])) [
            | inl p ↦ one_left (HolderCoversBinding timers h) others (new ∷ []) p
            | inr c ↦ one_last (HolderCoversBinding timers h) others new (covers_new h b is c)
          ]

      made_accounted : (h : Holder) → IsAccounted timers ago all h → IsAccounted timers ago (others ++ new ∷ []) h
      made_accounted h (inl d) = inl d
      made_accounted h (inr o) = inr (made_one (find t all) refl h o)

      abbrev newest : Holder
      newest = record { made = packet.now; binding = new }

      made_apart : (h : Holder) → IsAccounted timers ago all h → AreHoldersApart timers h newest
      made_apart h (inl d) p x i = d
      made_apart h (inr o) p x i = elim (one_split (HolderCoversBinding timers h) t all o) as (λ w.
          is_live timers ago h.binding ≡ false) [
            | inl q ↦
                let rows : Each (λ r. AreRowsApart r (row new)) (map row others) =
                apart_last (map row others) (row new) (subst AreBindingsApart (rows_push others new) sound) in
                let (b, c, far) = one_each (HolderCoversBinding timers h) (λ b. AreRowsApart (row b) (row new)) others
                (each_rows (λ r. AreRowsApart r (row new)) others rows) q in
                absurd ((far (c.ends.protocol ∙ p)).0 (c.ends.external ∙ x))
            | inr q ↦
                let (b, c, is) = q in
                let parts = inside_parts address packet.protocol packet.inside (row b) is in
                absurd (i (sym c.ends.inside ∙ sym parts.inside_is))
          ]

      pub made_kept : AreBindingsAccounted timers packet.now (others ++ new ∷ []) (holders ++ newest ∷ [])
      made_kept = record {
        apart = held_push timers holders newest a.apart
            (each_weaker (IsAccounted timers ago all) (λ h. AreHoldersApart timers h newest) made_apart holders a.each);
        past = each_pushed (λ h. h.made ≤ packet.now) holders newest a.past (omega arith);
        each = each_pushed (IsAccounted timers ago (others ++ new ∷ [])) holders newest
            (each_weaker (IsAccounted timers ago all) (IsAccounted timers ago (others ++ new ∷ [])) made_accounted
            holders a.each)
            (inr (one_last (HolderCoversBinding timers newest) others new
            (record { ends = record { protocol = refl; external = refl; inside = refl }; lives = λ at l. l })));
      }

    -- By whether a number is held for the source or a free one is chosen.
    granted_number : (found : Option Binding) → find t all ≡ found → (n : ℕ) →
        held_or_new_number assignment all address packet found ≡ Ok n → (b : Binding) → find t all ≡ Some b →
        b.row.external.number ≡ n
    granted_number (Some c) is n e b also =
        let same : c ≡ b = cc in ap (λ (x : Binding). x.row.external.number) (sym same) ∙ cc
    granted_number None is n e b also = cc

    pub none_kept : (number : Result ℕ Cause) →
        held_or_new_number assignment all address packet (find t all) ≡ number →
        AreBindingsApart (map row (out_made all address packet number).list) →
        AreBindingsAccounted timers packet.now (out_made all address packet number).list
        (holders_after timers packet.now (out_made all address packet number).through holders)
    none_kept (Err cause) is sound = a
    none_kept (Ok n) is sound = made_kept n sound (granted_number (find t all) refl n is)

  pub found_or_made : (found : Option Binding) → find (is_of_live_source timers address packet) all ≡ found →
      (let out : OutboundEffect = out_found timers assignment all address packet
      (option_map (with_live_flows timers packet.now) found) in
      AreBindingsApart (map row out.list) → AreBindingsAccounted timers packet.now out.list
      (holders_after timers packet.now out.through holders))
  found_or_made (Some b) is sound = found_kept b is
  found_or_made None is sound = none_kept is (held_or_new_number assignment all address packet (find t all)) refl sound

pub out_keeps_accounts : OutKeepsAccounts
out_keeps_accounts pair timers tm assignment address packet list s pairs numbered keeps now le holders a =
    let all : List Binding = live_and_held timers packet.now list in
    let sound : IsSound pair all = purge_stays_sound pair timers (hold_ago timers packet.now) list s in
    let left : IsSound pair (out_taken timers assignment address packet all).list =
    out_stays_sound pair timers assignment address packet list s pairs numbered keeps in
    subst (λ (o : Option Binding). (let out : OutboundEffect = out_found timers assignment all address packet o in
    AreBindingsApart (map row out.list) → AreBindingsAccounted timers packet.now out.list
    (holders_after timers packet.now out.through holders)))
    (sym (find_seen (is_live timers packet.now) (is_of_source address packet) (with_live_flows timers packet.now)
    (λ b. refl) all))
    (found_or_made assignment timers tm address packet all sound.apart holders
    (taken_accounted timers now packet.now le list holders a) (find (is_of_live_source timers address packet) all) refl)
    left.apart

-- AT THE START

module _ (timers : Timers) (now : ℕ) where
  abbrev begun : Binding → Holder
  begun b = record { made = now; binding = b }

  begun_apart : (b : Binding) (xs : List Binding) → Each (AreRowsApart (row b)) (map row xs) →
      Each (AreHoldersApart timers (begun b)) (map begun xs)
  begun_apart b [] e = tt
  begun_apart b (x ∷ xs) e = (λ p ext i. absurd ((e.0 p).0 ext), begun_apart b xs e.1)

  all_begun : (xs : List Binding) → AreBindingsApart (map row xs) → HoldersStayApart timers (map begun xs)
  all_begun [] e = tt
  all_begun (x ∷ xs) e = (begun_apart x xs e.0, all_begun xs e.1)

  past_begun : (xs : List Binding) → Each (λ h. h.made ≤ now) (map begun xs)
  past_begun [] = tt
  past_begun (x ∷ xs) = (omega arith, past_begun xs)

  each_begun : (before xs : List Binding) →
      Each (IsAccounted timers (hold_ago timers now) (before ++ xs)) (map begun xs)
  each_begun before [] = tt
  each_begun before (x ∷ xs) = (
    inr (subst (HasOne (HolderCoversBinding timers (begun x))) (append_assoc before (x ∷ []) xs)
        (one_left (HolderCoversBinding timers (begun x)) (before ++ x ∷ []) xs
        (one_last (HolderCoversBinding timers (begun x)) before x
        (record { ends = record { protocol = refl; external = refl; inside = refl }; lives = λ at l. l })))),
    subst (λ (l : List Binding). Each (IsAccounted timers (hold_ago timers now) l) (map begun xs))
        (append_assoc before (x ∷ []) xs) (each_begun (before ++ x ∷ []) xs),
  )

pub accounts_begin : AccountsBegin
accounts_begin pair timers now list s = record {
  apart = all_begun timers now list s.apart;
  past = past_begun timers now list;
  each = each_begun timers now [] list;
}

-- TWO TIMES

before_end : (timers : Timers) (now t : ℕ) (b : Binding) → is_live timers now b ≡ false → is_live timers t b ≡ true →
    t < now
before_end timers now t b e h = elim (nat_le now t) as (λ v. nat_le now t ≡ v → t < now) [
  | true ↦ λ le. absurd (true≢false (sym (lived timers now t (leb-true now t le) b h) ∙ e))
  | false ↦ λ gt. leb-false now t gt
] refl

pub held_times_are_far : HeldTimesAreFar
held_times_are_far timers earlier later apart p x i t u lives from =
    let before : t < hold_ago timers later.made =
    before_end timers (hold_ago timers later.made) t earlier.binding (apart p x i) lives in
    omega (arith, before, from)
