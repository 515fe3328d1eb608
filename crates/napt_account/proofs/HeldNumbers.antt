-- A number is assigned to another inside endpoint only after the hold of its last binding, in terms of the log.
use Rattle.std.proofs.lemmas.Grind.{common_steps}
use Rattle.std.proofs.Common.{◌≡◌, ℕ, ◌≤◌, Bool, true, false, not, ◌&&◌, cond, List, [], ◌∷◌, ◌++◌, map, filter, find, Option, Some, None, Ok, inl, inr, refl, sym, ◌∙◌, ap, subst, arith, append_assoc, true≢false}
use Rattle.std.{specs.List.{fold, Sorted.IsPermutation}, proofs.lemmas.{Bool.{and_parts, and_from}, Option.same_Some}}
use Rattle.std.proofs.lemmas.List.Sorted.{IsPermutation-append_left, IsPermutation-filter_both, IsPermutation-map, IsPermutation-sym, IsPermutation-trans}
use Rattle.napt_wire.specs.declared.Protocol.TheVariants as protocols
use Rattle.napt_wire.specs.declared.{Protocol.Protocol, Flags.Flags, Kind.{Kind, TheVariants.{Udp, Tcp, Echo, ErrorOf}}, Way.{Way, TheVariants.{Outgoing, Incoming}}}
use Rattle.napt_rules.specs.Prelude.{BindingUse, Binding, Each, same_protocol, same_endpoint, is_live, with_live_flows, hold_ago, live_and_held, assignment_rules, inbound_rules, outbound_packet, inbound_packet, no_flags, served_at, LegEffect, act, act_out, act_in, act_by, Arrival, LegAct, RunEffect, State, TakenStatesAreSound, AlikeStatesGoOn, effect_from, row, AreRowsApart, AreBindingsApart, IsNumber, IsSound, Inside, source, kind, local_of, local_end, is_error, CanCarry, reading, PacketsCarryNumbers, pair_of, last_clock, with_redirects, Rules, RulesInvariant, AreTimers, Timers}
use Rattle.napt_rules.{specs.declared.{Row.Row, Leg.Leg, OutboundPacket.OutboundPacket, InboundPacket.InboundPacket}, proofs.{Life.lived, Lists.each_filter}}
use Rattle.napt_laws.specs.HoldTimes.{Holder, HaveSameEnds, have_same_ends, holder_after, holders_after, AreHoldersApart as HoldersApart, HoldersStayApart as AllHoldersApart, HasOne, HolderCoversBinding, IsAccounted, AreBindingsAccounted}
use Rattle.napt_laws.proofs.{HoldTimes.{taken_accounted, out_keeps_accounts, in_keeps_accounts}, SeenElements.{ago_before, ago_later, purge_taken}}
use Rattle.napt_laws.proofs.{StepsSound.{purge_stays_sound, out_stays_sound, in_stays_sound}, HeldNumbers.each_rows, Lists.{each_append, each_weaker}, Permutations.{apart_moved, each_moved, filter_moved}, RunInduction.{IsServed, InTurn, run_turn}}
use Rattle.napt_laws.proofs.Endpoints.{protocol_is, same_itself, end_itself, end_is}
use Rattle.napt_binding.{specs.Ends.{end_of, is_before, EndsAreFirst}, proofs.FirstEnds.before_sooner}
use Rattle.napt_account.specs.{declared.log.{Entry.Entry, LogEntry.LogEntry}, Log.{LogModel, after_record, first_entry, shares, counted, entry_through, unnumbered, log_on}, ResumedLogRuns.IsLogOf}
use Rattle.napt_account.specs.HeldNumbers.{AreEntriesApart, EntriesStayApart, HeldNumbersHaveOneHolder, held_bindings}
use Rattle.napt_account.proofs.{InputEffects.{goes, order, other, other_sound}, Lists.{each_every, each_mapped, map_joined, map_twice}, BindingChanges.of_moves, UnnumberedEntries.{logged_by, logged, plain_acts}}
use Rattle.napt_account.proofs.Entries.{counted_end, counted_made, counted_binding, hold, hold_of, living}

-- AN ENTRY AND A HOLDER

pub record IsLike (timers : Timers) (entry : Entry) (holder : Holder) : Type 0 where
  pub made : entry.made ≡ holder.made
  pub ends : HaveSameEnds entry.binding (row holder.binding)
  pub end : entry.end ≡ end_of timers holder.binding

abbrev Alike : Timers → List Entry → List Holder → Type 0
Alike timers [] [] = Unit {0}
Alike timers (e ∷ es) (h ∷ hs) = IsLike timers e h × Alike timers es hs
Alike timers _ _ = ⊥

alike_push : (timers : Timers) (es : List Entry) (hs : List Holder) (e : Entry) (h : Holder) → Alike timers es hs →
    IsLike timers e h → Alike timers (es ++ e ∷ []) (hs ++ h ∷ [])
alike_push timers [] [] e h a l = (l, tt)
alike_push timers [] (k ∷ hs) e h a l = absurd a
alike_push timers (d ∷ es) [] e h a l = absurd a
alike_push timers (d ∷ es) (k ∷ hs) e h a l = (a.0, alike_push timers es hs e h a.1 l)

-- A live holder of the row's external endpoint has the row's inside endpoint.
abbrev IsOne : Timers → ℕ → Row → Holder → Type 0
IsOne timers now r h = is_live timers now h.binding ≡ true → r.protocol ≡ (row h.binding).protocol →
    r.external ≡ (row h.binding).external → r.inside ≡ (row h.binding).inside

ends_test : (a b : Row) → HaveSameEnds a b → have_same_ends a b ≡ true
ends_test a b e = grind (arith, common_steps, and_from, same_itself, end_itself)

ends_from : (a b : Row) → have_same_ends a b ≡ true → HaveSameEnds a b
ends_from a b e = grind (arith, common_steps, and_parts, protocol_is, end_is)

module _ (ends : EndsAreFirst) (timers : Timers) (t : AreTimers timers) (now : ℕ) (way : Way) (went : Binding) where
  abbrev change : Entry → Entry
  change = counted way now (end_of timers went)

  -- Both holders change, or neither does.
  like_through : (e : Entry) (h : Holder) → IsLike timers e h → IsOne timers now (row went) h →
      IsLike timers (entry_through now (row went) change e) (holder_after timers now went h)
  like_through e h l one =
      let stands : is_before now e.end ≡ is_live timers now h.binding =
      ap (is_before now) l.end ∙ sym (ends timers t now h.binding) in
      subst (λ v. IsLike timers (cond (v && shares (row went) e.binding) (change e) e) (holder_after timers now went h))
      (sym stands) (elim (is_live timers now h.binding) as (λ v. is_live timers now h.binding ≡ v →
      IsLike timers (cond (v && shares (row went) e.binding) (change e) e)
      (cond (v && have_same_ends (row went) (row h.binding)) (record h { binding = went }) h)) [
        | false ↦ λ dead. l
        | true ↦ λ lives. elim (shares (row went) e.binding) as (λ v. shares (row went) e.binding ≡ v →
            IsLike timers (cond v (change e) e)
            (cond (have_same_ends (row went) (row h.binding)) (record h { binding = went }) h)) [
              | true ↦ λ s.
                  let p = and_parts (same_protocol (row went).protocol e.binding.protocol) _ s in
                  let protocol = protocol_is (row went).protocol e.binding.protocol p.0 in
                  let external = end_is (row went).external e.binding.external p.1 in
                  let same : HaveSameEnds (row went) (row h.binding) = record {
                    protocol = protocol ∙ l.ends.protocol;
                    external = external ∙ l.ends.external;
                    inside = one lives (protocol ∙ l.ends.protocol) (external ∙ l.ends.external);
                  } in
                  subst (λ v. IsLike timers (change e) (cond v (record h { binding = went }) h))
                  (sym (ends_test (row went) (row h.binding) same)) (record {
                    made = counted_made way now (end_of timers went) e ∙ l.made;
                    ends = subst (λ (r : Row). HaveSameEnds r (row went))
                        (sym (counted_binding way now (end_of timers went) e)) (record {
                          protocol = sym protocol;
                          external = sym external;
                          inside = l.ends.inside ∙ sym same.inside;
                        });
                    end = counted_end way now (end_of timers went) e;
                  })
              | false ↦ λ s. elim (have_same_ends (row went) (row h.binding)) as (λ v.
                  have_same_ends (row went) (row h.binding) ≡ v →
                  IsLike timers e (cond v (record h { binding = went }) h)) [
                    | true ↦ λ c.
                        let same = ends_from (row went) (row h.binding) c in
                        absurd (true≢false (sym (and_from (same_protocol (row went).protocol e.binding.protocol)
                        (same_endpoint (row went).external e.binding.external)
                        (ap (same_protocol (row went).protocol) (l.ends.protocol ∙ sym same.protocol)
                        ∙ same_itself (row went).protocol)
                        (ap (same_endpoint (row went).external) (l.ends.external ∙ sym same.external)
                        ∙ end_itself (row went).external)) ∙ s))
                    | false ↦ λ c. l
                  ] refl
            ] refl
      ] refl)

  alike_through : (es : List Entry) (hs : List Holder) → Alike timers es hs → Each (IsOne timers now (row went)) hs →
      Alike timers (map (entry_through now (row went) change) es) (map (holder_after timers now went) hs)
  alike_through [] [] a ones = tt
  alike_through [] (h ∷ hs) a ones = absurd a
  alike_through (e ∷ es) [] a ones = absurd a
  alike_through (e ∷ es) (h ∷ hs) a ones = (like_through e h a.0 ones.0, alike_through es hs a.1 ones.1)

-- WHO HAS AN ENDPOINT

one_each : (P R : Binding → Type 0) (xs : List Binding) → Each R xs → HasOne P xs → (x : Binding) × (P x) × (R x)
one_each P R [] e h = absurd h
one_each P R (x ∷ xs) e (inl h) = (x, h, e.0)
one_each P R (x ∷ xs) e (inr h) = one_each P R xs e.1 h

module _ (timers : Timers) (h : Holder) (r : Row) where
  abbrev IsRow : Binding → Type 0
  IsRow x = row x ≡ r

  -- A binding that covers the holder and one with the row are the same if they have one external endpoint.
  one_inside : (xs : List Binding) → AreBindingsApart (map row xs) → HasOne (HolderCoversBinding timers h) xs →
      HasOne IsRow xs →
      r.protocol ≡ (row h.binding).protocol → r.external ≡ (row h.binding).external →
      r.inside ≡ (row h.binding).inside
  one_inside [] apart c o p x = absurd c
  one_inside (b ∷ xs) apart (inl c) (inl o) p x = ap (λ (r : Row). r.inside) (sym o) ∙ c.ends.inside
  one_inside (b ∷ xs) apart (inl c) (inr o) p x =
      let (y, is, far) = one_each IsRow (λ y. AreRowsApart (row b) (row y)) xs
      (each_rows (AreRowsApart (row b)) xs apart.0)
      o in
      absurd ((far (c.ends.protocol ∙ (sym p ∙ ap (λ (r : Row). r.protocol) (sym is)))).0
      (c.ends.external ∙ (sym x ∙ ap (λ (r : Row). r.external) (sym is))))
  one_inside (b ∷ xs) apart (inr c) (inl o) p x =
      let (y, is, far) = one_each (HolderCoversBinding timers h) (λ y. AreRowsApart (row b) (row y)) xs
      (each_rows (AreRowsApart (row b)) xs apart.0) c in
      absurd ((far (ap (λ (r : Row). r.protocol) o ∙ (p ∙ sym is.ends.protocol))).0
      (ap (λ (r : Row). r.external) o ∙ (x ∙ sym is.ends.external)))
  one_inside (b ∷ xs) apart (inr c) (inr o) p x = one_inside xs apart.1 c o p x

-- An element that is found in the images of a list is in the list.
one_found : (p q : Binding → Bool) (f : Binding → Binding) → ((x : Binding) → row (f x) ≡ row x) → (xs : List Binding)
    (b : Binding) → find p (map f (filter q xs)) ≡ Some b → HasOne (λ x. row x ≡ row b) xs
one_found p q f rows [] b e = cc
one_found p q f rows (x ∷ xs) b e =
    elim (q x) as (λ v. find p (map f (cond v (x ∷ filter q xs) (filter q xs))) ≡ Some b →
    HasOne (λ x. row x ≡ row b) (x ∷ xs)) [
      | true ↦ λ e. elim (p (f x)) as (λ w. cond w (Some (f x)) (find p (map f (filter q xs))) ≡ Some b →
          HasOne (λ x. row x ≡ row b) (x ∷ xs)) [
            | true ↦ λ e. inl (sym (rows x) ∙ ap row (same_Some (f x) b e))
            | false ↦ λ e. inr (one_found p q f rows xs b e)
          ] e
      | false ↦ λ e. inr (one_found p q f rows xs b e)
    ] e

-- A LEG

module _ (ends : EndsAreFirst) (carry : PacketsCarryNumbers) (rules : Rules) (keeps : RulesInvariant rules)
    (address : ℕ)
    (leg : Leg) (list : List Binding) (clock : ℕ) (later : clock ≤ leg.now) (holders : List Holder)
    (s : IsSound (pair_of rules) list) (a : AreBindingsAccounted rules.timers clock list holders) where
  abbrev timers : Timers
  timers = rules.timers

  abbrev all : List Binding
  all = live_and_held timers leg.now list

  dead : (n m : ℕ) → n ≤ m → (b : Binding) → is_live timers n b ≡ false → is_live timers m b ≡ false
  dead n m le b e = grind (arith, common_steps, true≢false, lived)

  -- A leg that does not change the bindings.
  later_one : (h : Holder) → IsAccounted timers (hold_ago timers clock) list h →
      IsAccounted timers (hold_ago timers leg.now) list h
  later_one h (inl d) =
      inl (dead (hold_ago timers clock) (hold_ago timers leg.now) (ago_later timers clock leg.now later)
      h.binding d)
  later_one h (inr o) = inr o

  on : AreBindingsAccounted timers leg.now list holders
  on = grind (arith, common_steps, each_weaker, later_one)

  abbrev Kept : LegEffect → Type 0
  Kept acted = IsSound (pair_of rules) acted.list
      × AreBindingsAccounted timers leg.now acted.list (holders_after timers leg.now acted.through holders)

  kept_out : (protocol : Protocol) (flags : Flags) → address ≡ pair_of rules (source leg.packet).address →
      IsNumber protocol (source leg.packet).number → Kept (act_out rules address leg list protocol flags)
  kept_out protocol flags paired numbered =
      let packet : OutboundPacket = outbound_packet rules protocol flags leg.now leg.packet in
      let block = keeps.blocks (source leg.packet).address in (
        out_stays_sound (pair_of rules) timers (assignment_rules rules) address packet list s paired numbered block,
        out_keeps_accounts (pair_of rules) timers keeps.timers (assignment_rules rules) address packet list s paired
            numbered
            block clock later holders a,
      )

  kept_in : (protocol : Protocol) (flags : Flags) → Kept (act_in rules address leg list protocol flags)
  kept_in protocol flags =
      let packet : InboundPacket = inbound_packet protocol flags leg.now leg.packet in (
        in_stays_sound (pair_of rules) timers (inbound_rules rules) address packet list s,
        in_keeps_accounts timers keeps.timers (inbound_rules rules) address packet list clock later holders a,
      )

  kept_goes : (k : Kind) → address ≡ pair_of rules (local_of k Outgoing leg.packet).address →
      (is_error k ≡ false → CanCarry k (source leg.packet).number) → Kept (act_by rules address leg list Outgoing k)
  kept_goes Udp paired carried = kept_out protocols.Udp no_flags paired (carried refl)
  kept_goes (Tcp flags) paired carried = kept_out protocols.Tcp flags paired (carried refl)
  kept_goes Echo paired carried = kept_out protocols.Icmp no_flags paired tt
  kept_goes (ErrorOf inner) paired carried = (s, on)

  kept_comes : (k : Kind) → Kept (act_by rules address leg list Incoming k)
  kept_comes Udp = kept_in protocols.Udp no_flags
  kept_comes (Tcp flags) = kept_in protocols.Tcp flags
  kept_comes Echo = kept_in protocols.Icmp no_flags
  kept_comes (ErrorOf inner) = (s, on)

  kept_by : (way : Way) → address ≡ served_at rules way leg.packet →
      (way ≡ Outgoing → (bytes : List ℕ) × (reading Inside bytes ≡ Ok leg.packet)) →
      Kept (act_by rules address leg list way (kind leg.packet))
  unfolding local_end
  kept_by Outgoing at read = let was = read refl in
      kept_goes (kind leg.packet) at (carry Inside was.0 leg.packet was.1)
  kept_by Incoming at read = kept_comes (kind leg.packet)

  -- The holders that are live now are in the list.
  ones : (b : Binding) → HasOne (λ x. row x ≡ row b) all → (hs : List Holder) →
      Each (IsAccounted timers (hold_ago timers leg.now) all) hs → Each (IsOne timers leg.now (row b)) hs
  ones b there [] k = tt
  ones b there (h ∷ hs) k = (
    λ lives p x. elim k.0 as (λ w. (row b).inside ≡ (row h.binding).inside) [
      | inl d ↦ absurd (true≢false (sym lives
          ∙ dead (hold_ago timers leg.now) leg.now (ago_before timers leg.now) h.binding d))
      | inr o ↦ one_inside timers h (row b) all
          (purge_stays_sound (pair_of rules) timers (hold_ago timers leg.now) list s).apart o there p x
    ],
    ones b there hs k.1,
  )

  alike_act : (entries : List Entry) → Alike timers entries holders →
      Alike timers (logged_by timers leg (act rules address leg list).through entries)
      (holders_after timers leg.now (act rules address leg list).through holders)
  alike_act entries alike =
      of_moves rules keeps.timers address leg list (λ went left.
      Alike timers (logged_by timers leg went entries) (holders_after timers leg.now went holders)) alike
      (λ p f b found same fresh. alike_through ends timers keeps.timers leg.now leg.way (f b) entries holders alike
      (ones (f b) (subst (λ (r : Row). HasOne (λ x. row x ≡ r) all) (sym (same b))
      (one_found p (is_live timers leg.now) (with_live_flows timers leg.now) (λ x. refl) all b
      (ap (find p) (purge_taken timers leg.now list) ∙ found)))
      holders (taken_accounted timers clock leg.now later list holders a).each))
      (λ new out is others.
      let e : Entry = first_entry timers leg.now new in
      let end : Option ℕ = end_of timers new in
      alike_push timers entries holders (counted leg.way leg.now end e) (record { made = leg.now; binding = new }) alike
      (record {
        made = counted_made leg.way leg.now end e;
        ends = subst (λ (r : Row). HaveSameEnds r (row new)) (sym (counted_binding leg.way leg.now end e))
            (record { protocol = refl; external = refl; inside = refl });
        end = counted_end leg.way leg.now end e;
      }))

  pub kept_act : IsServed rules address leg → Kept (act rules address leg list)
  kept_act served = kept_by leg.way served.at served.read

-- A RUN

module _ (ends : EndsAreFirst) (timers : Timers) (t : AreTimers timers) where
  apart_one : (e d : Entry) (h k : Holder) → IsLike timers e h → IsLike timers d k → HoldersApart timers h k →
      AreEntriesApart timers e d
  apart_one e d h k l m apart p x i = grind (arith, common_steps)

  apart_each : (e : Entry) (h : Holder) → IsLike timers e h → (es : List Entry) (hs : List Holder) →
      Alike timers es hs → Each (HoldersApart timers h) hs → Each (AreEntriesApart timers e) es
  apart_each e h l [] hs alike apart = tt
  apart_each e h l (d ∷ es) [] alike apart = absurd alike
  apart_each e h l (d ∷ es) (k ∷ hs) alike apart =
      (apart_one e d h k l alike.0 apart.0, apart_each e h l es hs alike.1 apart.1)

  apart_all : (es : List Entry) (hs : List Holder) → Alike timers es hs → AllHoldersApart timers hs →
      EntriesStayApart timers es
  apart_all [] hs alike apart = tt
  apart_all (e ∷ es) [] alike apart = absurd alike
  apart_all (e ∷ es) (h ∷ hs) alike apart =
      (apart_each e h alike.0 es hs alike.1 apart.0, apart_all es hs alike.1 apart.1)

-- WHERE A RUN BEGINS: the bindings that had ended and are held, and then those that live, in the order of the log

-- The holders of entries: when each was made, and its binding.
abbrev holders_of : List Entry → List Binding → List Holder
holders_of [] bs = []
holders_of (e ∷ es) [] = []
holders_of (e ∷ es) (b ∷ bs) = record { made = e.made; binding = b } ∷ holders_of es bs

abbrev bound : List Holder → List Binding
bound hs = map (λ (h : Holder). h.binding) hs

module _ (timers : Timers) where
  one_like : (e : Entry) (b : Binding) → hold_of timers b ≡ hold e →
      IsLike timers e (record { made = e.made; binding = b })
  one_like e b same =
      let is : row b ≡ e.binding = ap (λ (h : Row × Option ℕ). h.0) same in
      record {
        made = refl;
        ends = subst (λ (r : Row). HaveSameEnds r (row b)) is
            (record { protocol = refl; external = refl; inside = refl });
        end = sym (ap (λ (h : Row × Option ℕ). h.1) same);
      }

  all_like : (es : List Entry) (bs : List Binding) → map (hold_of timers) bs ≡ map hold es →
      Alike timers es (holders_of es bs) × (bound (holders_of es bs) ≡ bs)
  all_like [] [] same = (tt, refl)
  all_like [] (b ∷ bs) same = cc
  all_like (e ∷ es) [] same = cc
  all_like (e ∷ es) (b ∷ bs) same =
      let first : hold_of timers b ≡ hold e = cc in
      let rest : map (hold_of timers) bs ≡ map hold es = cc in
      let more = all_like es bs rest in
      ((one_like e b first, more.0), ap (λ (xs : List Binding). b ∷ xs) more.1)

  apart_first : (h : Holder) (hs : List Holder) → Each (AreRowsApart (row h.binding)) (map row (bound hs)) →
      Each (HoldersApart timers h) hs
  apart_first h [] e = tt
  apart_first h (k ∷ hs) e = (λ p ext i. absurd ((e.0 p).0 ext), apart_first h hs e.1)

  apart_holders : (hs : List Holder) → AreBindingsApart (map row (bound hs)) → AllHoldersApart timers hs
  apart_holders [] e = tt
  apart_holders (h ∷ hs) e = (apart_first h hs e.0, apart_holders hs e.1)

  -- Each holder has a binding of the list.
  abbrev IsIn : List Binding → Binding → Type 0
  IsIn list b = HasOne (λ x. x ≡ b) list

  in_push : (x : Binding) (list bs : List Binding) → Each (IsIn list) bs → Each (IsIn (x ∷ list)) bs
  in_push x list [] h = tt
  in_push x list (b ∷ bs) h = (inr h.0, in_push x list bs h.1)

  all_in : (list : List Binding) → Each (IsIn list) list
  all_in [] = tt
  all_in (x ∷ list) = (inl refl, in_push x list list (all_in list))

  covers : (list : List Binding) (h : Holder) → IsIn list h.binding → HasOne (HolderCoversBinding timers h) list
  covers [] h is = absurd is
  covers (x ∷ list) h (inl is) = inl (record {
    ends = subst (λ (b : Binding). HaveSameEnds (row b) (row h.binding)) (sym is)
        (record { protocol = refl; external = refl; inside = refl });
    lives = λ t l. subst (λ (b : Binding). is_live timers t b ≡ true) (sym is) l;
  })
  covers (x ∷ list) h (inr is) = inr (covers list h is)

  all_accounted : (ago : ℕ) (list : List Binding) (hs : List Holder) → Each (IsIn list) (bound hs) →
      Each (IsAccounted timers ago list) hs
  all_accounted ago list [] h = tt
  all_accounted ago list (k ∷ hs) h = (inr (covers list k h.0), all_accounted ago list hs h.1)

  made_by_then : (now : ℕ) (es : List Entry) → Each (λ (e : Entry). e.made ≤ now) es → (bs : List Binding) →
      Each (λ (h : Holder). h.made ≤ now) (holders_of es bs)
  made_by_then now [] h bs = tt
  made_by_then now (e ∷ es) h [] = tt
  made_by_then now (e ∷ es) h (b ∷ bs) = (h.0, made_by_then now es h.1 bs)

  -- Entries of bindings, as if each was made at a time.
  abbrev entries_at : ℕ → List Binding → List Entry
  entries_at now bs = map (first_entry timers now) bs

  hold_at : (now : ℕ) (bs : List Binding) → map (hold_of timers) bs ≡ map hold (entries_at now bs)
  hold_at now bs = sym (map_twice hold (first_entry timers now) bs)

  made_at : (now : ℕ) (bs : List Binding) → Each (λ (e : Entry). e.made ≤ now) (entries_at now bs)
  made_at now bs = each_mapped (λ (e : Entry). e.made ≤ now) (first_entry timers now) bs
      (each_every (λ (b : Binding). now ≤ now) bs (λ b. omega arith))

-- WHAT HAS ENDED STAYS AS IT IS, before what the legs log

module _ (rules : Rules) where
  abbrev AllEnded : ℕ → List Entry → Type 0
  AllEnded now ds = Each (λ (e : Entry). is_before now e.end ≡ false) ds

  one_ended : (was now : ℕ) → was ≤ now → (e : Entry) → is_before was e.end ≡ false → is_before now e.end ≡ false
  one_ended was now le e h = elim (is_before now e.end) as (λ v. is_before now e.end ≡ v → v ≡ false) [
    | true ↦ λ lives. absurd (true≢false (sym (before_sooner was now le e.end lives) ∙ h))
    | false ↦ λ ended. refl
  ] refl

  ended_stay : (now : ℕ) (r : Row) (change : Entry → Entry) (ds : List Entry) → AllEnded now ds →
      map (entry_through now r change) ds ≡ ds
  ended_stay now r change [] h = refl
  ended_stay now r change (d ∷ ds) h =
      ap (λ v. cond (v && shares r d.binding) (change d) d ∷ map (entry_through now r change) ds) h.0
      ∙ ap (λ (xs : List Entry). d ∷ xs) (ended_stay now r change ds h.1)

  logged_behind : (leg : Leg) (went : Option BindingUse) (ds : List Entry) → AllEnded leg.now ds → (es : List Entry) →
      logged_by rules.timers leg went (ds ++ es) ≡ ds ++ logged_by rules.timers leg went es
  logged_behind leg None ds h es = refl
  logged_behind leg (Some went) ds h es =
      let change : Entry → Entry = counted leg.way leg.now (end_of rules.timers went.binding) in
      let new : Entry = change (first_entry rules.timers leg.now went.binding) in
      let through : Entry → Entry = entry_through leg.now (row went.binding) change in
      elim went.made as (λ v. cond v ((ds ++ es) ++ new ∷ []) (map through (ds ++ es))
      ≡ ds ++ cond v (es ++ new ∷ []) (map through es)) [
        | true ↦ append_assoc ds es (new ∷ [])
        | false ↦ map_joined through ds es ∙ ap (λ (xs : List Entry). xs ++ map through es)
            (ended_stay leg.now (row went.binding) change ds h)
      ]

  acts_behind : (clock : ℕ) (list : List Binding) (acts : List LegAct) (last : ℕ) (new : List Binding) →
      InTurn rules clock list acts last new → (ds : List Entry) → AllEnded clock ds → (es : List Entry) →
      fold (logged rules.timers) (ds ++ es) acts ≡ ds ++ fold (logged rules.timers) es acts
  acts_behind clock list [] last new turn ds h es = refl
  acts_behind clock list (a ∷ acts) last new turn ds h es =
      let le : clock ≤ a.leg.now = turn.0.later in
      let ended : AllEnded a.leg.now ds = each_weaker (λ (e : Entry). is_before clock e.end ≡ false)
      (λ (e : Entry). is_before a.leg.now e.end ≡ false) (one_ended clock a.leg.now le) ds h in
      ap (λ (xs : List Entry). fold (logged rules.timers) xs acts) (logged_behind a.leg a.through ds ended es)
      ∙ acts_behind a.leg.now (act rules a.address a.leg list).list acts last new turn.1 ds ended
      (logged rules.timers es a)

held_turn : EndsAreFirst → PacketsCarryNumbers → (rules : Rules) → RulesInvariant rules →
    (clock : ℕ) (list : List Binding)
    (acts : List LegAct) (last : ℕ) (new : List Binding) (entries : List Entry) (holders : List Holder) →
    InTurn rules clock list acts last new → IsSound (pair_of rules) list →
    AreBindingsAccounted rules.timers clock list holders → Alike rules.timers entries holders →
    EntriesStayApart rules.timers (fold (logged rules.timers) entries acts)
held_turn ends carry rules keeps clock list [] last new entries holders p s a alike =
    apart_all ends rules.timers keeps.timers entries holders alike a.apart
held_turn ends carry rules keeps clock list (x ∷ acts) last new entries holders p s a alike =
    let acted : LegEffect = act rules x.address x.leg list in
    let kept = kept_act ends carry rules keeps x.address x.leg list clock p.0.later holders s a p.0.served in
    let after : List Holder = holders_after rules.timers x.leg.now acted.through holders in
    held_turn ends carry rules keeps x.leg.now acted.list acts last new (logged rules.timers entries x) after p.1 kept.0
    kept.1 (subst (λ (went : Option BindingUse). Alike rules.timers (logged_by rules.timers x.leg went entries) after)
    (sym p.0.through)
    (alike_act ends carry rules keeps x.address x.leg list clock p.0.later holders s a entries alike))

-- FROM A STATE

module _ (ends : EndsAreFirst) (carry : PacketsCarryNumbers) (alike_go_on : AlikeStatesGoOn) (rules : Rules)
    (keeps : RulesInvariant rules) (state : State) (sound : IsSound (pair_of rules) state.list) (log : LogModel)
    (is : IsLogOf rules state log) where
  abbrev times : Timers
  times = rules.timers

  abbrev clock : ℕ
  clock = state.clock

  abbrev ordered : State
  ordered = other alike_go_on rules keeps state sound log is

  abbrev held : List Binding
  held = held_bindings rules state

  abbrev live : List Binding
  live = living times clock ordered.list

  abbrev before : List Entry
  before = entries_at times clock held

  abbrev entries : List Entry
  entries = unnumbered log

  holds : map (hold_of times) (held ++ live) ≡ map hold (before ++ entries)
  holds = map_joined (hold_of times) held live
      ∙ (λ i. hold_at times clock held i ++ (order alike_go_on rules keeps state sound log is).2 i)
      ∙ sym (map_joined hold before entries)

  moved : IsPermutation ordered.list (held ++ live)
  moved = IsPermutation-trans ordered.list (filter (λ b. not (is_live times clock b)) ordered.list ++ live)
      (held ++ live)
      (IsPermutation-filter_both (λ b. not (is_live times clock b)) (is_live times clock)
      (λ b. twice (is_live times clock b)) ordered.list)
      (IsPermutation-append_left live (filter (λ b. not (is_live times clock b)) ordered.list) held
      (filter_moved (λ b. not (is_live times clock b)) ordered.list state.list
      (IsPermutation-sym state.list ordered.list (order alike_go_on rules keeps state sound log is).1)))
    where
      twice : (v : Bool) → v ≡ not (not v)
      twice true = refl
      twice false = refl

  apart : IsSound (pair_of rules) ordered.list
  apart = other_sound alike_go_on rules keeps state sound log is

  abbrev holders : List Holder
  holders = holders_of (before ++ entries) (held ++ live)

  alike : Alike times (before ++ entries) holders × (bound holders ≡ held ++ live)
  alike = all_like times (before ++ entries) (held ++ live) holds

  accounted : AreBindingsAccounted times clock ordered.list holders
  accounted = record {
    apart = apart_holders times holders (subst (λ (bs : List Binding). AreBindingsApart (map row bs)) (sym alike.1)
        (apart_moved _ _ (IsPermutation-map row _ _ moved) apart.apart));
    past = made_by_then times clock (before ++ entries) (each_append (λ (e : Entry). e.made ≤ clock) before entries
        (made_at times clock held) (each_mapped (λ (e : Entry). e.made ≤ clock) (λ (n : LogEntry). n.entry) log.entries
        is.made)) (held ++ live);
    each = all_accounted times (hold_ago times clock) ordered.list holders
        (subst (Each (IsIn times ordered.list)) (sym alike.1)
        (each_moved (IsIn times ordered.list) _ _ moved (all_in times ordered.list)));
  }

  ended : AllEnded rules clock before
  ended = each_mapped (λ (e : Entry). is_before clock e.end ≡ false) (first_entry times clock) held
      (each_weaker (λ b. not (is_live times clock b) ≡ true) (λ b. is_before clock (end_of times b) ≡ false)
      (λ b h. sym (ends times keeps.timers clock b) ∙ turned (is_live times clock b) h) held
      (each_filter (λ b. not (is_live times clock b)) state.list))
    where
      turned : (v : Bool) → not v ≡ true → v ≡ false
      turned true h = sym h
      turned false h = refl

  all_apart : (inputs : List Arrival) →
      EntriesStayApart times (before ++ unnumbered (log_on rules state log inputs))
  unfolding log_on
  all_apart inputs =
      let course : RunEffect = effect_from rules ordered inputs in
      let last : ℕ = last_clock clock inputs in
      let went = run_turn rules 0 clock inputs ordered.list in
      subst (λ (acts : List LegAct). EntriesStayApart times (before ++ unnumbered (fold (after_record times) log acts)))
      (goes alike_go_on rules keeps state sound log is inputs).acts
      (subst (λ (es : List Entry). EntriesStayApart times (before ++ es))
      (sym (plain_acts rules keeps.timers clock ordered.list course.acts last course.list went log))
      (subst (EntriesStayApart times)
      (acts_behind rules clock ordered.list course.acts last course.list went before ended entries)
      (held_turn ends carry rules keeps clock ordered.list course.acts last course.list (before ++ entries) holders went
      apart accounted alike.0)))

pub held_numbers : EndsAreFirst → PacketsCarryNumbers → TakenStatesAreSound → AlikeStatesGoOn → HeldNumbersHaveOneHolder
held_numbers ends carry taken_sound alike_go_on rules keeps state takes log is =
    all_apart ends carry alike_go_on rules keeps (with_redirects rules state) (taken_sound rules keeps state takes [])
    log is
