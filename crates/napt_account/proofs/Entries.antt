-- The open entries are the live bindings, each with its end; an act preserves this, and does not change the past.
use Rattle.std.proofs.lemmas.{Grind.common_steps, Bool.Decides.nat_tests}
use Rattle.std.proofs.Common.{◌≡◌, ℕ, ◌<◌, ◌≤◌, Bool, true, false, ◌&&◌, cond, List, [], ◌∷◌, ◌++◌, map, Option, Some, refl, sym, ◌∙◌, ap, subst, arith, append-nil}
use Rattle.std.{specs.{Prelude.{filter, find, nat_le}, List.fold}, proofs.lemmas.{Bool.{and_parts, and_from}, Option.same_Some}}
use Rattle.napt_rules.specs.Prelude.{BindingUse, Binding, Each, change_first, is_live, with_live_flows, purge, row, act, LegAct, AreBindingsApart, Way, Outgoing, Incoming, Rules, AreTimers, Timers}
use Rattle.napt_rules.{specs.declared.{Row.Row, Leg.Leg}, proofs.{Lists.{each_filter, filter_all}, Life.lived}}
use Rattle.napt_laws.proofs.Lists.{filter_narrow, find_passes, each_weaker, each_pushed}
use Rattle.napt_laws.proofs.{Endpoints.{protocol_is, end_is, same_itself, end_itself}, FreshBindings.{IsFresh, fresh_purged}, RunInduction.InTurn}
use Rattle.napt_binding.{specs.Ends.{end_of, is_before, EndsAreFirst}, proofs.FirstEnds.{before_sooner, end_without_dead}}
use Rattle.napt_account.specs.{declared.log.Entry.Entry, Log.{first_entry, shares, counted, entry_through, stands_at}}
use Rattle.napt_account.proofs.Lists.{filter_seen, filter_agrees, filter_agrees_each, filter_joined, map_joined, map_twice, map_agrees, each_mapped, each_shown}
use Rattle.napt_account.proofs.{BindingChanges.{Differ, AllDiffer, differ_kept, differ_act, of_moves}, UnnumberedEntries.{logged_by, logged}}

abbrev pub living : Timers → ℕ → List Binding → List Binding
living timers now list = filter (is_live timers now) list

-- The row and the end of a binding, and those in an entry.
abbrev pub hold_of : Timers → Binding → Row × Option ℕ
hold_of timers binding = (row binding, end_of timers binding)

abbrev pub hold : Entry → Row × Option ℕ
hold entry = (entry.binding, entry.end)

abbrev pub binding_of : Entry → Row
binding_of entry = entry.binding

abbrev pub is_open : ℕ → Entry → Bool
is_open now entry = is_before now entry.end

-- The rows of the entries that are open at a time.
abbrev pub named : ℕ → List Entry → List Row
named now entries = map binding_of (filter (stands_at now) entries)

abbrev Holds : Timers → ℕ → List Binding → List Entry → Type 0
Holds timers now live entries = map hold (filter (is_open now) entries) ≡ map (hold_of timers) live

-- The entries after the legs up to a time that led to the list.
pub record Tells (timers : Timers) (now : ℕ) (list : List Binding) (entries : List Entry) : Type 0 where
  pub made : Each (λ e. e.made ≤ now) entries
  pub holds : Holds timers now (living timers now list) entries
  pub differ : AllDiffer (map row list)

-- ROWS

pub apart_differ : (rs : List Row) → AreBindingsApart rs → AllDiffer rs
apart_differ [] h = tt
apart_differ (r ∷ rs) h = grind (arith, common_steps, nat_tests, each_weaker, apart_differ rs h.1)

is_false : (v : Bool) → (v ≡ true → ⊥) → v ≡ false
is_false true h = absurd (h refl)
is_false false h = refl

pub differ_shares : (a b : Row) → Differ a b → shares a b ≡ false
differ_shares a b differ = grind (arith, common_steps, nat_tests, is_false, and_parts, protocol_is, end_is)

pub differ_back : (a b : Row) → Differ a b → shares b a ≡ false
differ_back a b differ = differ_shares b a (λ p e. differ (sym p) (sym e))

pub rows_purge : (timers : Timers) (now : ℕ) (list : List Binding) → map row (purge timers now list)
    ≡ map row (living timers now list)
rows_purge timers now list = map_twice row (with_live_flows timers now) (living timers now list)

pub shares_itself : (r : Row) → shares r r ≡ true
shares_itself r = grind (arith, common_steps, and_from, same_itself, end_itself)

each_rows : (P : Row → Type 0) (xs : List Binding) → Each P (map row xs) → Each (λ x. P (row x)) xs
each_rows P xs h = each_shown P row xs h

each_shown_rows : (b x : Binding) → x ≡ b → (xs : List Binding) → Each (Differ (row x)) (map row xs) →
    Each (λ y. shares (row b) (row y) ≡ false) xs
each_shown_rows b x here xs h = each_weaker (λ y. Differ (row x) (row y)) (λ y. shares (row b) (row y) ≡ false)
    (λ y d. ap (λ (z : Binding). shares (row z) (row y)) (sym here) ∙ differ_shares (row x) (row y) d) xs
    (each_rows (Differ (row x)) xs h)

-- AN ENTRY AFTER A LEG

pub counted_end : (way : Way) (now : ℕ) (end : Option ℕ) (e : Entry) → (counted way now end e).end ≡ end
counted_end Outgoing now end e = refl
counted_end Incoming now end e = refl

pub counted_binding : (way : Way) (now : ℕ) (end : Option ℕ) (e : Entry) → (counted way now end e).binding ≡ e.binding
counted_binding Outgoing now end e = refl
counted_binding Incoming now end e = refl

pub counted_made : (way : Way) (now : ℕ) (end : Option ℕ) (e : Entry) → (counted way now end e).made ≡ e.made
counted_made Outgoing now end e = refl
counted_made Incoming now end e = refl

module _ (way : Way) (now : ℕ) (r : Row) (end : Option ℕ) (opened : is_before now end ≡ true) where
  abbrev changed : Entry → Entry
  changed = entry_through now r (counted way now end)

  abbrev hold_changed : Row × Option ℕ → Row × Option ℕ
  hold_changed h = cond (shares r h.0) (h.0, end) h

  pub changed_binding : (e : Entry) → (changed e).binding ≡ e.binding
  changed_binding e = grind (arith, common_steps, counted_binding)

  pub changed_made : (e : Entry) → (changed e).made ≡ e.made
  changed_made e = grind (arith, common_steps, counted_made)

  -- Whether the entry has ended by an earlier time does not change.
  pub changed_before : (past : ℕ) → past ≤ now → (e : Entry) → is_before past (changed e).end ≡ is_before past e.end
  changed_before past le e = grind (arith, common_steps, nat_tests, counted_end, before_sooner, and_parts)

  hold_here : (e : Entry) → is_open now e ≡ true → hold (changed e) ≡ hold_changed (hold e)
  hold_here e h = grind (arith, common_steps, nat_tests, counted_binding, counted_end)

  holds_here : (es : List Entry) → Each (λ e. is_open now e ≡ true) es → map hold (map changed es)
      ≡ map hold_changed (map hold es)
  holds_here [] h = refl
  holds_here (e ∷ es) h = ap (λ (x : Row × Option ℕ). x ∷ map hold (map changed es)) (hold_here e h.0)
      ∙ ap (λ (xs : List (Row × Option ℕ)). hold_changed (hold e) ∷ xs) (holds_here es h.1)

  pub holds_changed : (es : List Entry) → map hold (filter (is_open now) (map changed es))
      ≡ map hold_changed (map hold (filter (is_open now) es))
  holds_changed es = ap (map hold) (filter_seen (is_open now) changed es
      ∙ ap (map changed) (filter_agrees (λ e. is_open now (changed e)) (is_open now) es
      (changed_before now (omega arith))))
      ∙ holds_here (filter (is_open now) es) (each_filter (is_open now) es)

module _ (timers : Timers) (p : Binding → Bool) (f : Binding → Binding) (b : Binding)
    (same : (x : Binding) → row (f x) ≡ row x) where
  abbrev at_b : Row × Option ℕ → Row × Option ℕ
  at_b h = cond (shares (row (f b)) h.0) (h.0, end_of timers (f b)) h

  at_others : (xs : List Binding) → Each (λ x. shares (row b) (row x) ≡ false) xs →
      map at_b (map (hold_of timers) xs) ≡ map (hold_of timers) xs
  at_others [] h = refl
  at_others (x ∷ xs) h = grind (arith, common_steps, nat_tests, at_others xs h.1)

  -- If the rows differ, a change of the end there is the change of the first binding that passes.
  pub change_holds : (xs : List Binding) → AllDiffer (map row xs) → find p xs ≡ Some b →
      map at_b (map (hold_of timers) xs) ≡ map (hold_of timers) (change_first p f xs)
  change_holds [] h e = cc
  change_holds (x ∷ xs) h e = elim (p x) as (λ v. cond v (Some x) (find p xs) ≡ Some b →
      map at_b (map (hold_of timers) (x ∷ xs)) ≡ map (hold_of timers) (cond v (f x ∷ xs) (x ∷ change_first p f xs))) [
        | true ↦ λ is.
            let here : x ≡ b = same_Some x b is in
            let others : Each (λ y. shares (row b) (row y) ≡ false) xs =
            each_shown_rows b x here xs h.0 in
            ap (λ v. cond v (row x, end_of timers (f b)) (hold_of timers x) ∷ map at_b (map (hold_of timers) xs))
            (ap (λ (r : Row). shares r (row x)) (same b) ∙ (ap (λ (y : Binding). shares (row b) (row y)) here
            ∙ shares_itself (row b)))
            ∙ (ap (λ (xs : List (Row × Option ℕ)). (row x, end_of timers (f b)) ∷ xs) (at_others xs others)
            ∙ (ap (λ (y : Binding). (row x, end_of timers (f y)) ∷ map (hold_of timers) xs) (sym here)
            ∙ ap (λ (r : Row). (r, end_of timers (f x)) ∷ map (hold_of timers) xs) (sym (same x))))
        | false ↦ λ is.
            ap (λ v. cond v (row x, end_of timers (f b)) (hold_of timers x) ∷ map at_b (map (hold_of timers) xs))
            (ap (λ (r : Row). shares r (row x)) (same b) ∙ differ_back (row x) (row b)
            (find_passes p (λ y. Differ (row x) (row y)) xs b (each_rows (Differ (row x)) xs h.0) is).1)
            ∙ ap (λ (xs : List (Row × Option ℕ)). hold_of timers x ∷ xs) (change_holds xs h.1 is)
      ] e

-- A LEG

module _ (timers : Timers) (t : AreTimers timers) (now : ℕ) where
  alive_holds : (xs : List Binding) → Each (λ b. is_live timers now b ≡ true) xs →
      map (hold_of timers) (map (with_live_flows timers now) xs) ≡ map (hold_of timers) xs
  alive_holds [] h = refl
  alive_holds (x ∷ xs) h = grind (arith, common_steps, nat_tests, end_without_dead, alive_holds xs h.1)

  pub purge_holds : (list : List Binding) → map (hold_of timers) (purge timers now list)
      ≡ map (hold_of timers) (living timers now list)
  purge_holds list = alive_holds (living timers now list) (each_filter (is_live timers now) list)

  pub all_live : (list : List Binding) → Each (IsFresh timers now) list → living timers now list ≡ list
  all_live list h = grind (arith, common_steps, filter_all, each_weaker)

module _ (ends : EndsAreFirst) (timers : Timers) (t : AreTimers timers) where
  pub tells_later : (n m : ℕ) → n ≤ m → (list : List Binding) (entries : List Entry) → Tells timers n list entries →
      Tells timers m list entries
  tells_later n m le list entries tells = record {
    made = each_weaker (λ e. e.made ≤ n) (λ e. e.made ≤ m) (λ e h. omega arith) entries tells.made;
    holds = ap (map hold) (sym (filter_narrow (is_open n) (is_open m) entries (λ e. before_sooner n m le e.end)))
        ∙ (sym (filter_seen (λ (h : Row × Option ℕ). is_before m h.1) hold (filter (is_open n) entries))
        ∙ (ap (filter (λ (h : Row × Option ℕ). is_before m h.1)) tells.holds
        ∙ (filter_seen (λ (h : Row × Option ℕ). is_before m h.1) (hold_of timers) (living timers n list)
        ∙ (ap (map (hold_of timers)) (filter_agrees (λ b. is_before m (end_of timers b)) (is_live timers m)
        (living timers n list) (λ b. sym (ends timers t m b)))
        ∙ ap (map (hold_of timers)) (filter_narrow (is_live timers n) (is_live timers m) list
        (lived timers n m le))))));
    differ = tells.differ;
  }

  -- The rows of the open entries are those of the live bindings.
  pub named_now : (now : ℕ) (list : List Binding) (entries : List Entry) → Tells timers now list entries →
      named now entries ≡ map row (living timers now list)
  named_now now list entries tells = ap (map binding_of)
      (filter_agrees_each (stands_at now) (is_open now) entries
      (each_weaker (λ e. e.made ≤ now) (λ e. stands_at now e ≡ is_open now e)
      (λ e le. let made : nat_le e.made now ≡ true = grind (arith, nat_tests) in ap (λ v. v && is_open now e) made)
      entries tells.made))
      ∙ (sym (map_twice (λ (h : Row × Option ℕ). h.0) hold (filter (is_open now) entries))
      ∙ (ap (map (λ (h : Row × Option ℕ). h.0)) tells.holds
      ∙ map_twice (λ (h : Row × Option ℕ). h.0) (hold_of timers) (living timers now list)))

module _ (ends : EndsAreFirst) (rules : Rules) (t : AreTimers rules.timers) (address : ℕ) (leg : Leg)
    (list : List Binding) where
  abbrev own : List Binding
  own = purge rules.timers leg.now list

  -- The open entries, compared with the live bindings.
  abbrev Now : List Entry → Option BindingUse → List Binding → Type 0
  Now entries went left =
      Each (λ e. e.made ≤ leg.now) (logged_by rules.timers leg went entries)
      × Holds rules.timers leg.now left (logged_by rules.timers leg went entries)

  new_open : (b : Binding) → IsFresh rules.timers leg.now b → is_before leg.now (end_of rules.timers b) ≡ true
  new_open b fresh = sym (ends rules.timers t leg.now b) ∙ fresh.live

  pub own_differ : AllDiffer (map row list) → AllDiffer (map row own)
  own_differ h = grind (arith, common_steps, rows_purge, differ_kept)

  pub tells_act : (entries : List Entry) → Tells rules.timers leg.now list entries →
      Tells rules.timers leg.now (act rules address leg list).list
      (logged_by rules.timers leg (act rules address leg list).through entries)
  tells_act entries tells =
      let holds : Holds rules.timers leg.now own entries =
      tells.holds ∙ sym (purge_holds rules.timers t leg.now list) in
      let fresh : Each (IsFresh rules.timers leg.now) own = fresh_purged rules.timers leg.now list in
      let differ : AllDiffer (map row own) = own_differ tells.differ in
      let now = of_moves rules t address leg list (Now entries) (tells.made, holds)
      (λ p f b found same keeps.
      let new : IsFresh rules.timers leg.now (f b) = keeps b (find_passes p (IsFresh rules.timers leg.now) own b fresh
      found).1 in
      let end : Option ℕ = end_of rules.timers (f b) in
      let opened : is_before leg.now end ≡ true = new_open (f b) new in
      let change : Entry → Entry = entry_through leg.now (row (f b)) (counted leg.way leg.now end) in (
        each_mapped (λ e. e.made ≤ leg.now) change entries
            (each_weaker (λ e. e.made ≤ leg.now) (λ e. (change e).made ≤ leg.now)
            (λ e le. subst (λ (m : ℕ). m ≤ leg.now) (sym (changed_made leg.way leg.now (row (f b)) end opened e)) le)
            entries tells.made),
        holds_changed leg.way leg.now (row (f b)) end opened entries
            ∙ (ap (map (hold_changed leg.way leg.now (row (f b)) end opened)) holds
            ∙ change_holds rules.timers p f b same own differ found),
      ))
      (λ new out is others.
      let change : Entry → Entry = counted leg.way leg.now (end_of rules.timers new) in
      let entry : Entry = change (first_entry rules.timers leg.now new) in
      let end : entry.end ≡ end_of rules.timers new =
      counted_end leg.way leg.now (end_of rules.timers new) (first_entry rules.timers leg.now new) in
      let opened : is_open leg.now entry ≡ true = ap (is_before leg.now) end ∙ new_open new is in
      let made : entry.made ≡ leg.now =
      counted_made leg.way leg.now (end_of rules.timers new) (first_entry rules.timers leg.now new) in
      let bound : entry.binding ≡ row new =
      counted_binding leg.way leg.now (end_of rules.timers new) (first_entry rules.timers leg.now new) in (
        each_pushed (λ e. e.made ≤ leg.now) entries entry tells.made (omega (arith, made)),
        ap (map hold) (filter_joined (is_open leg.now) entries (entry ∷ [])
            ∙ ap (λ v. filter (is_open leg.now) entries ++ cond v (entry ∷ []) []) opened)
            ∙ (map_joined hold (filter (is_open leg.now) entries) (entry ∷ [])
            ∙ (ap (λ (hs : List (Row × Option ℕ)). hs ++ hold entry ∷ []) holds
            ∙ (ap (λ (r : Row). map (hold_of rules.timers) own ++ (r, entry.end) ∷ []) bound
            ∙ (ap (λ (o : Option ℕ). map (hold_of rules.timers) own ++ (row new, o) ∷ []) end
            ∙ sym (map_joined (hold_of rules.timers) own (new ∷ [])))))),
      )) in
      record {
        made = now.0;
        holds = now.1 ∙ purge_holds rules.timers t leg.now (act rules address leg list).list;
        differ = differ_act rules address leg list tells.differ;
      }

  -- The bindings named before the leg's time do not change.
  pub past_act : (past : ℕ) → past < leg.now → (entries : List Entry) →
      named past (logged_by rules.timers leg (act rules address leg list).through entries) ≡ named past entries
  past_act past lt entries =
      let fresh : Each (IsFresh rules.timers leg.now) own = fresh_purged rules.timers leg.now list in
      of_moves rules t address leg list
      (λ went left. named past (logged_by rules.timers leg went entries) ≡ named past entries) refl
      (λ p f b found same keeps.
      let new : IsFresh rules.timers leg.now (f b) = keeps b (find_passes p (IsFresh rules.timers leg.now) own b fresh
      found).1 in
      let end : Option ℕ = end_of rules.timers (f b) in
      let opened : is_before leg.now end ≡ true = new_open (f b) new in
      let change : Entry → Entry = entry_through leg.now (row (f b)) (counted leg.way leg.now end) in
      ap (map binding_of) (filter_seen (stands_at past) change entries)
      ∙ (map_twice binding_of change (filter (λ e. stands_at past (change e)) entries)
      ∙ (map_agrees (λ e. (change e).binding) binding_of (filter (λ e. stands_at past (change e)) entries)
      (changed_binding leg.way leg.now (row (f b)) end opened)
      ∙ ap (map binding_of) (filter_agrees (λ e. stands_at past (change e)) (stands_at past) entries
      (λ e. ap (λ (m : ℕ). nat_le m past && is_before past (change e).end)
      (changed_made leg.way leg.now (row (f b)) end opened e)
      ∙ ap (λ v. nat_le e.made past && v)
      (changed_before leg.way leg.now (row (f b)) end opened past (omega arith) e))))))
      (λ new out is others.
      let entry : Entry = counted leg.way leg.now (end_of rules.timers new) (first_entry rules.timers leg.now new) in
      let made : entry.made ≡ leg.now =
      counted_made leg.way leg.now (end_of rules.timers new) (first_entry rules.timers leg.now new) in
      let later : nat_le leg.now past ≡ false = grind (arith, nat_tests) in
      ap (map binding_of) (filter_joined (stands_at past) entries (entry ∷ [])
      ∙ (ap (λ v. filter (stands_at past) entries ++ cond (v && is_before past entry.end) (entry ∷ []) [])
      (ap (λ (m : ℕ). nat_le m past) made ∙ later)
      ∙ append-nil (filter (stands_at past) entries))))

-- ACTS IN TURN

module _ (ends : EndsAreFirst) (rules : Rules) (t : AreTimers rules.timers) where
  pub told_turn : (clock : ℕ) (list : List Binding) (acts : List LegAct) (last : ℕ) (new : List Binding)
      (entries : List Entry) → InTurn rules clock list acts last new → Tells rules.timers clock list entries →
      Tells rules.timers last new (fold (logged rules.timers) entries acts)
  told_turn clock list [] last new entries p tells = grind (arith, common_steps, nat_tests, tells_later)
  told_turn clock list (a ∷ acts) last new entries p tells =
      told_turn a.leg.now (act rules a.address a.leg list).list acts last new (logged rules.timers entries a) p.1
      (subst (λ (went : Option BindingUse). Tells rules.timers a.leg.now (act rules a.address a.leg list).list
      (logged_by rules.timers a.leg went entries)) (sym p.0.through)
      (tells_act ends rules t a.address a.leg list entries
      (tells_later ends rules.timers t clock a.leg.now p.0.later list entries tells)))

  pub past_turn : (past clock : ℕ) → past < clock → (list : List Binding) (acts : List LegAct) (last : ℕ)
      (new : List Binding) (entries : List Entry) → InTurn rules clock list acts last new →
      named past (fold (logged rules.timers) entries acts) ≡ named past entries
  past_turn past clock lt list [] last new entries p = refl
  past_turn past clock lt list (a ∷ acts) last new entries p =
      let le : clock ≤ a.leg.now = p.0.later in
      past_turn past a.leg.now (omega arith) (act rules a.address a.leg list).list acts last new
      (logged rules.timers entries a) p.1
      ∙ (ap (λ (went : Option BindingUse). named past (logged_by rules.timers a.leg went entries)) p.0.through
      ∙ past_act ends rules t a.address a.leg list past (omega arith) entries)
