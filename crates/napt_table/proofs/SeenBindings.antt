-- The stored bindings and the list, as time passes and packets come.
use Rattle.std.{proofs.Common.{◌≡◌, ℕ, ◌≤◌, true, false, cond, List, map, Option, Some, None, refl, sym, ◌∙◌, ap}, specs.{Prelude.find, Option.is_some}}
use Rattle.std.proofs.lemmas.{Bool.true≢false, Option.same_Some}
use Rattle.napt_wire.specs.declared.Protocol.{Protocol}
use Rattle.napt_config.specs.declared.settings.Timers.{Timers}
use Rattle.napt_rules.{specs.Prelude.{Binding, has_number, is_live, with_live_flows, purge, row, AreBindingsApart}, proofs.Life.{lived, live_same}}
use Rattle.napt_table.specs.HeldLists.{seen_binding, ShowsHeld}
use Rattle.napt_laws.proofs.{Purges.flows_same, UniqueSearches.{Once, kept, find_kept}, Endpoints.once_number}

-- WHAT IS VISIBLE

pub seen_is : (timers : Timers) (now : ℕ) (o : Option Binding) (b : Binding) → seen_binding timers now o ≡ Some b →
    (c : Binding) × (o ≡ Some c) × (is_live timers now c ≡ true) × (with_live_flows timers now c ≡ b)
seen_is timers now None b e = cc
seen_is timers now (Some c) b e = elim (is_live timers now c) as (λ v. is_live timers now c ≡ v →
    cond v (Some (with_live_flows timers now c)) None ≡ Some b → (d : Binding) × (Some c ≡ Some d)
    × (is_live timers now d ≡ true) × (with_live_flows timers now d ≡ b)) [
      | true ↦ λ l g. (c, refl, l, same_Some (with_live_flows timers now c) b g)
      | false ↦ λ l g. cc
    ] refl e

pub seen_live : (timers : Timers) (now : ℕ) (c b : Binding) → is_live timers now c ≡ true → with_live_flows timers now c
    ≡ b → seen_binding timers now (Some c) ≡ Some b
seen_live timers now c b l e = ap (λ v. cond v (Some (with_live_flows timers now c)) None) l
    ∙ ap (λ (x : Binding). Some x) e

pub seen_dead : (timers : Timers) (now : ℕ) (c : Binding) → is_live timers now c ≡ false →
    seen_binding timers now (Some c)
    ≡ None
seen_dead timers now c l = ap (λ v. cond v (Some (with_live_flows timers now c)) None) l

-- A live binding is visible, so a number has a visible binding if and only if it has a stored one.
pub live_is_seen : (timers : Timers) (now : ℕ) (o : Option Binding) →
    ((b : Binding) → o ≡ Some b → is_live timers now b ≡ true) → is_some (seen_binding timers now o) ≡ is_some o
live_is_seen timers now None live = refl
live_is_seen timers now (Some b) live =
    ap (λ v. is_some (cond v (Some (with_live_flows timers now b)) None)) (live b refl)

-- TIME

seen_kept : (timers : Timers) (now : ℕ) (o : Option Binding) → kept (is_live timers now) (with_live_flows timers now) o
    ≡ seen_binding timers now o
seen_kept timers now None = refl
seen_kept timers now (Some b) = refl

pub find_seen : (timers : Timers) (now address : ℕ) (protocol : Protocol) (number : ℕ) (list : List Binding) →
    Once (λ b. has_number address protocol number b.row) list →
    find (λ b. has_number address protocol number b.row) (purge timers now list)
    ≡ seen_binding timers now (find (λ b. has_number address protocol number b.row) list)
find_seen timers now address protocol number list once =
    find_kept (is_live timers now) (λ b. has_number address protocol number b.row) (with_live_flows timers now)
    (λ b. refl) list once ∙ seen_kept timers now (find (λ b. has_number address protocol number b.row) list)

pub find_purged : (timers : Timers) (now address : ℕ) (protocol : Protocol) (number : ℕ) (list : List Binding) →
    AreBindingsApart (map row list) → find (λ b. has_number address protocol number b.row) (purge timers now list)
    ≡ seen_binding timers now (find (λ b. has_number address protocol number b.row) list)
find_purged timers now address protocol number list apart =
    find_seen timers now address protocol number list (once_number address protocol number list apart)

-- The later visible part of the part that is visible now is the later visible part of the binding.
pub seen_seen : (timers : Timers) (n m : ℕ) → n ≤ m → (o : Option Binding) →
    seen_binding timers m (seen_binding timers n o)
    ≡ seen_binding timers m o
seen_seen timers n m le None = refl
seen_seen timers n m le (Some b) = elim (is_live timers n b) as (λ v. is_live timers n b ≡ v →
    seen_binding timers m (cond v (Some (with_live_flows timers n b)) None) ≡ cond (is_live timers m b)
    (Some (with_live_flows timers m b)) None) [
      | true ↦ λ e.
          ap (λ v. cond v (Some (with_live_flows timers m (with_live_flows timers n b))) None)
          (live_same timers n m le b)
          ∙ ap (λ (c : Binding). cond (is_live timers m b) (Some c) None) (flows_same timers n m le b)
      | false ↦ λ e. elim (is_live timers m b) as (λ w. is_live timers m b ≡ w →
          None ≡ cond w (Some (with_live_flows timers m b)) None) [
            | true ↦ λ f. absurd (true≢false (sym (lived timers n m le b f) ∙ e))
            | false ↦ λ f. refl
          ] refl
    ] refl

pub shows_later : (timers : Timers) (at now address : ℕ) (protocol : Protocol) (held : ℕ → Option Binding)
    (list : List Binding) → AreBindingsApart (map row list) → at ≤ now →
    ShowsHeld timers at address protocol held list →
    ShowsHeld timers now address protocol held (purge timers now list)
shows_later timers at now address protocol held list apart le shows n =
    find_purged timers now address protocol n list apart
    ∙ (ap (seen_binding timers now) (shows n) ∙ seen_seen timers at now le
    (held n))

-- In a list of live bindings, what is found is visible.
pub found_seen : (timers : Timers) (now address : ℕ) (protocol : Protocol) (number : ℕ) (list : List Binding) →
    AreBindingsApart (map row list) → purge timers now list ≡ list →
    find (λ b. has_number address protocol number b.row) list
    ≡ seen_binding timers now (find (λ b. has_number address protocol number b.row) list)
found_seen timers now address protocol number list apart live =
    ap (find (λ b. has_number address protocol number b.row)) (sym live)
    ∙ find_purged timers now address protocol number list
    apart
