-- The bindings of a state that end at the start of a run, and those that continue.
use Rattle.std.proofs.lemmas.{Bool.{true≢false, Decides.nat_tests}, List.{get_or-take, drop-set, length-set, map-append, take-set, take-take}}
use Rattle.std.proofs.Common.{◌≡◌, ℕ, zero, suc, ◌+◌, ◌-◌, ◌*◌, ◌<◌, ◌≤◌, ◌==◌, ◌^◌, nat_le, is_some, SomeIff, Bool, true, false, not, ◌&&◌, ◌||◌, cond, List, [], ◌∷◌, ◌++◌, map, drop, take, set, get_or, length, Option, Some, None, refl, sym, ◌∙◌, ap, subst, arith}
use Rattle.std.specs.List.{list_any}
use Rattle.napt_config.specs.Rules.{Rules, AreTimers}
use Rattle.napt_rules.specs.{Prelude.{Binding, State, Timers, Protocol, Icmp, Tcp, Udp, dynamic_bindings, hold_ago, is_live, misfit, ns_per_second, with_live_flows}, Life.is_live_by, Misfits.{misfit_in, misfit_of, misfit_or}, declared.{Misfit.Misfit, Row.Row}}
use Rattle.napt_binding.specs.Ends.{end_by_protocol, is_before}
use Rattle.napt_account.specs.declared.account.Account.{Account}
use Rattle.napt_account.specs.{LogStarts.{SavedLogStateModel, accounted, are_accounts, are_apart, has_redirect, is_account, is_saved_log_state, resumed_entry, with_account}, LogParts.is_open, OpenEntries.{entry_key, external_eq}}
use Rattle.napt_state.proofs.{StandingBindings.{going_on, dynamic_going}, TakenBindings.drop_before}
use Rattle.napt_state.specs.EndedMisfits.{EndsMisfits, IsLate, before_fitting, misfits_in, ended_misfits, fitting, fitting_in, ended_long_ago, ended_long_ago_if, goes_on, one_if, why_ended, without_misfits}

-- ONE MORE BINDING

module _ (rules : Rules) (clock : ℕ) (b : Binding) (rest : List Binding) where
  abbrev pub held : ℕ
  held = hold_ago rules.timers clock

  abbrev pub live : Binding
  live = with_live_flows rules.timers held b

  abbrev pub others : List Binding
  others = fitting_in rules clock rest

  abbrev pub why : Option Misfit
  why = why_ended rules clock b others

  by_going : (goes : Bool) → goes_on rules.timers held b ≡ goes → fitting_in rules clock (b ∷ rest)
      ≡ fitting rules clock (cond goes (live ∷ going_on rules.timers held rest) (going_on rules.timers held rest))
  by_going goes is = ap (fitting rules clock) (dynamic_going rules (record { clock = clock; list = b ∷ rest }))
      ∙ ap (λ v. fitting rules clock
      (cond v (live ∷ going_on rules.timers held rest) (going_on rules.timers held rest))) is

  same_rest : fitting rules clock (going_on rules.timers held rest) ≡ others
  same_rest = sym (ap (fitting rules clock) (dynamic_going rules (record { clock = clock; list = rest })))

  why_is : (goes : Bool) → goes_on rules.timers held b ≡ goes →
      why ≡ cond goes (misfit_of rules clock live others) None
  why_is goes is = ap (λ v. cond v (misfit_of rules clock live others) None) is

  pub stays_away : goes_on rules.timers held b ≡ false → fitting_in rules clock (b ∷ rest) ≡ others
  stays_away is = by_going false is ∙ same_rest

  going : goes_on rules.timers held b ≡ true → fitting_in rules clock (b ∷ rest)
      ≡ before_fitting live (misfit_of rules clock live others) others
  going is = by_going true is
      ∙ ap (λ (l : List Binding). before_fitting live (misfit_of rules clock live l) l) same_rest

  pub fits_on : goes_on rules.timers held b ≡ true → why ≡ None → fitting_in rules clock (b ∷ rest) ≡ live ∷ others
  fits_on is none = going is
      ∙ ap (λ m. before_fitting live m others) (sym (why_is true is) ∙ none)

  ends_by : (goes : Bool) → goes_on rules.timers held b ≡ goes → (found : Misfit) → why ≡ Some found →
      fitting_in rules clock (b ∷ rest) ≡ others
  ends_by true is found some = going is
      ∙ ap (λ m. before_fitting live m others) (sym (why_is true is) ∙ some)
  ends_by false is found some = stays_away is

  pub ends_now : (found : Misfit) → why ≡ Some found → fitting_in rules clock (b ∷ rest) ≡ others
  ends_now = ends_by (goes_on rules.timers held b) refl

  pub ended_as : (m : Option Misfit) → why ≡ m →
      ended_misfits rules clock (b ∷ rest) ≡ ended_long_ago_if m b ∷ ended_misfits rules clock rest
  ended_as m is = ap (λ w. ended_long_ago_if w b ∷ ended_misfits rules clock rest) is

  pub counted_as : (m : Option Misfit) → why ≡ m →
      misfits_in rules clock (b ∷ rest) ≡ one_if m + misfits_in rules clock rest
  counted_as m is = ap (λ w. one_if w + misfits_in rules clock rest) is

-- THE LIST FROM A PLACE ON

pub same_front : (l all : List Binding) (left : ℕ) → take left l ≡ take left all →
    take (left - 1) l ≡ take (left - 1) all
same_front l all left is = sym (take-take (left - 1) left l (omega arith)) ∙ ap (take (left - 1)) is
    ∙ take-take (left - 1) left all (omega arith)

pub same_place : (l all : List Binding) (left : ℕ) (d : Binding) → 0 < left → take left l ≡ take left all →
    get_or l (left - 1) d ≡ get_or all (left - 1) d
same_place l all left d some is = sym (get_or-take left l (left - 1) d (omega (arith, some)))
    ∙ ap (λ (m : List Binding). get_or m (left - 1) d) is
    ∙ get_or-take left all (left - 1) d (omega (arith, some))

pub taken_out : (m : Option Misfit) (b : Binding) → is_some m ≡ true → ended_long_ago b ≡ ended_long_ago_if m b
taken_out (Some found) b is = refl
taken_out None b is = absurd (true≢false (sym is))

pub counted : (m : Option Misfit) → is_some m ≡ true → one_if m ≡ 1
counted (Some found) is = refl
counted None is = absurd (true≢false (sym is))

pub value_of : (o : Option ℕ) (fits : Type 0) (v x : ℕ) → SomeIff o fits v → o ≡ Some x → x ≡ v
value_of o fits v x is some = (subst (λ (q : Option ℕ). SomeIff q fits v) some is).1

pub none_found : (m : Option Misfit) → is_some m ≡ false → m ≡ None
none_found None is = refl
none_found (Some found) is = absurd (true≢false is)

-- The binding before a place, of a list that is judged from there on.
module _ (rules : Rules) (clock : ℕ) (all list : List Binding) (left : ℕ) (b : Binding) (some : 0 < left)
    (within : left ≤ length all) (long : length list ≡ length all) (front : take left list ≡ take left all)
    (back : drop left list ≡ ended_misfits rules clock (drop left all)) (at : b ≡ get_or list (left - 1) b) where
  pub here : drop (left - 1) all ≡ b ∷ drop left all
  here = drop_before all left b some within
      ∙ ap (λ (d : Binding). d ∷ drop left all) (sym (same_place list all left b some front) ∙ sym at)

  pub long_after : (x : Binding) → length (set list (left - 1) x) ≡ length all
  long_after x = length-set list (left - 1) x ∙ long

  pub front_after : (x : Binding) → take (left - 1) (set list (left - 1) x) ≡ take (left - 1) all
  front_after x = take-set list (left - 1) x ∙ same_front list all left front

  pub back_after : (x : Binding) → x ≡ ended_long_ago_if (why rules clock b (drop left all)) b →
      drop (left - 1) (set list (left - 1) x) ≡ ended_misfits rules clock (drop (left - 1) all)
  back_after x is =
      let next : left - 1 + 1 ≡ left = omega (arith, some) in
      drop-set list (left - 1) x (omega (arith, some, within, long))
      ∙ ap (λ (n : ℕ). x ∷ drop n list) next
      ∙ ap (λ (l : List Binding). x ∷ l) back
      ∙ ap (λ (d : Binding). d ∷ ended_misfits rules clock (drop left all)) is
      ∙ sym (ap (ended_misfits rules clock) here)

  pub many_after : (many : ℕ) → many ≡ one_if (why rules clock b (drop left all)) + misfits_in rules clock
      (drop left all) →
      many ≡ misfits_in rules clock (drop (left - 1) all)
  many_after many is = is ∙ sym (ap (misfits_in rules clock) here)

  pub fits_if_some : (m : Option Misfit) → is_some m ≡ true → why rules clock b (drop left all) ≡ m →
      fitting_in rules clock (drop (left - 1) all) ≡ fitting_in rules clock (drop left all)
  fits_if_some (Some found) some is = ap (fitting_in rules clock) here ∙ ends_now rules clock b (drop left all) found is
  fits_if_some None some is = absurd (true≢false (sym some))

  pub fits_if_away : goes_on rules.timers (hold_ago rules.timers clock) b ≡ false →
      fitting_in rules clock (drop (left - 1) all) ≡ fitting_in rules clock (drop left all)
  fits_if_away away = ap (fitting_in rules clock) here ∙ stays_away rules clock b (drop left all) away

  pub fits_if_on : goes_on rules.timers (hold_ago rules.timers clock) b ≡ true →
      why rules clock b (drop left all) ≡ None → fitting_in rules clock (drop (left - 1) all)
      ≡ live rules clock b (drop left all) ∷ fitting_in rules clock (drop left all)
  fits_if_on on none = ap (fitting_in rules clock) here ∙ fits_on rules clock b (drop left all) on none

-- ACCOUNTS: what is given up keeps its row

abbrev Held : Type 0
Held = Row × Account

abbrev held_of : Binding × Account → Held
held_of kept = (kept.0.row, kept.1)

abbrev are_far : Held → Held → Bool
are_far kept other = not ((kept.1.number == other.1.number) || external_eq (entry_key kept.0) (entry_key other.0))

abbrev are_held : ℕ → ℕ → List Held → List Held → Bool
are_held made clock before [] = true
are_held made clock before (kept ∷ more) = is_account made clock kept.1
    && (not (list_any (λ other. not (are_far kept other)) before)
    && are_held made clock (before ++ kept ∷ []) more)

any_held : (kept : Binding × Account) (before : List (Binding × Account)) →
    list_any (λ other. not (are_apart kept other)) before
    ≡ list_any (λ other. not (are_far (held_of kept) other)) (map held_of before)
any_held kept [] = refl
any_held kept (other ∷ before) = ap (λ b. not (are_apart kept other) || b) (any_held kept before)

held_is : (made clock : ℕ) (before more : List (Binding × Account)) →
    are_accounts made clock before more ≡ are_held made clock (map held_of before) (map held_of more)
held_is made clock before [] = refl
held_is made clock before (kept ∷ more) =
    let rest : are_accounts made clock (before ++ kept ∷ []) more
    ≡ are_held made clock (map held_of before ++ held_of kept ∷ []) (map held_of more) =
    held_is made clock (before ++ kept ∷ []) more
    ∙ ap (λ (l : List Held). are_held made clock l (map held_of more)) (map-append held_of before (kept ∷ [])) in
    ap (λ b. is_account made clock kept.1 && (not b && are_accounts made clock (before ++ kept ∷ []) more))
    (any_held kept before)
    ∙ ap (λ b. is_account made clock kept.1
    && (not (list_any (λ other. not (are_far (held_of kept) other)) (map held_of before)) && b)) rest

given_row : (m : Option Misfit) (b : Binding) → (ended_long_ago_if m b).row ≡ b.row
given_row None b = refl
given_row (Some found) b = refl

same_held : (rules : Rules) (clock : ℕ) (list : List Binding) (accounts : List (Option Account)) →
    map held_of (accounted (ended_misfits rules clock list) accounts) ≡ map held_of (accounted list accounts)
same_held rules clock [] accounts = refl
same_held rules clock (b ∷ list) [] = refl
same_held rules clock (b ∷ list) (None ∷ accounts) = same_held rules clock list accounts
same_held rules clock (b ∷ list) (Some a ∷ accounts) =
    ap (λ (r : Row). (r, a) ∷ map held_of (accounted (ended_misfits rules clock list) accounts))
    (given_row (why rules clock b list) b)
    ∙ ap (λ (l : List Held). (b.row, a) ∷ l) (same_held rules clock list accounts)

pub accounts_stay : (rules : Rules) (state : State) (log : SavedLogStateModel) →
    is_saved_log_state (without_misfits rules state) log ≡ is_saved_log_state state log
accounts_stay rules state log =
    let ended : List (Binding × Account) =
    accounted (ended_misfits rules state.clock state.list) log.accounts in
    let all : List (Binding × Account) = accounted state.list log.accounts in
    ap (λ b. nat_le log.made (2 ^ 61) && b) (held_is log.made state.clock [] ended
    ∙ ap (are_held log.made state.clock []) (same_held rules state.clock state.list log.accounts)
    ∙ sym (held_is log.made state.clock [] all))

-- WHAT GOES ON

fits_if : (rules : Rules) (clock : ℕ) (b : Binding) (others : List Binding) (m : Option Misfit) →
    misfit_of rules clock b others ≡ m → misfit_in rules clock others ≡ None →
    misfit_in rules clock (before_fitting b m others) ≡ None
fits_if rules clock b others None is fit =
    ap (λ m. misfit_or b.row m (misfit_in rules clock others)) is ∙ fit
fits_if rules clock b others (Some found) is fit = fit

fitting_fit : (rules : Rules) (clock : ℕ) (list : List Binding) →
    misfit_in rules clock (fitting rules clock list) ≡ None
fitting_fit rules clock [] = refl
fitting_fit rules clock (b ∷ rest) = fits_if rules clock b (fitting rules clock rest)
    (misfit_of rules clock b (fitting rules clock rest)) refl (fitting_fit rules clock rest)

gone_by : (p : Protocol) (timers : Timers) (clock : ℕ) → IsLate timers clock → (row : Row) →
    is_live_by p timers (hold_ago timers clock) (record { row = row; last = 0; flows = [] }) ≡ false
gone_by Icmp timers clock late row = grind (arith, nat_tests, late.0)
gone_by Udp timers clock late row = grind (arith, nat_tests, late.1)
gone_by Tcp timers clock late row = refl

past_by : (p : Protocol) (timers : Timers) (clock : ℕ) → IsLate timers clock → (row : Row) →
    is_before clock (Some (end_by_protocol p timers (record { row = row; last = 0; flows = [] }))) ≡ false
past_by Icmp timers clock late row = grind (arith, nat_tests, late.0)
past_by Udp timers clock late row = grind (arith, nat_tests, late.1)
past_by Tcp timers clock late row = grind (arith, nat_tests)

module _ (rules : Rules) (clock : ℕ) (late : IsLate rules.timers clock) where
  gone_at : (b : Binding) (fixed : Bool) → b.row.fixed ≡ fixed →
      goes_on rules.timers (hold_ago rules.timers clock) (ended_long_ago b) ≡ false
  gone_at b true is = ap (λ v. not v && (v || is_live_by b.row.protocol rules.timers
      (hold_ago rules.timers clock) (ended_long_ago b))) is
  gone_at b false is = ap (λ v. not v && (v || is_live_by b.row.protocol rules.timers
      (hold_ago rules.timers clock) (ended_long_ago b))) is
      ∙ gone_by b.row.protocol rules.timers clock late b.row

  gone : (b : Binding) → goes_on rules.timers (hold_ago rules.timers clock) (ended_long_ago b) ≡ false
  gone b = gone_at b b.row.fixed refl

  goes_as : (goes : Bool) (b : Binding) (list : List Binding) →
      goes_on rules.timers (hold_ago rules.timers clock) b ≡ goes →
      going_on rules.timers (hold_ago rules.timers clock) (b ∷ list)
      ≡ cond goes (with_live_flows rules.timers (hold_ago rules.timers clock) b
      ∷ going_on rules.timers (hold_ago rules.timers clock) list)
      (going_on rules.timers (hold_ago rules.timers clock) list)
  goes_as goes b list is = ap (λ v. cond v (with_live_flows rules.timers (hold_ago rules.timers clock) b
      ∷ going_on rules.timers (hold_ago rules.timers clock) list)
      (going_on rules.timers (hold_ago rules.timers clock) list)) is

  step : (b : Binding) (rest : List Binding) →
      going_on rules.timers (hold_ago rules.timers clock) (ended_misfits rules clock rest)
      ≡ fitting_in rules clock rest → (m : Option Misfit) → why rules clock b rest ≡ m → (goes : Bool) →
      goes_on rules.timers (hold_ago rules.timers clock) b ≡ goes →
      going_on rules.timers (hold_ago rules.timers clock) (ended_long_ago_if m b ∷ ended_misfits rules clock rest)
      ≡ fitting_in rules clock (b ∷ rest)
  step b rest so_far None is true goes = goes_as true b (ended_misfits rules clock rest) goes
      ∙ ap (λ (l : List Binding). with_live_flows rules.timers (hold_ago rules.timers clock) b ∷ l) so_far
      ∙ sym (fits_on rules clock b rest goes is)
  step b rest so_far None is false goes = goes_as false b (ended_misfits rules clock rest) goes ∙ so_far
      ∙ sym (stays_away rules clock b rest goes)
  step b rest so_far (Some found) is goes on =
      goes_as false (ended_long_ago b) (ended_misfits rules clock rest) (gone b) ∙ so_far
      ∙ sym (ends_now rules clock b rest found is)

  rest_fits : (list : List Binding) →
      going_on rules.timers (hold_ago rules.timers clock) (ended_misfits rules clock list)
      ≡ fitting_in rules clock list
  rest_fits [] = refl
  rest_fits (b ∷ rest) = step b rest (rest_fits rest) (why rules clock b rest) refl
      (goes_on rules.timers (hold_ago rules.timers clock) b) refl

pub misfits_end : (rules : Rules) → AreTimers rules.timers → (state : State) → IsLate rules.timers state.clock →
    EndsMisfits rules state
misfits_end rules are state late =
    let rest : dynamic_bindings rules (without_misfits rules state) ≡ fitting_in rules state.clock state.list =
    dynamic_going rules (without_misfits rules state) ∙ rest_fits rules state.clock late state.list in
    record {
      rest = rest;
      fits = ap (misfit_in rules state.clock) rest
          ∙ fitting_fit rules state.clock (dynamic_bindings rules state);
      told = λ b loose account.
          ap (λ v. is_before state.clock (cond v (cond (has_redirect rules b.row) None (Some state.clock)) (cond v None
          (Some (end_by_protocol b.row.protocol rules.timers (ended_long_ago b)))))) loose
          ∙ past_by b.row.protocol rules.timers state.clock late b.row;
    }
